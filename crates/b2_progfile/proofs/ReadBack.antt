-- A program that sectors spell is read back, and what is read is spelled.
use Rattle.std.proofs.Common.{◌≡◌, ℕ, zero, suc, ◌+◌, ◌-◌, ◌*◌, ◌/◌, ◌%◌, ◌<◌, ◌≤◌, ◌==◌, ◌&&◌, Bool, true, false, nat_le, nat_lt, if◌then◌else◌, List, [], ◌∷◌, ◌++◌, length, replicate, Option, Some, None, refl, sym, ap, ap₂, ◌∙◌, subst, arith, append_assoc, length-append, le-leb, lt-ltb, ne_eqb}
use Rattle.std.specs.List.{list_all}
use Rattle.std.specs.Str.{bytes_eq}
use Rattle.std.proofs.lemmas.Bool.{and_from, and_parts, eq-eqb, eqb-true, leb-true, ltb-true}
use Rattle.std.proofs.lemmas.List.{length-replicate}
use Rattle.std.proofs.lemmas.Slice.Eq.{bytes_eq-Decides}
use Rattle.std.proofs.Math.Seq.{drop-append_seam, take-append_seam}
use Rattle.b2_base.specs.Lexical.{first}
use Rattle.b2_atom.specs.Lines.{is_line}
use Rattle.b2_text.specs.Program.{Lines}
use Rattle.b2_progfile.specs.declared.spelling.TheConstants.{PIECE, PROGRAM_END}
use Rattle.b2_progfile.specs.Programs.{AllPieces, Ascending, IsProgramText, SpellsProgram, all_line_bytes, held_bytes, line_bytes, program_bytes}
use Rattle.b2_progfile.specs.Reading.{is_ascending, is_filled_up, lines_in, program_as, program_in, spells_program}
use Rattle.b2_progfile.proofs.Parsing.{program-parts}

-- ---- lines that were spelled are read

end-back : (n : ℕ) (bytes : List ℕ) → lines_in n (255 ∷ 255 ∷ bytes) ≡ []
end-back zero bytes = refl
end-back (suc n) [] = refl
end-back (suc n) (b ∷ bytes) = refl

line-back : (n number : ℕ) (atoms rest : List ℕ) → number ≤ 9999 → lines_in (suc n) (line_bytes (number, atoms) ++ rest) ≡ (number, atoms) ∷ lines_in n rest
line-back n number atoms rest small =
    let other : (number / 256 == PROGRAM_END) ≡ false = ne_eqb (number / 256) PROGRAM_END (λ e. omega (arith, e, small)) in
    let same : number / 256 * 256 + number % 256 ≡ number = omega arith in
    rw (other, same) (ap₂ (λ (a b : List ℕ). (number, a) ∷ lines_in n b) (take-append_seam atoms rest) (drop-append_seam atoms rest))

lines-back : (n least : ℕ) (lines : Lines) (bytes : List ℕ) → Ascending least lines → length lines ≤ n → lines_in n (all_line_bytes lines ++ 255 ∷ 255 ∷ bytes) ≡ lines
lines-back n least [] bytes h few = end-back n bytes
lines-back zero least (l ∷ lines) bytes h few = absurd (omega (arith, few))
lines-back (suc n) least (l ∷ lines) bytes h few =
    ap (lines_in (suc n)) (append_assoc (line_bytes l) (all_line_bytes lines) (255 ∷ 255 ∷ bytes))
    ∙ (line-back n l.0 l.1 (all_line_bytes lines ++ 255 ∷ 255 ∷ bytes) h.1
    ∙ ap (λ (ls : Lines). l ∷ ls) (lines-back n (l.0 + 1) lines bytes h.3 (omega (arith, few))))

many-bytes : (lines : Lines) → length lines ≤ length (all_line_bytes lines)
many-bytes [] = omega arith
many-bytes (l ∷ lines) = omega (arith, many-bytes lines, length-append (line_bytes l) (all_line_bytes lines))

text-back : (lines : Lines) (bytes : List ℕ) → IsProgramText lines bytes → lines_in (length bytes) bytes ≡ lines
text-back lines bytes t =
    let all = t.same ∙ program-parts lines (replicate t.zeros 0) in
    let few : length lines ≤ length bytes = omega (arith, many-bytes lines, ap length all, length-append (all_line_bytes lines) (255 ∷ 255 ∷ replicate t.zeros 0)) in
    ap (lines_in (length bytes)) all ∙ lines-back (length bytes) 0 lines (replicate t.zeros 0) t.ascending few

-- ---- the test is the relation

pieces-yes : (sectors : List (List ℕ)) → AllPieces sectors → list_all (λ s. first s == PIECE) sectors ≡ true
pieces-yes [] h = refl
pieces-yes (s ∷ sectors) h = and_from _ _ (eq-eqb (first s) PIECE h.0) (pieces-yes sectors h.1)

pieces-from : (sectors : List (List ℕ)) → list_all (λ s. first s == PIECE) sectors ≡ true → AllPieces sectors
pieces-from [] h = tt
pieces-from (s ∷ sectors) h = let parts = and_parts (first s == PIECE) (list_all (λ s. first s == PIECE) sectors) h in (eqb-true (first s) PIECE parts.0, pieces-from sectors parts.1)

ascending-yes : (least : ℕ) (lines : Lines) → Ascending least lines → is_ascending least lines ≡ true
ascending-yes least [] h = refl
ascending-yes least (l ∷ lines) h =
    and_from _ _ (and_from _ _ (and_from _ _ (le-leb least l.0 h.0) (le-leb l.0 9999 h.1)) h.2) (ascending-yes (l.0 + 1) lines h.3)

ascending-from : (least : ℕ) (lines : Lines) → is_ascending least lines ≡ true → Ascending least lines
ascending-from least [] h = tt
ascending-from least (l ∷ lines) h =
    let all = and_parts (nat_le least l.0 && nat_le l.0 9999 && is_line l.1) (is_ascending (l.0 + 1) lines) h in
    let own = and_parts (nat_le least l.0 && nat_le l.0 9999) (is_line l.1) all.0 in
    let number = and_parts (nat_le least l.0) (nat_le l.0 9999) own.0 in
    (leb-true least l.0 number.0, leb-true l.0 9999 number.1, own.1, ascending-from (l.0 + 1) lines all.1)

filled-yes : (text bytes : List ℕ) (zeros : ℕ) → zeros < 255 → bytes ≡ text ++ replicate zeros 0 → is_filled_up text bytes ≡ true
filled-yes text bytes zeros few same =
    let n = ap length same ∙ length-append text (replicate zeros 0) in
    let z = length-replicate {A = ℕ} zeros 0 in
    let left : length bytes - length text ≡ zeros = omega (arith, n, z) in
    and_from _ _ (lt-ltb (length bytes - length text) 255 (omega (arith, left, few)))
    ((bytes_eq-Decides bytes (text ++ replicate (length bytes - length text) 0)).1 (same ∙ ap (λ (k : ℕ). text ++ replicate k 0) (sym left)))

program-yes : (lines : Lines) (sectors : List (List ℕ)) → SpellsProgram lines sectors → spells_program lines sectors ≡ true
program-yes lines sectors p =
    and_from _ _ (and_from _ _ (pieces-yes sectors p.pieces) (ascending-yes 0 lines p.text.ascending)) (filled-yes (program_bytes lines) (held_bytes sectors) p.text.zeros p.text.few p.text.same)

program-from : (lines : Lines) (sectors : List (List ℕ)) → spells_program lines sectors ≡ true → SpellsProgram lines sectors
program-from lines sectors h =
    let text = program_bytes lines in
    let bytes = held_bytes sectors in
    let all = and_parts (list_all (λ s. first s == PIECE) sectors && is_ascending 0 lines) (is_filled_up text bytes) h in
    let own = and_parts (list_all (λ s. first s == PIECE) sectors) (is_ascending 0 lines) all.0 in
    let full = and_parts (nat_lt (length bytes - length text) 255) (bytes_eq bytes (text ++ replicate (length bytes - length text) 0)) all.1 in
    record {
      pieces = pieces-from sectors own.0;
      text = record {
        ascending = ascending-from 0 lines own.1;
        zeros = length bytes - length text;
        few = ltb-true (length bytes - length text) 255 full.0;
        same = (bytes_eq-Decides bytes (text ++ replicate (length bytes - length text) 0)).0 full.1;
      };
    }

-- ---- what is read

pub program-read : (lines : Lines) (sectors : List (List ℕ)) → SpellsProgram lines sectors → program_in sectors ≡ Some lines
unfolding program_in
program-read lines sectors p =
    ap (λ (ls : Lines). program_as ls sectors) (text-back lines (held_bytes sectors) p.text)
    ∙ ap (λ (b : Bool). if b then Some lines else None) (program-yes lines sectors p)

as-spelled : (read lines : Lines) (sectors : List (List ℕ)) (b : Bool) → spells_program read sectors ≡ b → (if b then Some read else None) ≡ Some lines → SpellsProgram lines sectors
as-spelled read lines sectors true is same = let one : read ≡ lines = cc in subst (λ (ls : Lines). SpellsProgram ls sectors) one (program-from read sectors is)
as-spelled read lines sectors false is same = cc

pub program-spelled-there : (lines : Lines) (sectors : List (List ℕ)) → program_in sectors ≡ Some lines → SpellsProgram lines sectors
unfolding program_in
program-spelled-there lines sectors same =
    as-spelled (lines_in (length (held_bytes sectors)) (held_bytes sectors)) lines sectors (spells_program (lines_in (length (held_bytes sectors)) (held_bytes sectors)) sectors) refl same

none-from : (sectors : List (List ℕ)) (o : Option Lines) → program_in sectors ≡ o → ((lines : Lines) → SpellsProgram lines sectors → ⊥) → o ≡ None
none-from sectors None is none = refl
none-from sectors (Some lines) is none = absurd (none lines (program-spelled-there lines sectors is))

pub none-read : (sectors : List (List ℕ)) → ((lines : Lines) → SpellsProgram lines sectors → ⊥) → program_in sectors ≡ None
none-read sectors none = none-from sectors (program_in sectors) refl none

pub read-none : (sectors : List (List ℕ)) → program_in sectors ≡ None → (lines : Lines) → SpellsProgram lines sectors → ⊥
read-none sectors is lines p = let bad = sym is ∙ program-read lines sectors p in cc
