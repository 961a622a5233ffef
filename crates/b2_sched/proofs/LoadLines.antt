-- The line that loads a program and starts it is a line of the language: it spells a tree.
use Rattle.std.specs.Prelude.{◌≡◌, ℕ, zero, suc, ◌+◌, ◌-◌, ◌<◌, ◌≤◌, ◌&&◌, ◌||◌, ◌==◌, not, nat_lt, nat_le, max, Bool, true, false, [], ◌∷◌, ◌++◌, length, take, get_or, if◌then◌else◌, refl}
use Rattle.std.proofs.Common.{sym, ap, subst, ◌∙◌, arith, append-nil, length-append, add-one}
use Rattle.std.proofs.lemmas.Bool.{and_parts, leb-true}
use Rattle.std.proofs.lemmas.Bool.Decides.{nat_tests}
use Rattle.std.specs.List.{suffix_len}
use Rattle.b2_base.specs.Byte as byte
use Rattle.b2_base.specs.Lexical.{is_printable, all_printable}
use Rattle.b2_base.specs.Names.{is_name8}
use Rattle.b2_alpha.specs.Values.{is_blank, value_of}
use Rattle.b2_atom.specs.Words.{Text}
use Rattle.b2_atom.specs.Tokens.Token.{Coded, Plain}
use Rattle.b2_atom.specs.Tree.{Trees, atoms}
use Rattle.b2_atom.specs.Tree.Trees.{Done, Put, In}
use Rattle.b2_atom.specs.Leaves.{until_quote}
use Rattle.b2_atom.specs.Spelling.{is_whole}
use Rattle.b2_atom.specs.Grammar.{row_items}
use Rattle.b2_atom.specs.Lines.{is_line}
use Rattle.b2_atom.specs.Laws.{IsTree}
use Rattle.b2_atom.specs.declared.words.TheConstants as word
use Rattle.b2_atom.specs.declared.rows.TheConstants as row
use Rattle.b2_atom.specs.declared.forms.Leaf.TheVariants as leaf
use Rattle.b2_atom.proofs.lines.LineLaws.{tree_is_line}
use Rattle.b2_boot.specs.Boots.{has_quote, is_program_name}
use Rattle.b2_sched.specs.Start.{load_line}

-- a name between quotes
abbrev quoted : Text → Text
quoted name = byte.quote ∷ (name ++ byte.quote ∷ [])

-- the tree of the line
abbrev load_tree : Text → Trees
load_tree literal =
    In row.LOAD
    (Put (Coded word.LOAD) (In 1 (Put (Coded word.RUN) Done)
    (In 2 (In 0 (Put (Coded byte.upper_t) (In 0 (Put (Coded byte.comma) Done) Done)) Done)
    (In 2 (In 2 (In 1 (Put (Plain leaf.Literal literal) Done) Done) (In 0 Done Done)) Done))))
    (In 0 Done Done)

-- what is printable and has no quote goes on to the quote after it
until_by : (q p : Bool) (k : ℕ) (bs : Text) → (p && all_printable bs) ≡ true → (q || has_quote bs) ≡ false
    → (all_printable bs ≡ true → has_quote bs ≡ false → until_quote (take k bs ++ byte.quote ∷ []) ≡ length (take k bs))
    → ◌≡◌ {A = ℕ} (if q || not p then 0 else suc (until_quote (take k bs ++ byte.quote ∷ []))) (suc (length (take k bs)))
until_by true p k bs shown none later = cc
until_by false true k bs shown none later = ap suc (later shown none)
until_by false false k bs shown none later = cc

until : (k : ℕ) (name : Text) → all_printable name ≡ true → has_quote name ≡ false → until_quote (take k name ++ byte.quote ∷ []) ≡ length (take k name)
until zero name printable unquoted = refl
until (suc k) [] printable unquoted = refl
until (suc k) (b ∷ bs) printable unquoted = until_by (b == byte.quote) (is_printable b) k bs printable unquoted (until k bs)

at_end : (w : Text) (x : ℕ) → get_or (w ++ x ∷ []) (length w) 0 ≡ x
at_end [] x = refl
at_end (b ∷ bs) x = at_end bs x

-- so a front of it between quotes is a whole literal, where it isn't empty
one_further : (x : Text) (n : ℕ) → get_or (byte.quote ∷ x) (n + 1) 0 ≡ get_or x n 0
one_further x n = ap (λ (m : ℕ). get_or (byte.quote ∷ x) m 0) (add-one n)

whole_by : (m l u : ℕ) → m ≡ byte.quote → 0 < u → l ≡ u + 1 → (nat_lt 0 (suc l) && ((if nat_lt 0 u && (m == byte.quote) then u + 2 else 0) == suc l)) ≡ true
whole_by m l u closed some long = grind (arith, nat_tests)

whole : (x : Text) (u : ℕ) → until_quote x ≡ u → 0 < u → get_or x u 0 ≡ byte.quote → length x ≡ u + 1 → is_whole leaf.Literal (byte.quote ∷ x) ≡ true
whole x u goes some closed long =
    ap (λ (n : ℕ). nat_lt 0 (suc (length x)) && ((if nat_lt 0 n && (get_or (byte.quote ∷ x) (n + 1) 0 == byte.quote) then n + 2 else 0) == suc (length x))) goes
    ∙ whole_by (get_or (byte.quote ∷ x) (u + 1) 0) (length x) u (one_further x u ∙ closed) some long

front_is_whole : (k : ℕ) (name : Text) → all_printable name ≡ true → has_quote name ≡ false → 0 < length (take k name) → is_whole leaf.Literal (quoted (take k name)) ≡ true
front_is_whole k name printable unquoted some =
    let w = take k name in
    whole (w ++ byte.quote ∷ []) (length w) (until k name printable unquoted) some (at_end w byte.quote) (length-append w (byte.quote ∷ []))

-- a tree of the language
fits : (literal : Text) → is_whole leaf.Literal literal ≡ true → IsTree (load_tree literal)
unfolding row_items
fits literal is = record {
  fits = (refl, ((refl, ((refl, refl), (refl, (((refl, ((refl, refl), refl)), refl), (refl, ((refl, (((is, refl), refl), (refl, refl))), refl)))))), (refl, refl)));
  remarks = (λ h. cc, (λ h. cc, (λ h. cc, (λ h. cc, (λ h. cc, tt)))));
}

-- whose atoms are the line
nils : (u : Text) → (((((u ++ []) ++ []) ++ []) ++ []) ++ []) ≡ u
nils u = append-nil ((((u ++ []) ++ []) ++ []) ++ []) ∙ append-nil (((u ++ []) ++ []) ++ []) ∙ append-nil ((u ++ []) ++ []) ∙ append-nil (u ++ []) ∙ append-nil u

spelled : (u : Text) → atoms (load_tree (byte.quote ∷ u)) ≡ word.LOAD ∷ word.RUN ∷ byte.upper_t ∷ byte.comma ∷ byte.quote ∷ u
spelled u = ap (λ (v : Text). word.LOAD ∷ word.RUN ∷ byte.upper_t ∷ byte.comma ∷ byte.quote ∷ v) (nils u)

-- the front of a name
taken_some : (k b : ℕ) (bs : Text) → 0 < k → 0 < length (take k (b ∷ bs))
taken_some zero b bs some = absurd (omega arith)
taken_some (suc k) b bs some = omega arith

taken_most : (k : ℕ) (name : Text) → length (take k name) ≤ length name
taken_most zero name = omega arith
taken_most (suc k) [] = omega arith
taken_most (suc k) (b ∷ bs) = let more = taken_most k bs in omega arith

taken_again : (k : ℕ) (name : Text) → take (length (take k name)) name ≡ take k name
taken_again zero name = refl
taken_again (suc k) [] = refl
taken_again (suc k) (b ∷ bs) = ap (λ (rest : Text). b ∷ rest) (taken_again k bs)

pub value_taken : (name : Text) → take (length (value_of name)) name ≡ value_of name
value_taken name = taken_again (max 1 (length name - suffix_len is_blank name)) name

least_one : (n : ℕ) → 0 < max 1 n
least_one n = omega arith

short : (w : Text) → length w ≤ 8 → length (word.LOAD ∷ word.RUN ∷ byte.upper_t ∷ byte.comma ∷ quoted w) ≤ 255
short w few = let long : length (w ++ byte.quote ∷ []) ≡ length w + 1 = length-append w (byte.quote ∷ []) in omega arith

unquoted_from : (b : Bool) → not b ≡ true → b ≡ false
unquoted_from true h = cc
unquoted_from false h = refl

last_two : (a b c : Bool) → (a && b && c) ≡ true → (b ≡ true) × (c ≡ true)
last_two true true true h = (refl, refl)
last_two true true false h = cc
last_two true false c h = cc
last_two false b c h = cc

pub line_loads : (name : Text) → is_program_name name ≡ true → is_line (load_line name) ≡ true
line_loads [] named = cc
line_loads (b ∷ bs) named =
    let name : Text = b ∷ bs in
    let (legal, unquoted) = and_parts (is_name8 name) (not (has_quote name)) named in
    let (few, printable) = last_two (not (b == byte.blank)) (nat_le (length name) 8) (all_printable name) legal in
    let k : ℕ = max 1 (length name - suffix_len is_blank name) in
    let w : Text = take k name in
    let literal = front_is_whole k name printable (unquoted_from (has_quote name) unquoted) (taken_some k b bs (least_one (length name - suffix_len is_blank name))) in
    let bound : length w ≤ 8 = (let most = taken_most k name in let all = leb-true (length name) 8 few in omega arith) in
    let is = spelled (w ++ byte.quote ∷ []) in
    subst (λ (line : Text). is_line line ≡ true) is (tree_is_line (load_tree (quoted w)) (fits (quoted w) literal) (subst (λ (line : Text). length line ≤ 255) (sym is) (short w bound)))
