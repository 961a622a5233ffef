-- A tree of a program's line: its atoms spell a line, whose canonical source is read as the same atoms.
use Rattle.std.proofs.Common.{◌≡◌, ℕ, zero, suc, ◌+◌, ◌<◌, Bool, true, false, ◌==◌, List, [], ◌∷◌, ◌++◌, length, refl, sym, ap, subst, ◌∙◌, arith, Ok, Err, is_ok}
use Rattle.b2_base.specs.Lexical.{all_printable, first, skip_blanks}
use Rattle.b2_atom.specs.Words.{Text}
use Rattle.b2_atom.specs.Tokens.{Token, token_atoms, listed, spelled, ends_wordy, is_operand}
use Rattle.b2_atom.specs.Tokens.Token.{Coded, Short, Plain, Lined}
use Rattle.b2_atom.specs.Tree.{Trees, Outcome, tokens, atoms}
use Rattle.b2_atom.specs.Lines.{line_atoms, line_source, atoms_of, source_of}
use Rattle.b2_atom.specs.Grammar.{reader, items, item, level, deep, statement, statement_within, statement_row, starts, row_items, parse_line}
use Rattle.b2_atom.specs.Spelling.{AllGood, good_token, is_whole, is_free_text, atoms_of_tokens}
use Rattle.b2_atom.specs.Fitting.{LineTree}
use Rattle.b2_atom.specs.declared.words.Origin.TheVariants as origin
use Rattle.b2_atom.specs.declared.forms.Position.TheVariants.{First}
use Rattle.b2_atom.specs.declared.forms.Leaf.{Leaf}
use Rattle.b2_atom.specs.declared.output.Stop.{Stop}
use Rattle.b2_atom.specs.declared.output.Stop.TheVariants.{At}
use Rattle.b2_atom.proofs.Booleans.{false_true, equal}
use Rattle.b2_atom.proofs.spelling.SideBySide.{not_empty}
use Rattle.b2_atom.proofs.spelling.SpellsSource.{token_fronted}
use Rattle.b2_atom.proofs.spelling.Printable.{listed_printable}
use Rattle.b2_atom.proofs.lines.Anywhere.{anywhere}
use Rattle.b2_atom.proofs.reading.FittedLines.{reads_fit}
use Rattle.b2_atom.proofs.lines.LineLaws.{tree_atoms, atoms_back, listed_back, ok_same}
use Rattle.b2_atom.proofs.settled.Beside.{good_tree}
use Rattle.b2_atom.proofs.spelling.Listed.{first_more}

-- a line begins with something, and with no blank
stopped_line : (s : Text) (n : ℕ) (e : Stop) → statement_row origin.Atoms First s ≡ Err e → 0 < n
    → is_ok (level (reader origin.Atoms) (statement (reader origin.Atoms) n) (deep (reader origin.Atoms) (statement (reader origin.Atoms) n) 32) 40 0 s) ≡ false
unfolding level items item row_items statement_within
stopped_line s zero e h some = absurd (omega arith)
stopped_line s (suc n) e h some = rw h refl

no_statement : (s : Text) (e : Stop) → statement_row origin.Atoms First s ≡ Err e → is_ok (parse_line origin.Atoms s) ≡ false
no_statement s e h = stopped_line s (length s + 1) e h (let some : 0 < length s + 1 = omega arith in some)

empty_row : statement_row origin.Atoms First [] ≡ Err (At 14 0)
unfolding statement_row starts
empty_row = refl

blank_row : (x : Text) → statement_row origin.Atoms First (32 ∷ x) ≡ Err (At 14 (suc (length x)))
unfolding statement_row starts
blank_row x = refl

ok_of : (o : Outcome) (t : Trees) → o ≡ Ok (t, []) → is_ok o ≡ true
ok_of o t h = ap is_ok h

-- the first byte of a line
pub record Begun (a : Text) : Type 0 where
  pub some : 0 < length a
  pub blank : (first a == 32) ≡ false

begun_by : (a : ℕ) (x : Text) (b : Bool) → (a == 32) ≡ b → is_ok (parse_line origin.Atoms (a ∷ x)) ≡ true → Begun (a ∷ x)
begun_by a x true is h =
    let P : ℕ → Type 0 = λ n. is_ok (parse_line origin.Atoms (n ∷ x)) ≡ true in
    let there : P 32 = subst P (equal a 32 is) h in
    absurd (false_true (sym (no_statement (32 ∷ x) (At 14 (suc (length x))) (blank_row x)) ∙ there))
begun_by a x false is h = record { some = omega arith; blank = is }

begun : (a : Text) → is_ok (parse_line origin.Atoms a) ≡ true → Begun a
begun [] h = absurd (false_true (sym (no_statement [] (At 14 0) empty_row) ∙ h))
begun (a ∷ x) h = begun_by a x (a == 32) refl h

-- the canonical source of tokens begins with something, and with no blank
some_more : (w x : Text) → 0 < length w → 0 < length (w ++ x)
some_more [] x h = absurd (omega arith)
some_more (a ∷ w) x h = omega arith

whole_some : (k : Leaf) (w : Text) → is_whole k w ≡ true → 0 < length w
whole_some k [] h = absurd (not_empty k h)
whole_some k (a ∷ w) h = omega arith

begun_more : (w x : Text) → 0 < length w → (first w == 32) ≡ false → Begun (w ++ x)
begun_more w x some h = record { some = some_more w x some; blank = ap (λ (n : ℕ). n == 32) (first_more w x some) ∙ h }

front_by : (u : Token) (x : Text) (b : Bool) → is_free_text u ≡ b → good_token u ≡ true → Begun (token_atoms u ++ x) → (y : Text) → Begun (spelled u ++ y)
front_by u x false is g h y = let f = token_fronted u is g in begun_more (spelled u) y f.some f.blank
front_by (Coded c) x true is g h y = cc
front_by (Short c) x true is g h y = cc
front_by (Plain k w) x true is g h y =
    let some = whole_some k w g in
    begun_more w y some (ap (λ (n : ℕ). n == 32) (sym (first_more w x some)) ∙ h.blank)
front_by (Lined high low) x true is g h y = cc

listed_begun : (ts : List Token) → AllGood ts → Begun (atoms_of_tokens ts) → Begun (listed false false ts)
listed_begun [] g h = h
listed_begun (u ∷ us) g h = front_by u (atoms_of_tokens us) (is_free_text u) refl g.0 h (listed (ends_wordy u) (is_operand u) us)

begun_skips : (s : Text) → Begun s → skip_blanks s ≡ s
begun_skips [] h = refl
begun_skips (b ∷ s) h = rw h.blank refl

-- atoms that are read, and listed, and read again
pub record ReadAgain (a s : Text) : Type 0 where
  pub source : line_source a ≡ Ok s
  pub again : line_atoms origin.Program s ≡ Ok a
  pub printable : all_printable s ≡ true
  pub skips : skip_blanks s ≡ s
  pub some : 0 < length s

-- a tree that a program's line allows
pub read_again : (t : Trees) → LineTree origin.Program t → ReadAgain (atoms t) (listed false false (tokens t))
unfolding line_source
read_again t h =
    let g = good_tree 32 origin.Program t h in
    let is = atoms_back t (anywhere origin.Program t h) in
    let front : Begun (listed false false (tokens t)) = listed_begun (tokens t) g.0 (subst Begun (sym (tree_atoms t)) (begun (atoms t) (ap is_ok is))) in
    record {
      source = ap source_of is;
      again = listed_back.0 t h;
      printable = listed_printable (tokens t) g.0;
      skips = begun_skips (listed false false (tokens t)) front;
      some = front.some;
    }

again_of : (s a : Text) (r : Outcome) → parse_line origin.Program s ≡ r → atoms_of r ≡ Ok a → (u : Text) × ReadAgain a u
again_of s a (Err e) is h = cc
again_of s a (Ok p) is h =
    let same : atoms p.0 ≡ a = ok_same (atoms p.0) a h in
    (listed false false (tokens p.0), subst (λ l. ReadAgain l (listed false false (tokens p.0))) same (read_again p.0 (reads_fit origin.Program s p.0 p.1 is)))

-- what was read of a program's line
pub typed_again : (s a : Text) → line_atoms origin.Program s ≡ Ok a → (u : Text) × ReadAgain a u
unfolding line_atoms
typed_again s a h = again_of s a (parse_line origin.Program s) refl h
