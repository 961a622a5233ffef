-- Each unit of a line is a row that is read.
use Rattle.std.proofs.Common.{◌≡◌, ◌≤◌, ℕ, zero, suc, ◌==◌, Bool, true, false, if◌then◌else◌, ◌&&◌, nat_le, List, [], ◌∷◌, map, length, take, drop, length-take, refl, ap, subst, ◌∙◌, arith, Result, Ok, Err, is_ok}
use Rattle.std.proofs.lemmas.Bool.Decides.{nat_tests}
use Rattle.std.specs.List.{All}
use Rattle.std.proofs.lemmas.List.Elements.{All-nil, All-cons, All-head, All-tail}
use Rattle.b2_base.specs.Byte as byte
use Rattle.b2_atom.specs.Words.{Text}
use Rattle.b2_atom.specs.Tree.{Trees, Outcome, under, atoms}
use Rattle.b2_atom.specs.Tree.Trees.{Done, In}
use Rattle.b2_atom.specs.Grammar.{reader, statement, statement_within, chosen, from, statement_row, row_at}
use Rattle.b2_atom.specs.Lines.{left_after, is_line, after_unit, LineUnit, leading_unit, next_position, next_text, units_after, units_from, units_of}
use Rattle.b2_atom.specs.Units.{TreeUnit, unit_atoms, units_on}
use Rattle.b2_atom.specs.Laws.{IsStatement, IsReadAlone}
use Rattle.b2_atom.specs.Table.{forms}
use Rattle.b2_atom.specs.declared.words.Origin.TheVariants.{Atoms}
use Rattle.b2_atom.specs.declared.output.Stop.{Stop}
use Rattle.b2_atom.specs.declared.forms.Position.{Position}
use Rattle.b2_atom.specs.declared.forms.Position.TheVariants as position
use Rattle.b2_atom.proofs.Booleans.{both}
use Rattle.b2_atom.proofs.reading.Sound.{takes_statement}
use Rattle.b2_atom.proofs.lines.EachUnit.{each_unit, tree_is_cut}
use Rattle.b2_rows.specs.Rows.{reading_row, tree_of, is_phrase, tree_at, after_phrase}
use Rattle.b2_rows.specs.Laws.{IsRow, IsRowUnit, EachUnitIsARow, IsRowOnTree, EachTreeUnitIsItsRow}
use Rattle.b2_rows.proofs.Levels.{no_longer, short_fits}

-- a statement that is read is its row
same_row : (m n : ℕ) (a t : Trees) → In m a Done ≡ In n t Done → m ≡ n
same_row m n a t is = cc

same_tree : (m n : ℕ) (a t : Trees) → In m a Done ≡ In n t Done → a ≡ t
same_tree m n a t is = cc

of_under : (m n : ℕ) (t : Trees) (rest : Text) (o : Outcome) → under m o ≡ Ok (In n t Done, rest) → (m ≡ n) × (o ≡ Ok (t, rest))
of_under m n t rest (Ok p) is = (same_row m n p.0 t (ap tree_of is), (λ i. Ok (same_tree m n p.0 t (ap tree_of is) i, ap left_after is i)))
of_under m n t rest (Err e) is = cc

row_of_reading : (n : ℕ) (u : Text) (t : Trees) (o : Outcome) → length u ≤ 256 → reading_row n u ≡ o → o ≡ Ok (t, []) → IsRow n u t
unfolding is_phrase tree_at after_phrase
row_of_reading n u t o short is_o is = record {
  part = both _ _ (short_fits u short) (ap is_ok (is_o ∙ is));
  tree = ap tree_of (is_o ∙ is);
  whole = ap left_after (is_o ∙ is);
}

of_chosen : (r : Result ℕ Stop) (u : Text) (n : ℕ) (t : Trees) → length u ≤ 256 → chosen (from u r) reading_row ≡ Ok (In n t Done, []) → IsRow n u t
of_chosen (Err e) u n t short is = cc
of_chosen (Ok m) u n t short is =
    let p = of_under m n t [] (reading_row m u) is in
    subst (λ (k : ℕ). IsRow k u t) p.0 (row_of_reading m u t (reading_row m u) short refl p.1)

pub statement_is_row : (p : Position) (u : Text) (n : ℕ) (t : Trees) → length u ≤ 256 → statement (reader Atoms) 1 p u ≡ Ok (In n t Done, []) → IsRow n u t
unfolding statement_within statement_row reading_row
statement_is_row p u n t short is = of_chosen (row_at forms Atoms p u) u n t short is

-- the units of a line are no longer than the line
abbrev Within : ℕ → LineUnit → Type 0
Within m u = length u.bytes ≤ m

taken_short : (k m : ℕ) (t : Text) → length t ≤ m → length (take k t) ≤ m
taken_short k m t h = omega (arith, h, length-take k t)

after_short : (m : ℕ) (p : Position) (t : Text) → length t ≤ m → length (after_unit p t) ≤ m
unfolding after_unit
after_short m p t h = let e = no_longer t (statement (reader Atoms) 1 p t) (takes_statement 1 p t) in omega (arith, h, e)

next_if : (b : Bool) (m : ℕ) (t : Text) → length t ≤ m → length (if b then drop 1 t else t) ≤ m
next_if true m [] h = h
next_if true m (b ∷ t) h = omega (arith, h)
next_if false m t h = h

units_after_short : (m n : ℕ) → ((p : Position) (t : Text) → length t ≤ m → All (Within m) (units_from n p t)) → (t : Text) → length t ≤ m → All (Within m) (units_after (units_from n) t)
units_after_short m n ih [] h = All-nil (Within m)
units_after_short m n ih (b ∷ bs) h = ih (next_position (b ∷ bs)) (next_text (b ∷ bs)) (next_if (b == byte.colon) m (b ∷ bs) h)

units_short : (m n : ℕ) (p : Position) (t : Text) → length t ≤ m → All (Within m) (units_from n p t)
units_short m zero p t h = All-nil (Within m)
units_short m (suc n) p t h =
    All-cons (Within m) (leading_unit p t) _ (taken_short _ m t h) (units_after_short m n (units_short m n) (after_unit p t) (after_short m p t h))

-- each unit of a line
each_of : (us : List LineUnit) → All IsStatement us → All (Within 255) us → All IsRowUnit us
each_of [] h k = All-nil IsRowUnit
each_of (u ∷ us) h k =
    let s = All-head IsStatement u us h in
    All-cons IsRowUnit u us
    (record { row = s.row; tree = s.tree; read = s.read; is = statement_is_row u.position u.bytes s.row s.tree (let e = All-head (Within 255) u us k in omega (arith, e)) s.read })
    (each_of us (All-tail IsStatement u us h) (All-tail (Within 255) u us k))

pub line_short : (line : Text) → is_line line ≡ true → length line ≤ 255
unfolding is_line
line_short line h = short_by (length line) _ h
  where
    short_by : (n : ℕ) (b : Bool) → (nat_le n 255 && b) ≡ true → n ≤ 255
    short_by n b g = grind (arith, nat_tests)

pub each_unit_is_a_row : EachUnitIsARow
unfolding units_of
each_unit_is_a_row line h = each_of (units_of line) (each_unit line h) (units_short 255 (length line) position.First line (line_short line h))

-- each unit on a tree
tree_units : (vs : List TreeUnit) → All IsReadAlone vs → All (Within 255) (map unit_atoms vs) → All IsRowOnTree vs
tree_units [] h k = All-nil IsRowOnTree
tree_units (v ∷ vs) h k =
    All-cons IsRowOnTree v vs
    (statement_is_row v.position (atoms v.tree) v.row v.tree (let e = All-head (Within 255) (unit_atoms v) (map unit_atoms vs) k in omega (arith, e)) (All-head IsReadAlone v vs h))
    (tree_units vs (All-tail IsReadAlone v vs h) (All-tail (Within 255) (unit_atoms v) (map unit_atoms vs) k))

pub each_tree_unit_is_its_row : EachTreeUnitIsItsRow
unfolding units_of
each_tree_unit_is_its_row t h short =
    let c = tree_is_cut t h in
    tree_units (units_on t) c.alone (subst (λ (us : List LineUnit). All (Within 255) us) c.units (units_short 255 (length (atoms t)) position.First (atoms t) short))
