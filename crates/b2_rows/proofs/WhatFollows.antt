-- What follows a unit of a line is found at the line's bytes.
use Rattle.std.proofs.Common.{◌≡◌, ℕ, ◌+◌, ◌==◌, nat_lt, Bool, true, false, if◌then◌else◌, [], ◌∷◌, length, drop, get_or, slice_get, Option, Some, None, refl, sym, ap, subst, ◌∙◌}
use Rattle.std.specs.Option.{option_map}
use Rattle.b2_base.specs.Lexical.{first}
use Rattle.b2_atom.specs.Words.{Text}
use Rattle.b2_atom.specs.Tokens.Token.{Coded, Lined}
use Rattle.b2_atom.specs.Tree.{Trees}
use Rattle.b2_atom.specs.Tree.Trees.{Done, Put, In}
use Rattle.b2_atom.specs.Grammar.{row_items, starts}
use Rattle.b2_atom.specs.Lines.{is_line, LineUnit, units_of, further_unit}
use Rattle.b2_atom.specs.declared.words.TheConstants as word
use Rattle.b2_atom.specs.declared.rows.TheConstants as row
use Rattle.b2_atom.specs.declared.words.Origin.TheVariants.{Atoms}
use Rattle.b2_atom.specs.declared.forms.Leaf.TheVariants as leaf
use Rattle.b2_atom.specs.declared.forms.Start.TheVariants as start
use Rattle.b2_atom.specs.declared.forms.Item.TheVariants.{Word, Typed, Either}
use Rattle.b2_rows.specs.Leaves.{is_line_number}
use Rattle.b2_rows.specs.Rows.{is_phrase, tree_at, When}
use Rattle.b2_rows.specs.Values.{line_of}
use Rattle.b2_rows.specs.Following.{tree_units, unit_or_next, past_colon, named_goal, else_goal, false_goal, after_false, error_goal, taken_fault}
use Rattle.b2_rows.specs.declared.following.Goal.TheVariants as goal
use Rattle.b2_atom.proofs.Booleans.{equal}
use Rattle.b2_rows.proofs.Standing.{row_stands}
use Rattle.b2_rows.proofs.LineTrees.{else_items, UnitFound, unit_found, none_found, further_is, count_is, else_told, error_told}

-- a unit, or the next line
chosen_unit : (b : Bool) (k n : ℕ) → nat_lt k n ≡ b → (if nat_lt k n then goal.Unit k else goal.NextLine) ≡ (if b then goal.Unit k else goal.NextLine)
chosen_unit b k n is = ap (λ (x : Bool). if x then goal.Unit k else goal.NextLine) is

pub within_line : (line : Text) (k : ℕ) → is_line line ≡ true → nat_lt k (length (units_of line)) ≡ true → unit_or_next k (tree_units line) ≡ goal.Unit k
within_line line k h is = chosen_unit true k (length (tree_units line)) (ap (nat_lt k) (sym (count_is line h)) ∙ is)

pub beyond_line : (line : Text) (k : ℕ) → is_line line ≡ true → nat_lt k (length (units_of line)) ≡ false → unit_or_next k (tree_units line) ≡ goal.NextLine
beyond_line line k h is = chosen_unit false k (length (tree_units line)) (ap (nat_lt k) (sym (count_is line h)) ∙ is)

pub past_is : (line : Text) (k : ℕ) → is_line line ≡ true → past_colon k (tree_units line) ≡ unit_or_next (further_unit k 0 (units_of line)) (tree_units line)
past_is line k h = ap (λ (j : ℕ). unit_or_next j (tree_units line)) (sym (further_is line k h))

-- ELSE
line_items : row_items row.LINE_NUMBER ≡ Typed leaf.LineNumber 15 ∷ []
unfolding row_items
line_items = refl

taken_way : (b : Bool) (x y : Type 0) → b ≡ true → When b x y → x
taken_way true x y is h = h
taken_way false x y is h = cc

pub else_line : (t : Text) → is_phrase row.ELSE t ≡ true → starts Atoms start.Line (drop 1 t) ≡ true → is_line_number (drop 1 t) ≡ true
else_line t ok is =
    let r = row_stands row.ELSE (Word word.ELSE ∷ Either start.Line row.LINE_NUMBER row.FOLLOWING ∷ []) t else_items ok in
    let part = (taken_way (starts Atoms start.Line (drop 1 t)) _ _ is r.stands.1).0 in
    (row_stands row.LINE_NUMBER (Typed leaf.LineNumber 15 ∷ []) (drop 1 t) line_items part).stands.0

else_by : (k : ℕ) (a b : Trees) (x y : Bool) → x ≡ y → else_goal k (Put (Coded word.ELSE) (if x then In 1 a Done else In 0 b Done)) ≡ (if y then named_goal k 1 a else named_goal k 0 b)
else_by k a b true true is = refl
else_by k a b false false is = refl
else_by k a b true false is = cc
else_by k a b false true is = cc

not_named : (k : ℕ) (t : Trees) → named_goal k 0 t ≡ goal.Unit (k + 1)
not_named k Done = refl
not_named k (Put (Coded c) t) = refl
not_named k (Put (Lined high low) t) = refl
not_named k (Put t u) = refl
not_named k (In n a t) = refl

else_is : (t : Text) (k : ℕ) (y : Bool) → is_phrase row.ELSE t ≡ true → starts Atoms start.Line (drop 1 t) ≡ y
    → else_goal k (tree_at row.ELSE t) ≡ (if y then named_goal k 1 (tree_at row.LINE_NUMBER (drop 1 t)) else named_goal k 0 (tree_at row.FOLLOWING (drop 1 t)))
else_is t k y ok is =
    let r = row_stands row.ELSE (Word word.ELSE ∷ Either start.Line row.LINE_NUMBER row.FOLLOWING ∷ []) t else_items ok in
    ap (else_goal k) r.tree ∙ else_by k (tree_at row.LINE_NUMBER (drop 1 t)) (tree_at row.FOLLOWING (drop 1 t)) (starts Atoms start.Line (drop 1 t)) y is

pub else_named : (t : Text) (k : ℕ) → is_phrase row.ELSE t ≡ true → starts Atoms start.Line (drop 1 t) ≡ true
    → else_goal k (tree_at row.ELSE t) ≡ goal.Line (line_of (get_or (drop 1 t) 1 0) (get_or (drop 1 t) 2 0))
else_named t k ok is =
    let r = row_stands row.ELSE (Word word.ELSE ∷ Either start.Line row.LINE_NUMBER row.FOLLOWING ∷ []) t else_items ok in
    let part = (taken_way (starts Atoms start.Line (drop 1 t)) _ _ is r.stands.1).0 in
    else_is t k true ok is ∙ ap (named_goal k 1) (row_stands row.LINE_NUMBER (Typed leaf.LineNumber 15 ∷ []) (drop 1 t) line_items part).tree

pub else_next : (t : Text) (k : ℕ) → is_phrase row.ELSE t ≡ true → starts Atoms start.Line (drop 1 t) ≡ false → else_goal k (tree_at row.ELSE t) ≡ goal.Unit (k + 1)
else_next t k ok is = else_is t k false ok is ∙ not_named k (tree_at row.FOLLOWING (drop 1 t))

-- after a false IF
abbrev FoundAt : Text → ℕ → Option Text → Type 0
FoundAt line k o = option_map (λ (u : LineUnit). u.bytes) (slice_get (units_of line) (further_unit k 0 (units_of line))) ≡ o

false_at : (line : Text) (k : ℕ) → is_line line ≡ true → after_false k (tree_units line) ≡ false_goal (further_unit k 0 (units_of line)) (slice_get (tree_units line) (further_unit k 0 (units_of line)))
false_at line k h = ap (λ (j : ℕ). false_goal j (slice_get (tree_units line) j)) (sym (further_is line k h))

pub false_none : (line : Text) (k : ℕ) → is_line line ≡ true → FoundAt line k None → after_false k (tree_units line) ≡ goal.NextLine
false_none line k h is = false_at line k h ∙ ap (false_goal (further_unit k 0 (units_of line))) (none_found line (further_unit k 0 (units_of line)) h is)

row_test : (line : Text) (j : ℕ) (bytes : Text) (f : UnitFound line j bytes) → (first bytes == word.ELSE) ≡ (f.unit.row == row.ELSE)
row_test line j bytes f = ap (λ (s : Text). first s == word.ELSE) (sym f.same) ∙ else_told f.unit f.alone f.row

false_some : (line : Text) (k : ℕ) (bytes : Text) (b : Bool) (f : UnitFound line (further_unit k 0 (units_of line)) bytes) → is_line line ≡ true → (first bytes == word.ELSE) ≡ b
    → after_false k (tree_units line) ≡ (if b then else_goal (further_unit k 0 (units_of line)) f.unit.tree else goal.Unit (further_unit k 0 (units_of line)))
false_some line k bytes b f h is =
    let j : ℕ = further_unit k 0 (units_of line) in
    false_at line k h ∙ ap (false_goal j) f.is
    ∙ ap (λ (x : Bool). if x then else_goal j f.unit.tree else goal.Unit j) (sym (row_test line j bytes f) ∙ is)

pub false_plain : (line : Text) (k : ℕ) (bytes : Text) → is_line line ≡ true → FoundAt line k (Some bytes) → (first bytes == word.ELSE) ≡ false
    → after_false k (tree_units line) ≡ goal.Unit (further_unit k 0 (units_of line))
false_plain line k bytes h is none = false_some line k bytes false (unit_found line (further_unit k 0 (units_of line)) bytes h is) h none

part_of : (line : Text) (j : ℕ) (bytes : Text) (f : UnitFound line j bytes) → (first bytes == word.ELSE) ≡ true → is_phrase row.ELSE bytes ≡ true
part_of line j bytes f is =
    let same : f.unit.row ≡ row.ELSE = equal f.unit.row row.ELSE (sym (row_test line j bytes f) ∙ is) in
    subst (λ (m : ℕ). is_phrase m bytes ≡ true) same (subst (λ (s : Text). is_phrase f.unit.row s ≡ true) f.same f.row.part)

tree_of_else : (line : Text) (j : ℕ) (bytes : Text) (f : UnitFound line j bytes) → (first bytes == word.ELSE) ≡ true → tree_at row.ELSE bytes ≡ f.unit.tree
tree_of_else line j bytes f is =
    let same : f.unit.row ≡ row.ELSE = equal f.unit.row row.ELSE (sym (row_test line j bytes f) ∙ is) in
    subst (λ (m : ℕ). tree_at m bytes ≡ f.unit.tree) same (subst (λ (s : Text). tree_at f.unit.row s ≡ f.unit.tree) f.same f.row.tree)

pub false_part : (line : Text) (k : ℕ) (bytes : Text) → is_line line ≡ true → FoundAt line k (Some bytes) → (first bytes == word.ELSE) ≡ true → is_phrase row.ELSE bytes ≡ true
false_part line k bytes h is some = part_of line (further_unit k 0 (units_of line)) bytes (unit_found line (further_unit k 0 (units_of line)) bytes h is) some

pub false_else : (line : Text) (k : ℕ) (bytes : Text) → is_line line ≡ true → FoundAt line k (Some bytes) → (first bytes == word.ELSE) ≡ true
    → after_false k (tree_units line) ≡ else_goal (further_unit k 0 (units_of line)) (tree_at row.ELSE bytes)
false_else line k bytes h is some =
    let j : ℕ = further_unit k 0 (units_of line) in
    let f = unit_found line j bytes h is in
    false_some line k bytes true f h some ∙ ap (else_goal j) (sym (tree_of_else line j bytes f some))

-- an ERROR that takes a fault
taken_at : (line : Text) (k : ℕ) → is_line line ≡ true → taken_fault k (tree_units line) ≡ error_goal (further_unit k 0 (units_of line)) (slice_get (tree_units line) (further_unit k 0 (units_of line)))
taken_at line k h = ap (λ (j : ℕ). error_goal j (slice_get (tree_units line) j)) (sym (further_is line k h))

pub none_taken : (line : Text) (k : ℕ) → is_line line ≡ true → FoundAt line k None → taken_fault k (tree_units line) ≡ None
none_taken line k h is = taken_at line k h ∙ ap (error_goal (further_unit k 0 (units_of line))) (none_found line (further_unit k 0 (units_of line)) h is)

taken_some : (line : Text) (k : ℕ) (bytes : Text) (b : Bool) (f : UnitFound line (further_unit k 0 (units_of line)) bytes) → is_line line ≡ true → (first bytes == word.ERROR) ≡ b
    → taken_fault k (tree_units line) ≡ (if b then Some (further_unit k 0 (units_of line) + 1) else None)
taken_some line k bytes b f h is =
    let j : ℕ = further_unit k 0 (units_of line) in
    taken_at line k h ∙ ap (error_goal j) f.is
    ∙ ap (λ (x : Bool). if x then Some (j + 1) else None) (sym (ap (λ (s : Text). first s == word.ERROR) (sym f.same) ∙ error_told f.unit f.alone f.row) ∙ is)

pub error_takes : (line : Text) (k : ℕ) (bytes : Text) → is_line line ≡ true → FoundAt line k (Some bytes) → (first bytes == word.ERROR) ≡ true
    → taken_fault k (tree_units line) ≡ Some (further_unit k 0 (units_of line) + 1)
error_takes line k bytes h is some = taken_some line k bytes true (unit_found line (further_unit k 0 (units_of line)) bytes h is) h some

pub no_error : (line : Text) (k : ℕ) (bytes : Text) → is_line line ≡ true → FoundAt line k (Some bytes) → (first bytes == word.ERROR) ≡ false → taken_fault k (tree_units line) ≡ None
no_error line k bytes h is none = taken_some line k bytes false (unit_found line (further_unit k 0 (units_of line)) bytes h is) h none
