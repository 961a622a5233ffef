-- Assignments to one receiver and to several, and the two kinds of them.
use Rattle.std.proofs.Common.{◌≡◌, ℕ, true, false, List, ◌∷◌, Option, Some, None, refl, sym, ap, ◌∙◌}
use Rattle.b2_atom.specs.Words.{Text}
use Rattle.b2_atom.specs.Tree.{Trees}
use Rattle.b2_atom.specs.Grammar.{row_items, starts}
use Rattle.b2_atom.specs.declared.words.Origin.TheVariants.{Atoms}
use Rattle.b2_atom.specs.declared.rows.TheConstants as row
use Rattle.b2_atom.specs.declared.forms.Start.TheVariants as start
use Rattle.b2_rows.specs.Rows.{is_phrase, tree_at}
use Rattle.b2_rows.specs.Choices.{ReadAs, first_branch, second_branch}
use Rattle.b2_rows.proofs.Choices.{either_first, either_second}
use Rattle.b2_expr.specs.Workspace.{WorkState, WorkLeft, then_works, unless_coded}
use Rattle.b2_stmt_var.specs.Assignments.{assign_each, assign_numbers, assign_sides, assigns}

-- the first receiver, and the others
pub one_more : (one : Trees → WorkState → WorkLeft) (t : Trees) (ts : List Trees) (old new : WorkState) (code : Option ℕ) → record { work = new; code = code } ≡ one t old → code ≡ None
    → assign_each one ts new ≡ assign_each one (t ∷ ts) old
one_more one t ts old new code is none =
    sym (ap (λ (c : Option ℕ). unless_coded c new (assign_each one ts)) none) ∙ ap (λ (r : WorkLeft). then_works r (assign_each one ts)) is

pub one_coded : (one : Trees → WorkState → WorkLeft) (t : Trees) (ts : List Trees) (old new : WorkState) (code : Option ℕ) (c : ℕ) → record { work = new; code = code } ≡ one t old → code ≡ Some c
    → assign_each one (t ∷ ts) old ≡ record { work = new; code = code }
one_coded one t ts old new code c is some =
    sym (ap (λ (r : WorkLeft). then_works r (assign_each one ts)) is)
    ∙ ap (λ (o : Option ℕ). unless_coded o new (assign_each one ts)) some
    ∙ ap (λ (o : Option ℕ). record { work = new; code = o }) (sym some)

-- the two kinds
alpha_read : (t : Text) → is_phrase row.ASSIGNMENT t ≡ true → starts Atoms start.Alpha t ≡ true → ReadAs row.ASSIGNMENT row.ALPHA_ASSIGNMENT first_branch t
unfolding row_items
alpha_read t ok is = either_first row.ASSIGNMENT row.ALPHA_ASSIGNMENT row.NUMERIC_ASSIGNMENT start.Alpha t refl ok is

number_read : (t : Text) → is_phrase row.ASSIGNMENT t ≡ true → starts Atoms start.Alpha t ≡ false → ReadAs row.ASSIGNMENT row.NUMERIC_ASSIGNMENT second_branch t
unfolding row_items
number_read t ok is = either_second row.ASSIGNMENT row.ALPHA_ASSIGNMENT row.NUMERIC_ASSIGNMENT start.Alpha t refl ok is

pub alpha_here : (t : Text) → is_phrase row.ASSIGNMENT t ≡ true → starts Atoms start.Alpha t ≡ true → is_phrase row.ALPHA_ASSIGNMENT t ≡ true
alpha_here t ok is = ReadAs.part (alpha_read t ok is)

pub alpha_is : (w : WorkState) (t : Text) → is_phrase row.ASSIGNMENT t ≡ true → starts Atoms start.Alpha t ≡ true
    → assigns (tree_at row.ASSIGNMENT t) w ≡ assign_sides (tree_at row.ALPHA_ASSIGNMENT t) w
alpha_is w t ok is = ap (λ (u : Trees). assigns u w) (ReadAs.tree (alpha_read t ok is))

pub number_here : (t : Text) → is_phrase row.ASSIGNMENT t ≡ true → starts Atoms start.Alpha t ≡ false → is_phrase row.NUMERIC_ASSIGNMENT t ≡ true
number_here t ok is = ReadAs.part (number_read t ok is)

pub number_is : (w : WorkState) (t : Text) → is_phrase row.ASSIGNMENT t ≡ true → starts Atoms start.Alpha t ≡ false
    → assigns (tree_at row.ASSIGNMENT t) w ≡ assign_numbers (tree_at row.NUMERIC_ASSIGNMENT t) w
number_is w t ok is = ap (λ (u : Trees). assigns u w) (ReadAs.tree (number_read t ok is))
