-- What statements on arrays are for, in the words of whoever uses them.
use Rattle.std.specs.Prelude.{◌≡◌, ◌≢◌, ◌<◌, ◌≤◌, ℕ, ◌+◌, true, false, List, length, get_or, None}
use Rattle.std.specs.FinMap as map
use Rattle.b2_dec.specs.declared.number.Mode.{Mode}
use Rattle.b2_vars.specs.Assigned.{Assigned}
use Rattle.b2_vars.specs.Tables.{IsVariable, VarsState, shape_at, variable_at}
use Rattle.b2_vars.specs.declared.name.Var.{Var}
use Rattle.b2_matalpha.specs.Elements.{element_at}
use Rattle.b2_matalpha.specs.Sorts.{AreSorted}
use Rattle.b2_stmt_mat.specs.Arrays.{Families, IsArrayOf, bytes_of, matrix_of, named_bytes, only, own_array}
use Rattle.b2_stmt_mat.specs.ByteArrays.{copied, moved, sorted}
use Rattle.b2_stmt_mat.specs.Matrices.{matrix_assigned}
use Rattle.b2_stmt_mat.specs.Redimensioning.{redimensioned}
use Rattle.b2_stmt_mat.specs.Searching.{searched}
use Rattle.b2_stmt_mat.specs.declared.byte_arrays.ArrayCopy.{ArrayCopy}
use Rattle.b2_stmt_mat.specs.declared.byte_arrays.ArrayMove.{ArrayMove}
use Rattle.b2_stmt_mat.specs.declared.byte_arrays.ArraySort.{ArraySort}
use Rattle.b2_stmt_mat.specs.declared.formulas.Formula.TheVariants as formula
use Rattle.b2_stmt_mat.specs.declared.formulas.MatrixAssignment.{MatrixAssignment}
use Rattle.b2_stmt_mat.specs.declared.redimensioning.Redimensioned.{Redimensioned}
use Rattle.b2_stmt_mat.specs.declared.searching.Search.{Search}

-- MAT A=B, and MAT A=TRN(B)
abbrev pub as_it_is : Var → Var → Mode → VarsState → Assigned
as_it_is a b mode old = matrix_assigned (record { to = own_array a; made_of = formula.Copied (own_array b) }) mode (only old) old

abbrev pub transposed : Var → Var → Mode → VarsState → Assigned
transposed a b mode old = matrix_assigned (record { to = own_array a; made_of = formula.Transposed (own_array b) }) mode (only old) old

-- without a code A is then equal to B, element by element, and has its rows and its columns
pub record IsEqualTo (a b : Var) (after : Assigned) (old : VarsState) : Type 0 where
  pub numbers : (variable_at a after.vars.table).numbers ≡ (variable_at b old.table).numbers
  pub rows : (matrix_of a after.vars.table).rows ≡ (matrix_of b old.table).rows
  pub cols : (matrix_of a after.vars.table).cols ≡ (matrix_of b old.table).cols

abbrev pub CopiesAreEqual : Type 0
CopiesAreEqual = (a b : Var) (mode : Mode) (old : VarsState) → (as_it_is a b mode old).code ≡ None → IsEqualTo a b (as_it_is a b mode old) old

-- TRN twice gives the elements back, where both went without a code
abbrev pub TransposingIsUndone : Type 0
TransposingIsUndone =
    (a b c : Var) (mode : Mode) (old : VarsState) → IsArrayOf false a old.table → IsVariable a (variable_at a old.table) → (transposed b a mode old).code ≡ None
    → (transposed c b mode (transposed b a mode old).vars).code ≡ None
    → (variable_at c (transposed c b mode (transposed b a mode old).vars).vars.table).numbers ≡ (variable_at a old.table).numbers

-- MAT SORT A$() TO W$(),L$(), and MAT MOVE A$(),L$() TO B$()
abbrev pub sort_by_locators : Var → Var → VarsState → Assigned
sort_by_locators a l old = sorted (record { of = own_array a; to = own_array l }) (only old) old

abbrev pub move_by_locators : Var → Var → Var → VarsState → Assigned
move_by_locators a l b old = moved (record { of = own_array a; locators = own_array l; to = own_array b }) (only old) old

-- elements that stand in the order of their bytes, and equal ones as they stood
pub record StandInOrder (len : ℕ) (of after : List ℕ) : Type 0 where
  pub places : List ℕ
  pub sorted : AreSorted of len places
  pub each : (k : ℕ) → k < length places → element_at len after (k + 1) ≡ element_at len of (get_or places k 0)

pub record MovedInOrder (len : ℕ) (of : List ℕ) (b : Var) (after : Assigned) : Type 0 where
  pub code : after.code ≡ None
  pub order : StandInOrder len of (bytes_of b after.vars.table)

-- Where A was sorted without a code, its elements move into B in order; B may be A itself.
abbrev pub SortedAreMoved : Type 0
SortedAreMoved =
    (a l b : Var) (old : VarsState) → IsArrayOf true a old.table → IsVariable a (variable_at a old.table) → a ≢ l → b ≢ l → (shape_at b old.table).len ≡ (shape_at a old.table).len
    → length (bytes_of a old.table) ≤ length (bytes_of b old.table) → (sort_by_locators a l old).code ≡ None
    → MovedInOrder (shape_at a old.table).len (named_bytes (bytes_of a old.table)) b (move_by_locators a l b (sort_by_locators a l old).vars)

-- what isn't assigned stays, with a code and without one
abbrev pub LeavesOthers : Var → Assigned → VarsState → Type 0
LeavesOthers v after old = (other : Var) → other ≢ v → map.get after.vars.table other ≡ map.get old.table other

pub record ChangeOneArray : Type 0 where
  pub assignments : (a : MatrixAssignment) (mode : Mode) (f : Families) (old : VarsState) → LeavesOthers a.to.var (matrix_assigned a mode f old) old
  pub redimensions : (r : Redimensioned) (old : VarsState) → LeavesOthers r.array.var (redimensioned r old) old
  pub moves : (m : ArrayMove) (f : Families) (old : VarsState) → LeavesOthers m.to.var (moved m f old) old
  pub sorts : (m : ArraySort) (f : Families) (old : VarsState) → LeavesOthers m.to.var (sorted m f old) old
  pub copies : (m : ArrayCopy) (f : Families) (old : VarsState) → LeavesOthers m.to.var (copied m f old) old
  pub searches : (a : Search) (f : Families) (old : VarsState) → LeavesOthers a.to.element.var (searched a f old) old
