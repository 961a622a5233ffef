-- What MAT makes of a right side, and what it leaves.
use Rattle.std.specs.Global.{Vec}
use Rattle.std.specs.Prelude.{◌≡◌, ◌≤◌, ℕ, length, ◌==◌, ◌&&◌, ◌||◌, not, nat_lt, Bool, true, false, List, [], ◌∷◌, Option, Some, None, Result, Ok, Err, if◌then◌else◌}
use Rattle.b2_base.specs.declared.codes.TheConstants.{P43_SHAPES, P44_NOT_SQUARE, P45_OPERAND_IS_RESULT, P50_DIMENSION}
use Rattle.b2_dec.specs.Number.{Number}
use Rattle.b2_dec.specs.declared.number.Mode.{Mode}
use Rattle.b2_atom.specs.Tree.{Trees}
use Rattle.b2_vars.specs.Assigned.{Assigned}
use Rattle.b2_vars.specs.Calls.{with_change}
use Rattle.b2_vars.specs.Shapes.{cells, has_dimensions}
use Rattle.b2_vars.specs.Tables.{Table, VarsState, shape_at}
use Rattle.b2_vars.specs.Variables.{reshaped}
use Rattle.b2_vars.specs.declared.name.Var.{Var}
use Rattle.b2_vars.specs.declared.shape.Shape.{Shape}
use Rattle.b2_matrix.specs.Answers.{may_fill, suit}
use Rattle.b2_matrix.specs.Arrays.{along_rows, array_rows, column_count, columns_of, elements, filling, multiples, transposed}
use Rattle.b2_matrix.specs.declared.array.Fill.{Fill}
use Rattle.b2_matrix.specs.declared.array.Mat.{Mat}
use Rattle.b2_matrix.specs.declared.combining.MatOp.{MatOp}
use Rattle.b2_matrix.specs.declared.combining.MatOp.TheVariants as op
use Rattle.b2_dims.specs.declared.dimensions.Dimensions.{Dimensions}
use Rattle.b2_expr.specs.Answers.{◌>>=◌}
use Rattle.b2_expr.specs.Scope.{same_digit, same_global}
use Rattle.b2_expr.specs.Value.{context_of}
use Rattle.b2_expr.specs.Workspace.{WorkState, WorkLeft, among, refused, surroundings_of}
use Rattle.b2_receiver.specs.Assigning.{unassigned}
use Rattle.b2_receiver.specs.declared.receiver.Array.{Array}
use Rattle.b2_stmt_mat.specs.Arrays.{Families, families, matrix_in, shape_in, variable_in, with_numbers}
use Rattle.b2_stmt_mat.specs.Formulas.{assignment_in}
use Rattle.b2_stmt_mat.specs.declared.formulas.Formula.{Formula}
use Rattle.b2_stmt_mat.specs.declared.formulas.Formula.TheVariants as formula
use Rattle.b2_stmt_mat.specs.declared.formulas.MatrixAssignment.{MatrixAssignment}
use Rattle.b2_stmt_mat.specs.declared.matrices.MadeMatrix.{MadeMatrix}

-- whether the result is an operand of a product or of TRN; both are arrays of numbers
abbrev pub is_same_array : Array → Array → Bool
is_same_array a b = a.var.letter == b.var.letter && (same_digit a.var.digit b.var.digit && same_global a.global b.global)

abbrev pub is_own_operand : Formula → Array → Bool
is_own_operand (formula.Transposed b) v = is_same_array b v
is_own_operand (formula.Combined op.Mul b c) v = is_same_array b v || is_same_array c v
is_own_operand f v = false

-- whether the shapes of its arrays don't go together
abbrev pub differs : Formula → Families → Bool
differs (formula.Combined o b c) t = not (suit o (matrix_in b t) (matrix_in c t))
differs f t = false

-- the dimensions of the result: those of the first array; two for a product and for TRN; and for CON, ZER and IDN those that are
-- written, or its own
abbrev pub own_dimensions : Mat → Dimensions
own_dimensions m = record { rows = m.rows; cols = m.cols }

abbrev pub combined_dimensions : MatOp → Mat → Mat → Dimensions
combined_dimensions op.Mul m n = record { rows = m.rows; cols = column_count n }
combined_dimensions o m n = own_dimensions m

abbrev pub dimensions_or : Option Dimensions → Mat → Dimensions
dimensions_or (Some d) m = d
dimensions_or None m = own_dimensions m

abbrev pub dimensions_made : Formula → Array → Families → Dimensions
dimensions_made (formula.Scaled k b) v t = own_dimensions (matrix_in b t)
dimensions_made (formula.Transposed b) v t = record { rows = column_count (matrix_in b t); cols = (matrix_in b t).rows }
dimensions_made (formula.Filled k d) v t = dimensions_or d (matrix_in v t)
dimensions_made (formula.Copied b) v t = own_dimensions (matrix_in b t)
dimensions_made (formula.Combined o b c) v t = combined_dimensions o (matrix_in b t) (matrix_in c t)

abbrev pub shape_with : Dimensions → Shape
shape_with d = record { rows = d.rows; cols = d.cols; len = 0 }

-- its numbers along rows, or the first code of them; all are made of what the arrays had before
abbrev pub all_made : List (Result Number ℕ) → Result (List Number) ℕ
all_made [] = Ok []
all_made (Ok x ∷ xs) = all_made xs >>= (λ numbers. Ok (x ∷ numbers))
all_made (Err code ∷ xs) = Err code

abbrev pub transposed_numbers : Mat → List Number
transposed_numbers m = transposed m.rows (column_count m) (array_rows m)

abbrev pub filled : Fill → Dimensions → Result (List Number) ℕ
filled k d = if may_fill k d.rows (columns_of d.cols) then Ok (along_rows d.rows (columns_of d.cols) (filling k)) else Err P44_NOT_SQUARE

abbrev pub numbers_made : Formula → Dimensions → Mode → Families → Result (List Number) ℕ
numbers_made (formula.Scaled k b) d mode t = all_made (multiples mode k (matrix_in b t))
numbers_made (formula.Transposed b) d mode t = Ok (transposed_numbers (matrix_in b t))
numbers_made (formula.Filled k dims) d mode t = filled k d
numbers_made (formula.Copied b) d mode t = Ok (variable_in b t).numbers
numbers_made (formula.Combined o b c) d mode t = all_made (elements o mode (matrix_in b t) (matrix_in c t))

-- THE ORDER OF CODES, after those of what is written: P45; P43 of the operands; P50 of the new shape; P43 of the result's cells; and
-- then those of its numbers, P44 or the first along rows
abbrev pub refusal : Formula → Array → Families → Option ℕ
refusal f v t =
    if is_own_operand f v then Some P45_OPERAND_IS_RESULT
    else (if differs f t then Some P43_SHAPES
    else (if not (has_dimensions v.var (shape_with (dimensions_made f v t))) then Some P50_DIMENSION
    else (if nat_lt (cells (shape_in v t)) (cells (shape_with (dimensions_made f v t))) then Some P43_SHAPES
    else None)))

-- what is made: its dimensions and its numbers
pub record Made : Type 0 where
  pub dimensions : Dimensions
  pub numbers : List Number

abbrev pub unless_refused_first : Option ℕ → Result Made ℕ → Result Made ℕ
unless_refused_first None made = made
unless_refused_first (Some code) made = Err code

abbrev pub made_of : MatrixAssignment → Mode → Families → Result Made ℕ
made_of a mode t =
    unless_refused_first (refusal a.made_of a.to t)
    (numbers_made a.made_of (dimensions_made a.made_of a.to t) mode t >>= (λ numbers. Ok (record { dimensions = dimensions_made a.made_of a.to t; numbers = numbers })))

-- the result takes the dimensions and the numbers, or nothing changes
abbrev pub with_made : Var → Made → VarsState → VarsState
with_made v m old = with_change v (λ x. with_numbers m.numbers (reshaped v (shape_with m.dimensions) x)) old

abbrev pub made_or_refused : Var → Result Made ℕ → VarsState → Assigned
made_or_refused v (Ok m) old = record { vars = with_made v m old; code = None }
made_or_refused v (Err code) old = unassigned code old

abbrev pub matrix_assigned : MatrixAssignment → Mode → Families → VarsState → Assigned
matrix_assigned a mode f old = made_or_refused a.to.var (made_of a mode f) old

abbrev pub assigns_found : Result MatrixAssignment ℕ → WorkState → WorkLeft
assigns_found (Ok a) w = among a.to.global (matrix_assigned a w.setting.mode (families (surroundings_of w))) w
assigns_found (Err code) w = refused code w

abbrev pub assigns : Trees → WorkState → WorkLeft
assigns t w = assigns_found (assignment_in (context_of w) t) w

-- the array has room for what is made, and that has as many numbers as its dimensions say
pub record HasRoom (v : Var) (m : Made) (t : Table) : Type 0 where
  pub allowed : has_dimensions v (shape_with m.dimensions) ≡ true
  pub fits : cells (shape_with m.dimensions) ≤ cells (shape_at v t)
  pub whole : length m.numbers ≡ cells (shape_with m.dimensions)

-- what the code makes
abbrev pub made_seen : MadeMatrix → Made
made_seen m = record { dimensions = m.dimensions; numbers = m.numbers.items }

abbrev pub items_seen : Vec Number → List Number
items_seen numbers = numbers.items
