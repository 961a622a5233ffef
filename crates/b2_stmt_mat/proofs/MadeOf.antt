-- What is made for a right side of MAT, and its codes.
use Rattle.std.proofs.Common.{◌≡◌, ◌≤◌, ◌<◌, ℕ, ◌*◌, max, Bool, true, false, not, if◌then◌else◌, List, [], ◌∷◌, length, map, Option, Some, None, Result, Ok, Err, refl, sym, ap, subst, ◌∙◌, arith}
use Rattle.b2_base.specs.declared.codes.TheConstants.{P43_SHAPES}
use Rattle.b2_dec.specs.Number.{Number}
use Rattle.b2_dec.specs.declared.number.Mode.{Mode}
use Rattle.std.proofs.Math.Nat.{mul_comm}
use Rattle.std.proofs.lemmas.Bool.Decides.{nat_tests}
use Rattle.std.specs.Prelude.{nat_lt}
use Rattle.b2_vars.specs.Shapes.{cells, has_dimensions}
use Rattle.b2_vars.specs.Tables.{IsVariable}
use Rattle.b2_vars.specs.declared.shape.Shape.{Shape}
use Rattle.b2_vars.specs.Variables.{VariableState}
use Rattle.b2_vars.specs.declared.name.Var.{Var}
use Rattle.b2_matrix.specs.Answers.{combined, shape_of, suit, unless_one_refused}
use Rattle.b2_matrix.specs.Arrays.{columns_of, elements}
use Rattle.b2_matrix.specs.declared.array.Mat.{Mat}
use Rattle.b2_matrix.specs.declared.combining.MatOp.{MatOp}
use Rattle.b2_expr.specs.Answers.{◌>>=◌}
use Rattle.b2_dims.specs.declared.dimensions.Dimensions.{Dimensions}
use Rattle.b2_receiver.specs.declared.receiver.Array.{Array}
use Rattle.b2_stmt_mat.specs.Arrays.{Families, shape_in, vars_of}
use Rattle.b2_stmt_mat.specs.Matrices.{HasRoom, all_made, differs, dimensions_made, is_own_operand, refusal, shape_with}
use Rattle.b2_stmt_mat.specs.declared.formulas.Formula.{Formula}
use Rattle.b2_stmt_mat.specs.declared.formulas.MatrixAssignment.{MatrixAssignment}
use Rattle.b2_stmt_mat.proofs.ArraysThere.{number_count, some_rows}

abbrev taken : Number → Result Number ℕ
taken x = Ok x

-- all were made, or the first code came
all_taken : (xs : List Number) → all_made (map taken xs) ≡ Ok xs
all_taken [] = refl
all_taken (x ∷ xs) = ap (λ (r : Result (List Number) ℕ). r >>= (λ numbers. Ok (x ∷ numbers))) (all_taken xs)

pub all_are : (rs : List (Result Number ℕ)) (xs : List Number) → map taken xs ≡ rs → all_made rs ≡ Ok xs
all_are rs xs is = sym (ap all_made is) ∙ all_taken xs

pub one_is_refused : {A : Type 0} (rs : List (Result Number ℕ)) (answer : A) (code : ℕ) → unless_one_refused rs answer ≡ Err code → all_made rs ≡ Err code
one_is_refused [] answer code is = cc
one_is_refused (Ok x ∷ rs) answer code is = ap (λ (r : Result (List Number) ℕ). r >>= (λ numbers. Ok (x ∷ numbers))) (one_is_refused rs answer code is)
one_is_refused (Err c ∷ rs) answer code is = cc

pub combined_refused : (o : MatOp) (mode : Mode) (a b : Mat) (code : ℕ) → suit o a b ≡ true → combined o mode a b ≡ Err code → all_made (elements o mode a b) ≡ Err code
combined_refused o mode a b code suits is =
    one_is_refused (elements o mode a b) (shape_of o a b) code (ap (λ (x : Bool). if x then unless_one_refused (elements o mode a b) (shape_of o a b) else Err P43_SHAPES) (sym suits) ∙ is)

-- an array that is there is whole
pub whole_array : (v : Var) (x : VariableState) → v.alpha ≡ false → v.array ≡ true → IsVariable v x → length x.numbers ≡ x.shape.rows * columns_of x.shape.cols
whole_array v x number array is =
    let some : 0 < x.shape.rows = some_rows v x.shape array is.dimensions in
    number_count v x number is ∙ ap (λ (n : ℕ). n * max 1 x.shape.cols) (let e : max 1 x.shape.rows ≡ x.shape.rows = omega (arith, some) in e)

-- a result has as many numbers as its shape has cells
pub as_large : (f g : Formula) (v : Array) (t : Families) (s : Shape) (n : ℕ) → s ≡ shape_with (dimensions_made f v t) → f ≡ g → n ≡ cells (shape_with (dimensions_made g v t)) → n ≡ cells s
as_large f g v t s n shape same is = is ∙ ap (λ (h : Formula). cells (shape_with (dimensions_made h v t))) (sym same) ∙ ap (λ (x : Shape). cells x) (sym shape)

pub turned_cells : (rows cols : ℕ) → max 1 rows * max 1 cols ≡ max 1 (max 1 cols) * max 1 rows
turned_cells rows cols = mul_comm (max 1 rows) (max 1 cols) ∙ ap (λ (n : ℕ). n * max 1 rows) (let e : max 1 cols ≡ max 1 (max 1 cols) = omega arith in e)

unrefused : (a b c d : Bool) (w x y z : ℕ) → ◌≡◌ {A = Option ℕ} (if a then Some w else (if b then Some x else (if not c then Some y else (if d then Some z else None)))) None → (c ≡ true) × (d ≡ false)
unrefused true b c d w x y z is = cc
unrefused false true c d w x y z is = cc
unrefused false false false d w x y z is = cc
unrefused false false true true w x y z is = cc
unrefused false false true false w x y z is = (refl, refl)

not_below : (m n : ℕ) → nat_lt m n ≡ false → n ≤ m
not_below m n is = grind (arith, nat_tests)

pub has_room : (a : MatrixAssignment) (t : Families) (d : Dimensions) (numbers : List Number) → d ≡ dimensions_made a.made_of a.to t → refusal a.made_of a.to t ≡ None → length numbers ≡ cells (shape_with d)
    → HasRoom a.to.var (record { dimensions = d; numbers = numbers }) (vars_of a.to.global t).table
has_room a t d numbers is none whole =
    let ok = unrefused (is_own_operand a.made_of a.to) (differs a.made_of t) (has_dimensions a.to.var (shape_with (dimensions_made a.made_of a.to t))) (nat_lt (cells (shape_in a.to t)) (cells (shape_with (dimensions_made a.made_of a.to t)))) _ _ _ _ none in
    record {
      allowed = ap (λ (x : Dimensions). has_dimensions a.to.var (shape_with x)) is ∙ ok.0;
      fits = subst (λ (x : Dimensions). cells (shape_with x) ≤ cells (shape_in a.to t)) (sym is) (not_below (cells (shape_in a.to t)) (cells (shape_with (dimensions_made a.made_of a.to t))) ok.1);
      whole = whole;
    }
