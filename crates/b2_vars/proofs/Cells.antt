-- Where a value stands: its place is one of the shape's, and its bytes are among the variable's.
use Rattle.std.proofs.Common.{◌≡◌, ℕ, suc, ◌+◌, ◌-◌, ◌*◌, ◌/◌, ◌<◌, ◌≤◌, max, Bool, true, false, cond, ◌&&◌, length, Option, Some, refl, ap, sym, subst, ◌∙◌, arith, true≢false}
use Rattle.std.proofs.lemmas.Nat.{mul-add-lt, div-mul-add}
use Rattle.std.proofs.Math.Nat.{mul-le-mul_right}
use Rattle.std.proofs.lemmas.Bool.Decides.{nat_tests}
use Rattle.std.specs.Option.{unwrap_or}
use Rattle.std.specs.FinMap.{get}
use Rattle.b2_vars.specs.declared.name.Var.{Var}
use Rattle.b2_vars.specs.declared.shape.Shape.{Shape}
use Rattle.b2_vars.specs.Shapes.{is_subscript, has_cell, cell_at, cells, number_cells, scalar_shape}
use Rattle.b2_vars.specs.Variables.{VariableState, fresh}
use Rattle.b2_vars.specs.Tables.{Table, IsVariable, shape_at, variable_at}
use Rattle.b2_vars.specs.Calls.{IsPart, part_place}

left_true : (a b : Bool) → a && b ≡ true → a ≡ true
left_true true b p = refl
left_true false b p = absurd (true≢false (sym p))

right_true : (a b : Bool) → a && b ≡ true → b ≡ true
right_true true b p = p
right_true false b p = absurd (true≢false (sym p))

subscript-lt : (size k : ℕ) → is_subscript size k ≡ true → k - 1 < max 1 size
subscript-lt size k h = grind (arith, nat_tests)

pub cell-lt : (s : Shape) (r c : ℕ) → has_cell s r c ≡ true → cell_at s r c < cells s
cell-lt s r c h =
    let rows = subscript-lt s.rows r (left_true _ _ h) in
    let cols = subscript-lt s.cols c (right_true _ _ h) in
    omega (arith, mul-add-lt (r - 1) (max 1 s.cols) (c - 1) (max 1 s.rows) rows cols)

-- the bytes of a value among those of all
pub value-le : (cell count len : ℕ) → cell < count → cell * len + len ≤ count * len
value-le cell count len h = omega (arith, mul-le-mul_right {m = suc cell} {n = count} len h, suc_row)
  where
    suc_row : suc cell * len ≡ cell * len + len
    suc_row = omega arith

pub variable_at-Some : (t : Table) (v : Var) (x : VariableState) → get t v ≡ Some x → variable_at v t ≡ x
variable_at-Some t v x is = ap (λ (o : Option VariableState). unwrap_or o (fresh v (scalar_shape v) false)) is

not_alpha : (v : Var) (s : Shape) → v.alpha ≡ false → number_cells v s ≡ cells s
not_alpha v s is = ap (λ b. cond b 0 (cells s)) is

-- a number at a place is among those of the variable
pub number-room : (t : Table) (v : Var) (r c : ℕ) → IsVariable v (variable_at v t) → v.alpha ≡ false → has_cell (shape_at v t) r c ≡ true
    → cell_at (shape_at v t) r c < length (variable_at v t).numbers
number-room t v r c is number has = omega (arith, cell-lt (shape_at v t) r c has, is.numbers, not_alpha v (shape_at v t) number)

-- the bytes of a value at a place, and a part of them, are among those of the variable
pub cell-within : (t : Table) (v : Var) (cell : ℕ) → IsVariable v (variable_at v t) → cell < cells (shape_at v t) → cell * (shape_at v t).len + (shape_at v t).len ≤ length (variable_at v t).bytes
cell-within t v cell is below = omega (arith, value-le cell (cells (shape_at v t)) (shape_at v t).len below, is.bytes)

-- with its length as the program has it
pub cell-room : (t : Table) (v : Var) (cell len : ℕ) → IsVariable v (variable_at v t) → cell < cells (shape_at v t) → len ≡ (shape_at v t).len → cell * len + len ≤ length (variable_at v t).bytes
cell-room t v cell len is below same = subst (λ (n : ℕ). cell * n + n ≤ length (variable_at v t).bytes) (sym same) (cell-within t v cell is below)

pub part-within : (t : Table) (v : Var) (r c from n : ℕ) → IsVariable v (variable_at v t) → IsPart v r c from n t → part_place v r c from t + n ≤ length (variable_at v t).bytes
part-within t v r c from n is there =
    let s = shape_at v t in
    omega (arith, cell-within t v (cell_at s r c) is (cell-lt s r c there.cell), there.within)

-- subscripts of one place are the same
same_subscript : (size k j : ℕ) → is_subscript size k ≡ true → is_subscript size j ≡ true → k - 1 ≡ j - 1 → k ≡ j
same_subscript size k j h g e = grind (arith, nat_tests)

pub cells-apart : (s : Shape) (r c row col : ℕ) → has_cell s r c ≡ true → has_cell s row col ≡ true → cell_at s r c ≡ cell_at s row col → (r ≡ row) × (c ≡ col)
cells-apart s r c row col h g e =
    let width = max 1 s.cols in
    let one = subscript-lt s.cols c (right_true _ _ h) in
    let other = subscript-lt s.cols col (right_true _ _ g) in
    let rows : r - 1 ≡ row - 1 = sym (div-mul-add (r - 1) width (c - 1) one) ∙ ap (λ n. n / width) e ∙ div-mul-add (row - 1) width (col - 1) other in
    let cols : c - 1 ≡ col - 1 = omega (arith, e, ap (λ n. n * width) rows) in
    (same_subscript s.rows r row (left_true _ _ h) (left_true _ _ g) rows, same_subscript s.cols c col (right_true _ _ h) (right_true _ _ g) cols)
