-- Places along the rows of an array, as a row and a column.
use Rattle.std.proofs.Common.{◌≡◌, ◌≤◌, ◌<◌, ℕ, ◌+◌, ◌-◌, ◌*◌, ◌/◌, ◌%◌, max, Bool, true, false, ◌&&◌, refl, ap, ◌∙◌, arith}
use Rattle.std.proofs.Math.Nat.{div-add-mod, mul_comm}
use Rattle.std.proofs.lemmas.Bool.Decides.{nat_tests}
use Rattle.b2_vars.specs.Shapes.{cell_at, cells, has_cell, is_subscript}
use Rattle.b2_vars.specs.declared.shape.Shape.{Shape}
use Rattle.b2_matrix.proofs.RowPlaces.{column_of_place, row_of_place}

subscript_is : (size k : ℕ) → k < size → is_subscript size (k + 1) ≡ true
subscript_is size k within = grind (arith, nat_tests)

none_is : (size : ℕ) → size ≡ 0 → is_subscript size 0 ≡ true
none_is size is = ap (λ (n : ℕ). is_subscript n 0) is

both : (a b : Bool) → a ≡ true → b ≡ true → (a && b) ≡ true
both true true p q = refl
both true false p q = q
both false b p q = p

max_is : (n : ℕ) → 0 < n → max 1 n ≡ n
max_is n some = omega arith

-- of one dimension
single : (s : Shape) → s.cols ≡ 0 → 0 < s.rows → cells s ≡ s.rows
single s none some =
    let rows : max 1 s.rows ≡ s.rows = max_is s.rows some in
    let cols : max 1 s.cols ≡ 1 = omega (arith, none) in
    ap (λ (n : ℕ). n * max 1 s.cols) rows ∙ ap (λ (n : ℕ). s.rows * n) cols ∙ (let e : s.rows * 1 ≡ s.rows = omega arith in e)

pub cell_fits : (s : Shape) (cell : ℕ) → s.cols ≡ 0 → 0 < s.rows → cell < cells s → cell + 1 ≤ s.rows
cell_fits s cell none some inside = omega (arith, inside, single s none some)

pub cell_there : (s : Shape) (cell : ℕ) → s.cols ≡ 0 → 0 < s.rows → cell < cells s → has_cell s (cell + 1) 0 ≡ true
cell_there s cell none some inside = both (is_subscript s.rows (cell + 1)) (is_subscript s.cols 0) (subscript_is s.rows cell (omega (arith, inside, single s none some))) (none_is s.cols none)

pub cell_is : (s : Shape) (cell : ℕ) → s.cols ≡ 0 → cell_at s (cell + 1) 0 ≡ cell
cell_is s cell none =
    let cols : max 1 s.cols ≡ 1 = omega (arith, none) in
    ap (λ (n : ℕ). (cell + 1 - 1) * n + (0 - 1)) cols ∙ (let e : (cell + 1 - 1) * 1 + (0 - 1) ≡ cell = omega arith in e)

-- of two
double : (s : Shape) → 0 < s.cols → 0 < s.rows → cells s ≡ s.rows * s.cols
double s wide some = ap (λ (n : ℕ). n * max 1 s.cols) (max_is s.rows some) ∙ ap (λ (n : ℕ). s.rows * n) (max_is s.cols wide)

pub row_fits : (s : Shape) (cell : ℕ) → 0 < s.cols → 0 < s.rows → cell < cells s → cell / s.cols < s.rows
row_fits s cell wide some inside = row_of_place cell s.rows s.cols (omega (arith, inside, double s wide some))

pub column_fits : (s : Shape) (cell : ℕ) → 0 < s.cols → 0 < s.rows → cell < cells s → cell % s.cols < s.cols
column_fits s cell wide some inside = column_of_place cell s.rows s.cols (omega (arith, inside, double s wide some))

pub place_there : (s : Shape) (cell : ℕ) → 0 < s.cols → 0 < s.rows → cell < cells s → has_cell s (cell / s.cols + 1) (cell % s.cols + 1) ≡ true
place_there s cell wide some inside =
    both (is_subscript s.rows (cell / s.cols + 1)) (is_subscript s.cols (cell % s.cols + 1)) (subscript_is s.rows (cell / s.cols) (row_fits s cell wide some inside)) (subscript_is s.cols (cell % s.cols) (column_fits s cell wide some inside))

pub place_is : (s : Shape) (cell : ℕ) → 0 < s.cols → cell_at s (cell / s.cols + 1) (cell % s.cols + 1) ≡ cell
place_is s cell wide =
    ap (λ (n : ℕ). (cell / s.cols + 1 - 1) * n + (cell % s.cols + 1 - 1)) (max_is s.cols wide)
    ∙ ap (λ (n : ℕ). n * s.cols + (cell % s.cols + 1 - 1)) (let e : cell / s.cols + 1 - 1 ≡ cell / s.cols = omega arith in e)
    ∙ ap (λ (n : ℕ). cell / s.cols * s.cols + n) (let e : cell % s.cols + 1 - 1 ≡ cell % s.cols = omega arith in e)
    ∙ whole (cell / s.cols) s.cols (cell % s.cols) cell (div-add-mod cell s.cols)
  where
    whole : (q w r n : ℕ) → w * q + r ≡ n → q * w + r ≡ n
    whole q w r n is = ap (λ (k : ℕ). k + r) (mul_comm q w) ∙ is
