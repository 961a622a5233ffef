-- What a variable of each kind takes.
use Rattle.std.proofs.Common.{◌≡◌, ℕ, ◌+◌, ◌*◌, max, Bool, true, false, cond, ◌&&◌, ◌==◌, ap, sym, ◌∙◌, arith}
use Rattle.std.proofs.lemmas.Bool.Decides.{nat_tests}
use Rattle.b2_vars.specs.declared.name.Var.{Var}
use Rattle.b2_vars.specs.declared.shape.Shape.{Shape}
use Rattle.b2_vars.specs.Shapes.{cost, cells, has_dimensions, is_up_to}

pub is_zero : (n : ℕ) → (n == 0) ≡ true → n ≡ 0
is_zero n e = grind (arith, nat_tests)

-- a shape without dimensions has one value
one_cell : (rows cols : ℕ) → (rows == 0 && cols == 0) ≡ true → max 1 rows * max 1 cols ≡ 1
one_cell rows cols h =
    let none : (rows ≡ 0) × (cols ≡ 0) = (grind (arith, nat_tests), grind (arith, nat_tests)) in
    (λ i. max 1 (none.0 i) * max 1 (none.1 i))

-- a scalar has no dimensions
pub no_dimensions : (v : Var) (s : Shape) → v.array ≡ false → has_dimensions v s ≡ true → (s.rows == 0 && s.cols == 0) ≡ true
no_dimensions v s array has =
    sym (ap (λ b. cond b (cond (s.cols == 0) (is_up_to 4000 s.rows) (is_up_to 255 s.rows && is_up_to 255 s.cols)) (s.rows == 0 && s.cols == 0)) array) ∙ has

scalar_cell : (v : Var) (s : Shape) → v.array ≡ false → has_dimensions v s ≡ true → cells s ≡ 1
scalar_cell v s array has = one_cell s.rows s.cols (no_dimensions v s array has)

kinds : (v : Var) (s : Shape) (alpha array : Bool) → v.alpha ≡ alpha → v.array ≡ array → cost v s ≡ cond alpha (cond array 9 5) (cond array 8 4) + cond alpha (cells s * s.len) (cells s * 8)
kinds v s alpha array a r = λ i. cond (a i) (cond (r i) 9 5) (cond (r i) 8 4) + cond (a i) (cells s * s.len) (cells s * 8)

pub cost-number : (v : Var) (s : Shape) → v.alpha ≡ false → v.array ≡ false → has_dimensions v s ≡ true → cost v s ≡ 12
cost-number v s a r has = kinds v s false false a r ∙ ap (λ n. 4 + n * 8) (scalar_cell v s r has)

pub cost-alpha : (v : Var) (s : Shape) → v.alpha ≡ true → v.array ≡ false → has_dimensions v s ≡ true → cost v s ≡ 5 + s.len
cost-alpha v s a r has = kinds v s true false a r ∙ ap (λ n. 5 + n * s.len) (scalar_cell v s r has) ∙ omega arith

pub cost-numbers : (v : Var) (s : Shape) → v.alpha ≡ false → v.array ≡ true → cost v s ≡ 8 + cells s * 8
cost-numbers v s a r = kinds v s false true a r

pub cost-alphas : (v : Var) (s : Shape) → v.alpha ≡ true → v.array ≡ true → cost v s ≡ 9 + cells s * s.len
cost-alphas v s a r = kinds v s true true a r
