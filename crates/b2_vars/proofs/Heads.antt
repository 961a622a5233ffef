-- What stands before the values of an entry: how long it is.
use Rattle.std.proofs.Common.{◌≡◌, ◌≤◌, ℕ, ◌+◌, Bool, true, false, cond, [], ◌∷◌, ◌++◌, length, refl, arith}
use Rattle.b2_vars.specs.declared.name.Var.{Var}
use Rattle.b2_vars.specs.declared.shape.Shape.{Shape}
use Rattle.b2_vars.specs.Shapes.{overhead}
use Rattle.b2_vars.specs.Block.{head_bytes, two_bytes}

long_after : (alpha array : Bool) (l rows cols : ℕ) → length (cond alpha (l ∷ []) [] ++ cond array (two_bytes rows ++ two_bytes cols) []) + 4 ≡ cond alpha (cond array 9 5) (cond array 8 4)
long_after true true l rows cols = refl
long_after true false l rows cols = refl
long_after false true l rows cols = refl
long_after false false l rows cols = refl

pub length-head : (v : Var) (s : Shape) (common : Bool) → length (head_bytes v s common) ≡ overhead v
length-head v s common = omega (arith, long_after v.alpha v.array s.len s.rows s.cols)

some_before : (alpha array : Bool) → 4 ≤ cond alpha (cond array 9 5) (cond array 8 4)
some_before true true = omega arith
some_before true false = omega arith
some_before false true = omega arith
some_before false false = omega arith

pub overhead-some : (v : Var) → 4 ≤ overhead v
overhead-some v = some_before v.alpha v.array
