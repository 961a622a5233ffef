use Rattle.std.proofs.Common.{◌≡◌, ◌<◌, ℕ, Ok, get_or}
use Rattle.b2_dec.specs.Number.{zero_number}
use Rattle.b2_dec.specs.Arithmetic.{product_of}
use Rattle.b2_matrix.proofs.combining.scale.Given as goal

-- the multiples so far, none of them refused
abbrev pub invariant-loop-place : goal.invariant-loop-place
invariant-loop-place l = (p : ℕ) → p < l.place → product_of l.m l.k (get_or l.a.cells.now p zero_number) ≡ Ok (get_or l.into p zero_number)
