use Rattle.std.proofs.Common.{◌≡◌, ◌<◌, ◌/◌, ◌%◌, ℕ, get_or}
use Rattle.b2_dec.specs.Number.{zero_number}
use Rattle.b2_matrix.specs.Arrays.{filling}
use Rattle.b2_matrix.proofs.filling.fill.Given as goal

-- the elements so far
abbrev pub invariant-loop-place : goal.invariant-loop-place
invariant-loop-place l = (p : ℕ) → p < l.place → get_or l.into p zero_number ≡ filling l.k (p / l.width) (p % l.width)
