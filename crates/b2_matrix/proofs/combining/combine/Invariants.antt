use Rattle.std.proofs.Common.{◌≡◌, ◌<◌, ◌/◌, ◌%◌, ℕ, Ok, get_or}
use Rattle.b2_dec.specs.Number.{zero_number}
use Rattle.b2_matrix.specs.Arrays.{array_rows, combined_element}
use Rattle.b2_matrix.proofs.combining.combine.Given as goal

-- the elements so far, none of them refused
abbrev pub invariant-loop-place : goal.invariant-loop-place
invariant-loop-place l = (p : ℕ) → p < l.place → combined_element l.op l.m (array_rows l.a) (array_rows l.b) (p / l.width) (p % l.width) ≡ Ok (get_or l.into p zero_number)
