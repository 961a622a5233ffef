use Rattle.std.proofs.Common.{◌≡◌, ◌<◌, ℕ, get_or}
use Rattle.b2_dec.specs.Number.{zero_number}
use Rattle.b2_vars.specs.Tables.{variable_at}
use Rattle.b2_stmt_mat.proofs.arrays.copy_numbers.Given as goal

-- the numbers so far
abbrev pub invariant-loop-cell : goal.invariant-loop-cell
invariant-loop-cell l = (p : ℕ) → p < l.cell → get_or l.into p zero_number ≡ get_or (variable_at l.v l.vars.table).numbers p zero_number
