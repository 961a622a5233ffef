use Rattle.std.proofs.Common.{◌≡◌, false}
use Rattle.b2_vars.specs.Calls.{with_change}
use Rattle.b2_vars.specs.Tables.{shape_at}
use Rattle.b2_stmt_mat.specs.Arrays.{IsArrayOf}
use Rattle.b2_stmt_mat.proofs.Written.{with_first}
use Rattle.b2_stmt_mat.proofs.arrays.put_numbers.Given as goal

-- the numbers so far stand in the array, and it is still there
abbrev pub invariant-loop-cell : goal.invariant-loop-cell
invariant-loop-cell l = record {
  put : l.vars ≡ with_change l.v (with_first l.cell l.numbers) l.fn.vars;
  there : IsArrayOf false l.v l.vars.table;
  shape : l.shape ≡ shape_at l.v l.vars.table;
}
