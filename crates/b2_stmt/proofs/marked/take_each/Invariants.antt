use Rattle.std.proofs.Common.{◌≡◌, true, length}
use Rattle.b2_atom.specs.declared.rows.TheConstants as row
use Rattle.b2_rows.specs.Rows.{is_phrase}
use Rattle.b2_expr.specs.Workspace.{SameReferences, workspace}
use Rattle.b2_stmt.specs.Marked.{take_each, takes_value}
use Rattle.b2_rows.specs.CommaLists.{are_others, past_first, receivers_at}
use Rattle.b2_stmt.proofs.marked.take_each.Given as goal

-- the receivers that are left take the values that are left as all of them take all
abbrev pub invariant-loop-value : goal.invariant-loop-value
invariant-loop-value l = record {
  part : is_phrase row.RECEIVER l.left ≡ true;
  list : are_others (past_first l.left) ≡ true;
  taken : take_each takes_value (receivers_at l.left) l.values (workspace l.work) ≡ take_each takes_value (receivers_at l.text) l.args (workspace l.fn.work);
  held : SameReferences l.fn.work l.work;
}

abbrev pub decreases-loop-value : goal.decreases-loop-value
decreases-loop-value l = length l.left
