use Rattle.std.proofs.Common.{◌≡◌, true, length}
use Rattle.b2_atom.specs.declared.rows.TheConstants as row
use Rattle.b2_rows.specs.Rows.{tree_at}
use Rattle.b2_rows.specs.CommaLists.{after_all_listed, after_further_listed}
use Rattle.b2_stmt_var.proofs.NumberRows.{are_others, after_others, end_at, left_at, past_first}
use Rattle.b2_stmt_var.proofs.assignments.expression_after.Given as goal

-- the receivers that are left stand before the same end
abbrev pub invariant-loop-left : goal.invariant-loop-left
invariant-loop-left l = record {
  list : are_others l.left ≡ true;
  rest : after_others l.left ≡ after_others (past_first l.text);
  end : after_further_listed (left_at (end_at (past_first l.text)) l.left) ≡ after_all_listed (tree_at row.NUMERIC_ASSIGNMENT l.text);
}

abbrev pub decreases-loop-left : goal.decreases-loop-left
decreases-loop-left l = length l.left
