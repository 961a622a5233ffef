use Rattle.std.proofs.Common.{◌≡◌, ◌∷◌, Ok, true, length}
use Rattle.b2_atom.specs.declared.rows.TheConstants as row
use Rattle.b2_rows.specs.Rows.{is_phrase, tree_at}
use Rattle.b2_receiver.specs.Receiving.{assign_number_at}
use Rattle.b2_expr.specs.Workspace.{SameReferences, workspace}
use Rattle.b2_stmt_var.specs.Assignments.{assign_each}
use Rattle.b2_rows.specs.CommaLists.{all_listed, further_listed}
use Rattle.b2_stmt_var.proofs.NumberRows.{are_others, end_at, left_at, past_first}
use Rattle.b2_stmt_var.proofs.assignments.assign_all.Given as goal

-- the receivers that are left are assigned from here as all of them were from the first on
abbrev pub invariant-loop-code : goal.invariant-loop-code
invariant-loop-code l = record {
  part : is_phrase row.NUMERIC_RECEIVER l.left ≡ true;
  list : are_others (past_first l.left) ≡ true;
  assigned : assign_each (assign_number_at (Ok l.x)) (tree_at row.NUMERIC_RECEIVER l.left ∷ further_listed (left_at (end_at (past_first l.text)) (past_first l.left))) (workspace l.work)
      ≡ assign_each (assign_number_at (Ok l.x)) (all_listed (tree_at row.NUMERIC_ASSIGNMENT l.text)) (workspace l.fn.work);
  held : SameReferences l.fn.work l.work;
}

abbrev pub decreases-loop-code : goal.decreases-loop-code
decreases-loop-code l = length l.left
