use Rattle.std.proofs.Common.{◌≡◌, ◌∷◌, true, length}
use Rattle.b2_atom.specs.declared.rows.TheConstants as row
use Rattle.b2_rows.specs.Rows.{is_phrase, tree_at}
use Rattle.b2_expr.specs.Workspace.{SameReferences, workspace}
use Rattle.b2_stmt_var.specs.Assignments.{assign_each}
use Rattle.b2_rows.specs.CommaLists.{further_listed}
use Rattle.b2_stmt_var.specs.Buffers.{buffers_of_init, fills_one}
use Rattle.b2_stmt_var.proofs.BufferRows.{are_others, left_at, past_first}
use Rattle.b2_stmt_var.proofs.buffers.init.Given as goal

-- the buffers that are left are filled from here as all of them were from the first on
abbrev pub invariant-loop-to : goal.invariant-loop-to
invariant-loop-to l = record {
  part : is_phrase row.BUFFER l.left ≡ true;
  list : are_others (past_first l.left) ≡ true;
  all_filled : assign_each (fills_one l.byte) (tree_at row.BUFFER l.left ∷ further_listed (left_at (past_first l.left))) (workspace l.work)
      ≡ assign_each (fills_one l.byte) (buffers_of_init (tree_at row.INIT l.unit)) (workspace l.fn.work);
  held : SameReferences l.fn.work l.work;
}

abbrev pub decreases-loop-to : goal.decreases-loop-to
decreases-loop-to l = length l.left
