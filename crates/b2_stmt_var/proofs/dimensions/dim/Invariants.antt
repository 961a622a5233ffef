use Rattle.std.proofs.Common.{◌≡◌, ◌∷◌, true, length}
use Rattle.b2_atom.specs.declared.rows.TheConstants as row
use Rattle.b2_rows.specs.Rows.{is_phrase, tree_at}
use Rattle.b2_expr.specs.Workspace.{SameReferences, workspace}
use Rattle.b2_stmt_var.specs.Assignments.{assign_each}
use Rattle.b2_rows.specs.CommaLists.{further_listed}
use Rattle.b2_stmt_var.specs.Dimensions.{entries_of, makes_one}
use Rattle.b2_stmt_var.proofs.EntryRows.{are_others, left_at, past_first}
use Rattle.b2_stmt_var.proofs.dimensions.dim.Given as goal

-- the entries that are left are made from here as all of them were from the first on
abbrev pub invariant-loop-found : goal.invariant-loop-found
invariant-loop-found l = record {
  part : is_phrase row.DIMENSIONED l.left ≡ true;
  list : are_others (past_first l.left) ≡ true;
  made : assign_each (makes_one l.common) (tree_at row.DIMENSIONED l.left ∷ further_listed (left_at (past_first l.left))) (workspace l.work)
      ≡ assign_each (makes_one l.common) (entries_of (tree_at row.DIM l.unit)) (workspace l.fn.work);
  held : SameReferences l.fn.work l.work;
}

abbrev pub decreases-loop-found : goal.decreases-loop-found
decreases-loop-found l = length l.left
