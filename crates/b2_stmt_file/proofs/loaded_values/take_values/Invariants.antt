use Rattle.std.proofs.Common.{◌≡◌, true, length}
use Rattle.b2_atom.specs.declared.rows.TheConstants as row
use Rattle.b2_rows.specs.CommaLists.{commas}
use Rattle.b2_rows.specs.Rows.{after_phrase, is_list, is_phrase}
use Rattle.b2_expr.specs.Workspace.{SameReferences, workspace}
use Rattle.b2_stmt_file.specs.LoadedValues.{each_takes, items_at}
use Rattle.b2_stmt_file.proofs.loaded_values.take_values.Given as goal

-- the items that are left take from here on as all of them do from the first on
abbrev pub invariant-loop-found : goal.invariant-loop-found
invariant-loop-found l = record {
  part : is_phrase row.LOADED l.left ≡ true;
  list : is_list commas row.COMMA_LOADED (after_phrase row.LOADED l.left) ≡ true;
  taken : each_takes l.values (items_at l.left) (workspace l.work) l.next ≡ each_takes l.values (items_at l.text) (workspace l.fn.work) 0;
  held : SameReferences l.fn.work l.work;
}

abbrev pub decreases-loop-found : goal.decreases-loop-found
decreases-loop-found l = length l.left
