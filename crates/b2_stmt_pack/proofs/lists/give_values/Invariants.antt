use Rattle.std.proofs.Common.{◌≡◌, true, drop}
use Rattle.b2_atom.specs.declared.rows.TheConstants as row
use Rattle.b2_rows.specs.CommaLists.{commas}
use Rattle.b2_rows.specs.Rows.{after_phrase, is_list, is_phrase}
use Rattle.b2_expr.specs.Workspace.{SameReferences, workspace}
use Rattle.b2_stmt_pack.specs.Lists.{each_takes, items_at, takes_value}
use Rattle.b2_stmt_pack.proofs.lists.give_values.Given as goal

-- the receivers that are left take the values that are left as all of them take all from the first on
abbrev pub invariant-loop-value : goal.invariant-loop-value
invariant-loop-value l = record {
  part : is_phrase row.RECEIVER l.left ≡ true;
  list : is_list commas row.COMMA_RECEIVER (after_phrase row.RECEIVER l.left) ≡ true;
  given : each_takes takes_value (items_at row.COMMA_RECEIVER row.RECEIVER l.left) (drop l.value-index l.values) (workspace l.work)
      ≡ each_takes takes_value (items_at row.COMMA_RECEIVER row.RECEIVER l.text) l.values (workspace l.fn.work);
  held : SameReferences l.fn.work l.work;
}
