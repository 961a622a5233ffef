use Rattle.std.proofs.Common.{◌≡◌, true, drop}
use Rattle.b2_atom.specs.declared.rows.TheConstants as row
use Rattle.b2_rows.specs.CommaLists.{commas}
use Rattle.b2_rows.specs.Rows.{after_phrase, is_list, is_phrase}
use Rattle.b2_expr.specs.Workspace.{SameReferences, workspace}
use Rattle.b2_stmt_pack.specs.Lists.{each_takes, items_at, takes_number}
use Rattle.b2_stmt_pack.proofs.lists.give_numbers.Given as goal

-- the receivers that are left take the numbers that are left as all of them take all from the first on
abbrev pub invariant-loop-x : goal.invariant-loop-x
invariant-loop-x l = record {
  part : is_phrase row.NUMERIC_RECEIVER l.left ≡ true;
  list : is_list commas row.COMMA_NUMERIC_RECEIVER (after_phrase row.NUMERIC_RECEIVER l.left) ≡ true;
  given : each_takes takes_number (items_at row.COMMA_NUMERIC_RECEIVER row.NUMERIC_RECEIVER l.left) (drop l.x-index l.xs) (workspace l.work)
      ≡ each_takes takes_number (items_at row.COMMA_NUMERIC_RECEIVER row.NUMERIC_RECEIVER l.text) l.xs (workspace l.fn.work);
  held : SameReferences l.fn.work l.work;
}
