use Rattle.std.proofs.Common.{◌≡◌, ◌≤◌, ◌+◌, true, length}
use Rattle.b2_atom.specs.declared.rows.TheConstants as row
use Rattle.b2_rows.specs.CommaLists.{commas}
use Rattle.b2_rows.specs.Rows.{after_phrase, is_list, is_phrase}
use Rattle.b2_stmt_pack.specs.Lists.{items_at}
use Rattle.b2_stmt_pack.proofs.lists.count_at.Given as goal

-- those that were counted and those that are left are all of them
abbrev pub invariant-loop-rest : goal.invariant-loop-rest
invariant-loop-rest l = record {
  part : is_phrase row.NUMERIC_RECEIVER l.left ≡ true;
  list : is_list commas row.COMMA_NUMERIC_RECEIVER (after_phrase row.NUMERIC_RECEIVER l.left) ≡ true;
  counted : l.count + length (items_at row.COMMA_NUMERIC_RECEIVER row.NUMERIC_RECEIVER l.left) ≡ length (items_at row.COMMA_NUMERIC_RECEIVER row.NUMERIC_RECEIVER l.text);
  few : l.count + length l.left ≤ length l.text;
}

abbrev pub decreases-loop-rest : goal.decreases-loop-rest
decreases-loop-rest l = length l.left
