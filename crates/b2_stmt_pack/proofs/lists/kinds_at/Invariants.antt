use Rattle.std.proofs.Common.{◌≡◌, ◌++◌, true, length, map}
use Rattle.b2_atom.specs.declared.rows.TheConstants as row
use Rattle.b2_rows.specs.CommaLists.{commas}
use Rattle.b2_rows.specs.Rows.{after_phrase, is_list, is_phrase}
use Rattle.b2_stmt_pack.specs.Lists.{items_at, kind_of}
use Rattle.b2_stmt_pack.proofs.lists.kinds_at.Given as goal

-- the kinds so far before those that are left are all of them
abbrev pub invariant-loop-kinds : goal.invariant-loop-kinds
invariant-loop-kinds l = record {
  part : is_phrase row.RECEIVER l.left ≡ true;
  list : is_list commas row.COMMA_RECEIVER (after_phrase row.RECEIVER l.left) ≡ true;
  kinds : l.kinds.items ++ map kind_of (items_at row.COMMA_RECEIVER row.RECEIVER l.left) ≡ map kind_of (items_at row.COMMA_RECEIVER row.RECEIVER l.text);
}

abbrev pub decreases-loop-kinds : goal.decreases-loop-kinds
decreases-loop-kinds l = length l.left
