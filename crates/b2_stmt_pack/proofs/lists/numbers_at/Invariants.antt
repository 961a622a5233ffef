use Rattle.std.proofs.Common.{◌≡◌, true, length}
use Rattle.b2_atom.specs.declared.rows.TheConstants as row
use Rattle.b2_rows.specs.CommaLists.{commas}
use Rattle.b2_rows.specs.Rows.{after_phrase, is_list, is_phrase}
use Rattle.b2_expr.specs.Scope.{surroundings}
use Rattle.b2_expr.specs.Value.{in_statement}
use Rattle.b2_stmt_pack.specs.Lists.{each_of, items_at, items_before, number_of}
use Rattle.b2_stmt_pack.proofs.lists.numbers_at.Given as goal

-- the numbers so far before those that are left are all of them
abbrev pub invariant-loop-rest : goal.invariant-loop-rest
invariant-loop-rest l = record {
  part : is_phrase row.SUM l.left ≡ true;
  list : is_list commas row.COMMA_NUMBER (after_phrase row.SUM l.left) ≡ true;
  numbers : items_before l.numbers.items (each_of (number_of (in_statement (surroundings l.e))) (items_at row.COMMA_NUMBER row.SUM l.left)) ≡ each_of (number_of (in_statement (surroundings l.e))) (items_at row.COMMA_NUMBER row.SUM l.text);
}

abbrev pub decreases-loop-rest : goal.decreases-loop-rest
decreases-loop-rest l = length l.left
