use Rattle.std.proofs.Common.{◌≡◌, true, length}
use Rattle.b2_atom.specs.declared.rows.TheConstants as row
use Rattle.b2_rows.specs.CommaLists.{commas}
use Rattle.b2_rows.specs.Rows.{after_phrase, is_list, is_phrase}
use Rattle.b2_expr.specs.Scope.{surroundings}
use Rattle.b2_expr.specs.Value.{in_statement}
use Rattle.b2_stmt_pack.specs.Lists.{each_of, items_at, items_before, value_of}
use Rattle.b2_stmt_pack.proofs.lists.values_at.Given as goal

-- the values so far before those that are left are all of them
abbrev pub invariant-loop-rest : goal.invariant-loop-rest
invariant-loop-rest l = record {
  part : is_phrase row.OPERAND_OF_ANY_KIND l.left ≡ true;
  list : is_list commas row.COMMA_OPERAND (after_phrase row.OPERAND_OF_ANY_KIND l.left) ≡ true;
  values : items_before l.values.items (each_of (value_of (in_statement (surroundings l.e))) (items_at row.COMMA_OPERAND row.OPERAND_OF_ANY_KIND l.left)) ≡ each_of (value_of (in_statement (surroundings l.e))) (items_at row.COMMA_OPERAND row.OPERAND_OF_ANY_KIND l.text);
}

abbrev pub decreases-loop-rest : goal.decreases-loop-rest
decreases-loop-rest l = length l.left
