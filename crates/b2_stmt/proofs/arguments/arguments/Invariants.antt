use Rattle.std.proofs.Common.{◌≡◌, true, length}
use Rattle.b2_atom.specs.declared.rows.TheConstants as row
use Rattle.b2_rows.specs.Rows.{after_phrase, is_list, is_phrase}
use Rattle.b2_expr.specs.Scope.{surroundings}
use Rattle.b2_expr.specs.Value.{in_statement}
use Rattle.b2_stmt.specs.Arguments.{arguments, values_before, arguments_at}
use Rattle.b2_rows.specs.CommaLists.{commas}
use Rattle.b2_stmt.proofs.arguments.arguments.Given as goal

-- the values so far before those of the arguments that are left are the values of all
abbrev pub invariant-loop-rest : goal.invariant-loop-rest
invariant-loop-rest l = record {
  part : is_phrase row.OPERAND_OF_ANY_KIND l.left ≡ true;
  list : is_list commas row.COMMA_OPERAND (after_phrase row.OPERAND_OF_ANY_KIND l.left) ≡ true;
  values : values_before l.values.items (arguments (in_statement (surroundings l.e)) (arguments_at l.left)) ≡ arguments (in_statement (surroundings l.e)) (arguments_at l.text);
}

abbrev pub decreases-loop-rest : goal.decreases-loop-rest
decreases-loop-rest l = length l.left
