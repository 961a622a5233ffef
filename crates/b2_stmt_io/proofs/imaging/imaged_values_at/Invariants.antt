use Rattle.std.proofs.Common.{◌≡◌, true, length}
use Rattle.b2_atom.specs.declared.rows.TheConstants as row
use Rattle.b2_expr.specs.Scope.{surroundings}
use Rattle.b2_expr.specs.Value.{in_statement}
use Rattle.b2_stmt_io.specs.Imaging.{values_joined, values_of}
use Rattle.b2_rows.specs.CommaLists.{after_all_listed, after_further_listed}
use Rattle.b2_stmt_io.specs.Operands.{after_operands, are_operands, end_joint, further_at, operands_at, operands_tree, past_operand}
use Rattle.b2_rows.proofs.CommaLists.{tail_at}
use Rattle.b2_stmt_io.proofs.imaging.imaged_values_at.Given as goal

-- the operands that are left have the values that are still to be added
abbrev pub invariant-loop-left : goal.invariant-loop-left
invariant-loop-left l = record {
  list : are_operands l.left ≡ true;
  rest : after_operands l.left ≡ after_operands (past_operand l.text);
  end : after_further_listed (tail_at row.COMMA_OPERAND (end_joint l.text) l.left) ≡ after_all_listed (operands_tree l.text);
  valued : values_joined l.values.items (values_of (in_statement (surroundings l.e)) (further_at (end_joint l.text) l.left)) ≡ values_joined l.fn.values.items (values_of (in_statement (surroundings l.e)) (operands_at l.text));
}

abbrev pub decreases-loop-left : goal.decreases-loop-left
decreases-loop-left l = length l.left
