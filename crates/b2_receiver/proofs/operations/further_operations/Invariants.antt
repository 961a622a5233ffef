use Rattle.std.proofs.Common.{◌≡◌, true, Ok, length}
use Rattle.b2_atom.specs.declared.rows.TheConstants as row
use Rattle.b2_rows.specs.Rows.{is_list, list_at, after_list}
use Rattle.b2_receiver.specs.RightSide.{operation_start, further_operations}
use Rattle.b2_expr.specs.Value.{context}
use Rattle.b2_receiver.proofs.operations.further_operations.Given as goal

-- the operations that are left give what all of them do
abbrev pub invariant-loop-into : goal.invariant-loop-into
invariant-loop-into l = record {
  list : is_list operation_start row.OPERATION l.left ≡ true;
  value : further_operations (context l.s) (Ok l.into.items) (list_at operation_start row.OPERATION l.left) ≡ further_operations (context l.s) (Ok l.fn.into.items) (list_at operation_start row.OPERATION l.text);
  rest : after_list operation_start row.OPERATION l.left ≡ after_list operation_start row.OPERATION l.text;
}

abbrev pub decreases-loop-into : goal.decreases-loop-into
decreases-loop-into l = length l.left
