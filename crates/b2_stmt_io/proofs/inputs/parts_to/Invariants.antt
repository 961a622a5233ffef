use Rattle.std.proofs.Common.{◌≡◌, true, length}
use Rattle.b2_atom.specs.declared.rows.TheConstants as row
use Rattle.b2_rows.specs.Rows.{is_phrase}
use Rattle.b2_expr.specs.Workspace.{SameReferences, workspace}
use Rattle.b2_stmt_io.specs.Inputs.{take_parts, takes_part}
use Rattle.b2_rows.specs.CommaLists.{are_others, past_first, receivers_at}
use Rattle.b2_stmt_io.specs.TypedText.{typed_parts}
use Rattle.b2_stmt_io.proofs.inputs.parts_to.Given as goal

-- the receivers that are left take the parts that are left as all of them take all
abbrev pub invariant-loop-code : goal.invariant-loop-code
invariant-loop-code l = record {
  part : is_phrase row.RECEIVER l.left ≡ true;
  list : are_others (past_first l.left) ≡ true;
  taken : take_parts takes_part (receivers_at l.left) (typed_parts l.typed) (workspace l.work) ≡ take_parts takes_part (receivers_at l.text) (typed_parts l.line) (workspace l.fn.work);
  held : SameReferences l.fn.work l.work;
}

abbrev pub decreases-loop-code : goal.decreases-loop-code
decreases-loop-code l = length l.left
