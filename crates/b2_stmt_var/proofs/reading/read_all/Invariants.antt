use Rattle.std.proofs.Common.{◌≡◌, true, length}
use Rattle.b2_atom.specs.declared.rows.TheConstants as row
use Rattle.b2_rows.specs.Rows.{is_phrase}
use Rattle.b2_expr.specs.Workspace.{SameReferences, workspace}
use Rattle.b2_stmt_var.specs.Reading.{read_each, reads_one}
use Rattle.b2_rows.specs.CommaLists.{are_others, past_first, receivers_at}
use Rattle.b2_stmt_var.proofs.reading.read_all.Given as goal

-- the receivers that are left read from here on as all of them do from the first on
abbrev pub invariant-loop-code : goal.invariant-loop-code
invariant-loop-code l = record {
  part : is_phrase row.RECEIVER l.left ≡ true;
  list : are_others (past_first l.left) ≡ true;
  read : read_each (reads_one l.own.lines) (receivers_at l.left) (workspace l.work) l.next ≡ read_each (reads_one l.own.lines) (receivers_at l.text) (workspace l.fn.work) l.fn.next;
  held : SameReferences l.fn.work l.work;
}

abbrev pub decreases-loop-code : goal.decreases-loop-code
decreases-loop-code l = length l.left
