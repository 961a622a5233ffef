use Rattle.std.proofs.Common.{◌≡◌, true, length}
use Rattle.b2_atom.specs.declared.rows.TheConstants as row
use Rattle.b2_rows.specs.Rows.{is_phrase}
use Rattle.b2_stmt.specs.Marked.{values_fit}
use Rattle.b2_rows.specs.CommaLists.{are_others, past_first, receivers_at}
use Rattle.b2_stmt.proofs.marked.values_fit.Given as goal

-- the values that are left fit the receivers that are left as all of them fit all
abbrev pub invariant-loop-value : goal.invariant-loop-value
invariant-loop-value l = record {
  part : is_phrase row.RECEIVER l.left ≡ true;
  list : are_others (past_first l.left) ≡ true;
  fit : values_fit (receivers_at l.left) l.values ≡ values_fit (receivers_at l.text) l.args;
}

abbrev pub decreases-loop-value : goal.decreases-loop-value
decreases-loop-value l = length l.left
