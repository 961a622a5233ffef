use Rattle.b2_stmt_mat.proofs.SortedMoves.{sorted_are_moved}
use Rattle.b2_stmt_mat.proofs.laws.sorted_are_moved.Goals as goal

pub returns : goal.returns
returns c = sorted_are_moved
