use Rattle.b2_stmt_mat.proofs.Uses.{copies_are_equal}
use Rattle.b2_stmt_mat.proofs.laws.copies_are_equal.Goals as goal

pub returns : goal.returns
returns c = copies_are_equal
