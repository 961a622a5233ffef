use Rattle.b2_stmt_mat.proofs.Uses.{transposing_is_undone}
use Rattle.b2_stmt_mat.proofs.laws.transposing_is_undone.Goals as goal

pub returns : goal.returns
returns c = transposing_is_undone
