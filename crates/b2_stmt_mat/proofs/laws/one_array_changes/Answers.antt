use Rattle.b2_stmt_mat.proofs.Uses.{change_one_array}
use Rattle.b2_stmt_mat.proofs.laws.one_array_changes.Goals as goal

pub returns : goal.returns
returns c = change_one_array
