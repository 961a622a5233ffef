use Rattle.b2_matrix.proofs.Transposing.{transposed-transposed}
use Rattle.b2_matrix.proofs.laws.transposing_is_undone.Goals as goal

pub returns : goal.returns
returns c = transposed-transposed
