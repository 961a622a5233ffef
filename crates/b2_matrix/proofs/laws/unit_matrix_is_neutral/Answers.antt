use Rattle.b2_matrix.proofs.UnitMatrix.{unit_times}
use Rattle.b2_matrix.proofs.laws.unit_matrix_is_neutral.Goals as goal

pub returns : goal.returns
returns c = unit_times
