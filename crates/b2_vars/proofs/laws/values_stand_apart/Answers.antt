use Rattle.b2_vars.proofs.Cells.{cell-lt, cells-apart}
use Rattle.b2_vars.proofs.laws.values_stand_apart.Goals as goal

pub returns : goal.returns
returns c = record { within = cell-lt; apart = cells-apart }
