use Rattle.b2_stmt_var.proofs.LengthRows.{lengths_are_sums}
use Rattle.b2_stmt_var.proofs.laws.lengths_are_sums.Goals as goal

pub returns : goal.returns
returns c = lengths_are_sums
