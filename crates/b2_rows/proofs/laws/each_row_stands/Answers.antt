use Rattle.b2_rows.proofs.Standing.{each_row_stands}
use Rattle.b2_rows.proofs.laws.each_row_stands.Goals as goal

pub returns : goal.returns
returns c = each_row_stands
