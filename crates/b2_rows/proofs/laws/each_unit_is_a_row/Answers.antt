use Rattle.b2_rows.proofs.Units.{each_unit_is_a_row}
use Rattle.b2_rows.proofs.laws.each_unit_is_a_row.Goals as goal

pub returns : goal.returns
returns c = each_unit_is_a_row
