use Rattle.b2_atom.proofs.lines.UnitRows.{each_unit_by_its_row}
use Rattle.b2_atom.proofs.laws.each_unit_is_read_by_its_row.Goals as goal

pub returns : goal.returns
returns c = each_unit_by_its_row
