use Rattle.b2_atom.proofs.lines.EachUnit.{each_unit}
use Rattle.b2_atom.proofs.laws.each_unit_is_a_statement.Goals as goal

pub returns : goal.returns
returns c = each_unit
