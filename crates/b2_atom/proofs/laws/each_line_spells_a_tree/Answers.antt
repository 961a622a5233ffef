use Rattle.b2_atom.proofs.lines.LineLaws.{spells_tree}
use Rattle.b2_atom.proofs.laws.each_line_spells_a_tree.Goals as goal

pub returns : goal.returns
returns c = spells_tree
