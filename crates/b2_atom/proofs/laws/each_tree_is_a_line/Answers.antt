use Rattle.b2_atom.proofs.lines.LineLaws.{tree_is_line}
use Rattle.b2_atom.proofs.laws.each_tree_is_a_line.Goals as goal

pub returns : goal.returns
returns c = tree_is_line
