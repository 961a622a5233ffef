use Rattle.b2_atom.proofs.lines.EachUnit.{tree_is_cut}
use Rattle.b2_atom.proofs.laws.each_tree_is_cut_into_units.Goals as goal

pub returns : goal.returns
returns c = tree_is_cut
