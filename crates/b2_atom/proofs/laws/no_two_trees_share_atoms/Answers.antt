use Rattle.b2_atom.proofs.lines.LineLaws.{one_tree}
use Rattle.b2_atom.proofs.laws.no_two_trees_share_atoms.Goals as goal

pub returns : goal.returns
returns c = one_tree
