use Rattle.b2_atom.proofs.lines.LineLaws.{atoms_back}
use Rattle.b2_atom.proofs.laws.each_tree_is_read_from_its_atoms.Goals as goal

pub returns : goal.returns
returns c = atoms_back
