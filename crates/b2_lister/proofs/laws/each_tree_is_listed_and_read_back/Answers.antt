use Rattle.b2_lister.proofs.WholeLines.{tree_again}
use Rattle.b2_lister.proofs.laws.each_tree_is_listed_and_read_back.Goals as goal

pub returns : goal.returns
returns c = tree_again
