use Rattle.b2_lister.proofs.WholeLines.{listed_again}
use Rattle.b2_lister.proofs.laws.each_listed_line_is_read_back.Goals as goal

pub returns : goal.returns
returns c = listed_again
