use Rattle.b2_datafile.proofs.Saved.{with_end-whole}
use Rattle.b2_datafile.proofs.laws.ending_makes_the_file_whole.Goals as goal

pub returns : goal.returns
returns c = with_end-whole
