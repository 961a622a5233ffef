use Rattle.b2_datafile.proofs.Saved.{with_end-good, with_end-files, with_end-other}
use Rattle.b2_datafile.proofs.laws.ending_leaves_the_rest.Goals as goal

pub returns : goal.returns
returns c = record { good = with_end-good; files = with_end-files; others = with_end-other }
