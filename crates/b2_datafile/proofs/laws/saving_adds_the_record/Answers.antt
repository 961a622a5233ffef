use Rattle.b2_datafile.proofs.Saved.{saved-front}
use Rattle.b2_datafile.proofs.laws.saving_adds_the_record.Goals as goal

pub returns : goal.returns
returns c = saved-front
