use Rattle.b2_store.proofs.Records.{ended-whole}
use Rattle.b2_store.proofs.laws.law_an_ended_file_is_whole.Goals as goal

pub returns : goal.returns
returns c = ended-whole
