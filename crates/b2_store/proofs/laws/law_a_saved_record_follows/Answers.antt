use Rattle.b2_store.proofs.Records.{saved-follow}
use Rattle.b2_store.proofs.laws.law_a_saved_record_follows.Goals as goal

pub returns : goal.returns
returns c = saved-follow
