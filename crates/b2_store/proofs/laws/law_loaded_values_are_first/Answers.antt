use Rattle.b2_store.proofs.Records.{loaded-follow}
use Rattle.b2_store.proofs.laws.law_loaded_values_are_first.Goals as goal

pub returns : goal.returns
returns c = loaded-follow
