use Rattle.b2_store.proofs.Records.{moved-over}
use Rattle.b2_store.proofs.laws.law_a_moved_place_goes_over_records.Goals as goal

pub returns : goal.returns
returns c = moved-over
