use Rattle.b2_store.proofs.Made.{made-empty}
use Rattle.b2_store.proofs.laws.law_a_made_file_is_empty.Goals as goal

pub returns : goal.returns
returns c = made-empty
