use Rattle.b2_pack.proofs.Standing.{one-spelling}
use Rattle.b2_pack.proofs.laws.law_there_is_one_way_to_pack.Goals as goal

pub returns : goal.returns
returns c = one-spelling
