use Rattle.b2_access.proofs.Locality.{serves_is_local}
use Rattle.b2_access.proofs.laws.law_serving_is_local.Goals as goal

pub returns : goal.returns
returns c = serves_is_local
