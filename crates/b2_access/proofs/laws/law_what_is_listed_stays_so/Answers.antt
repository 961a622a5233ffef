use Rattle.b2_access.proofs.Locality.{serves_keeps_listed}
use Rattle.b2_access.proofs.laws.law_what_is_listed_stays_so.Goals as goal

pub returns : goal.returns
returns c = serves_keeps_listed
