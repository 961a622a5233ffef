use Rattle.b2_access.proofs.Held.{other_holders_stay}
use Rattle.b2_access.proofs.laws.law_other_holders_stay_as_they_are.Goals as goal

pub returns : goal.returns
returns c = other_holders_stay
