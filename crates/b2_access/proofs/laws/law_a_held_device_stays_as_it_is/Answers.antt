use Rattle.b2_access.proofs.Held.{held_stays}
use Rattle.b2_access.proofs.laws.law_a_held_device_stays_as_it_is.Goals as goal

pub returns : goal.returns
returns c = held_stays
