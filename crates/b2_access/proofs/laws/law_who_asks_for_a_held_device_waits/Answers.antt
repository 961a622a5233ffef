use Rattle.b2_access.proofs.Held.{who_asks_waits}
use Rattle.b2_access.proofs.laws.law_who_asks_for_a_held_device_waits.Goals as goal

pub returns : goal.returns
returns c = who_asks_waits
