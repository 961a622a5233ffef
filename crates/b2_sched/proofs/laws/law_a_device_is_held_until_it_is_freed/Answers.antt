use Rattle.b2_sched.proofs.HeldTurns.{held_until_freed}
use Rattle.b2_sched.proofs.laws.law_a_device_is_held_until_it_is_freed.Goals as goal

pub returns : goal.returns
returns c = held_until_freed
