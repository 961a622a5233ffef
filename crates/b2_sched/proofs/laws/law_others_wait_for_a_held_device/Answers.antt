use Rattle.b2_sched.proofs.HeldTurns.{others_wait}
use Rattle.b2_sched.proofs.laws.law_others_wait_for_a_held_device.Goals as goal

pub returns : goal.returns
returns c = others_wait
