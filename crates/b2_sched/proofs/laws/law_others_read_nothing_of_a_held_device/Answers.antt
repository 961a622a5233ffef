use Rattle.b2_sched.proofs.HeldTurns.{others_read_nothing}
use Rattle.b2_sched.proofs.laws.law_others_read_nothing_of_a_held_device.Goals as goal

pub returns : goal.returns
returns c = others_read_nothing
