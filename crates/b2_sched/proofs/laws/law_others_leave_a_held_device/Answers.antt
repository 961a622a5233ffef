use Rattle.b2_sched.proofs.HeldTurns.{others_leave_held}
use Rattle.b2_sched.proofs.laws.law_others_leave_a_held_device.Goals as goal

pub returns : goal.returns
returns c = others_leave_held
