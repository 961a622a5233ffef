use Rattle.b2_sched.proofs.BootDevices.{starts_alone}
use Rattle.b2_sched.proofs.laws.law_a_group_can_start_alone.Goals as goal

pub returns : goal.returns
returns c = starts_alone
