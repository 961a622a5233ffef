use Rattle.b2_sched.proofs.BootDevices.{can_start}
use Rattle.b2_sched.proofs.laws.law_a_boot_can_start.Goals as goal

pub returns : goal.returns
returns c = can_start
