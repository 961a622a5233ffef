use Rattle.b2_sched.proofs.GroupRuns.{group_relies}
use Rattle.b2_sched.proofs.laws.law_a_clean_group_relies_on_its_own.Goals as goal

pub returns : goal.returns
returns c = group_relies
