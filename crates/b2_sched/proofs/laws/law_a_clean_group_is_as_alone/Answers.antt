use Rattle.b2_sched.proofs.AloneBoots.{as_alone}
use Rattle.b2_sched.proofs.laws.law_a_clean_group_is_as_alone.Goals as goal

pub returns : goal.returns
returns c = as_alone
