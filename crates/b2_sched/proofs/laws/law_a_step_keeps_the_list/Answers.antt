use Rattle.b2_sched.proofs.HeldFamilies.{basic_keeps_the_list}
use Rattle.b2_sched.proofs.HeldList.{list_after}
use Rattle.b2_sched.specs.Choice.{basic}
use Rattle.b2_sched.proofs.laws.law_a_step_keeps_the_list.Goals as goal

pub returns : goal.returns
returns c = λ devices me s. list_after (basic devices) (basic_keeps_the_list devices) me s
