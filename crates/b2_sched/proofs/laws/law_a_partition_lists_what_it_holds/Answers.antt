use Rattle.b2_sched.proofs.HeldFamilies.{basic_keeps_the_list}
use Rattle.b2_sched.proofs.HeldWorlds.{lists_are_what_is_held}
use Rattle.b2_sched.proofs.laws.law_a_partition_lists_what_it_holds.Goals as goal

pub returns : goal.returns
returns c = lists_are_what_is_held basic_keeps_the_list
