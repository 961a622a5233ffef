use Rattle.b2_sched.proofs.EnteredFamilies.{basic_enters_as_said}
use Rattle.b2_sched.proofs.InsideWorlds.{are_inside_as_entered}
use Rattle.b2_sched.proofs.laws.law_who_stands_inside.Goals as goal

pub returns : goal.returns
returns c = are_inside_as_entered basic_enters_as_said
