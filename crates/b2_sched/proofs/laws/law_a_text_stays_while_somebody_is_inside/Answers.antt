use Rattle.b2_sched.proofs.EnteredFamilies.{basic_enters_as_said}
use Rattle.b2_sched.proofs.InsideWorlds.{texts_stay_while_inside}
use Rattle.b2_sched.proofs.laws.law_a_text_stays_while_somebody_is_inside.Goals as goal

pub returns : goal.returns
returns c = texts_stay_while_inside basic_enters_as_said
