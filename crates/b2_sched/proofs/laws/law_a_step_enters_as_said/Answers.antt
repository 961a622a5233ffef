use Rattle.b2_sched.proofs.EnteredFamilies.{basic_enters_as_said}
use Rattle.b2_sched.proofs.EnteredSteps.{step_goes}
use Rattle.b2_sched.specs.Choice.{basic}
use Rattle.b2_sched.specs.Lawful.{basic_is_lawful}
use Rattle.b2_sched.proofs.laws.law_a_step_enters_as_said.Goals as goal

pub returns : goal.returns
returns c = λ devices me s none ready line w. (let g = step_goes (basic devices) (basic_is_lawful devices) (basic_enters_as_said devices) me s ready none line w in (g.stands, g.frames))
