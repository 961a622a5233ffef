use Rattle.b2_sched.proofs.Lasting.{same_present}
use Rattle.b2_sched.proofs.laws.law_the_same_are_present.Goals as goal

pub returns : goal.returns
returns c = same_present
