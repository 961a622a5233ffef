use Rattle.b2_sched.proofs.NumbersOfWorlds.{worlds_hold}
use Rattle.b2_sched.proofs.laws.law_worlds_hold_numbers.Goals as goal

pub returns : goal.returns
returns c = worlds_hold
