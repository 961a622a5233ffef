use Rattle.b2_sched.proofs.Lasting.{leaves_others}
use Rattle.b2_sched.proofs.laws.law_a_turn_leaves_the_others.Goals as goal

pub returns : goal.returns
returns c = leaves_others
