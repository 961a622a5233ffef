use Rattle.b2_sched.proofs.OwnObjects.{change_their_own}
use Rattle.b2_sched.proofs.laws.law_a_turn_changes_its_own.Goals as goal

pub returns : goal.returns
returns c = change_their_own
