use Rattle.b2_sched.proofs.MarkedTurns.{turns_mark}
use Rattle.b2_sched.proofs.laws.law_a_watched_turn_marks_its_steps.Goals as goal

pub returns : goal.returns
returns c = turns_mark
