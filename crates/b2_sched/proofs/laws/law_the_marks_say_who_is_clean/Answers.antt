use Rattle.b2_sched.proofs.WorldMarks.{who_is_clean}
use Rattle.b2_sched.proofs.laws.law_the_marks_say_who_is_clean.Goals as goal

pub returns : goal.returns
returns c = who_is_clean
