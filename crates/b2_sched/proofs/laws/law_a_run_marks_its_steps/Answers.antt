use Rattle.b2_sched.proofs.WorldMarks.{runs_mark}
use Rattle.b2_sched.proofs.laws.law_a_run_marks_its_steps.Goals as goal

pub returns : goal.returns
returns c = runs_mark
