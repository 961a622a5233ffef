use Rattle.b2_sched.proofs.WorldMarks.{clean_as_alone}
use Rattle.b2_sched.proofs.laws.law_who_is_clean_is_as_alone.Goals as goal

pub returns : goal.returns
returns c = clean_as_alone
