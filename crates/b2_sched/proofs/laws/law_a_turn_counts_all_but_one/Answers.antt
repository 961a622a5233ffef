use Rattle.b2_sched.proofs.Granted.{turns_count_all_but_one}
use Rattle.b2_sched.proofs.laws.law_a_turn_counts_all_but_one.Goals as goal

pub returns : goal.returns
returns c = turns_count_all_but_one
