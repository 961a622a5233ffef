use Rattle.b2_sched.proofs.Lasting.{counts_turns}
use Rattle.b2_sched.proofs.laws.law_a_round_counts_those_present.Goals as goal

pub returns : goal.returns
returns c = counts_turns
