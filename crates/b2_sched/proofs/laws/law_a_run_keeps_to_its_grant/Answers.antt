use Rattle.b2_sched.proofs.Granted.{runs_keep_to_their_grant}
use Rattle.b2_sched.proofs.laws.law_a_run_keeps_to_its_grant.Goals as goal

pub returns : goal.returns
returns c = runs_keep_to_their_grant
