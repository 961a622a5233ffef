use Rattle.b2_sched.proofs.Lasting.{by_actions}
use Rattle.b2_sched.proofs.laws.law_a_run_is_its_actions.Goals as goal

pub returns : goal.returns
returns c = by_actions
