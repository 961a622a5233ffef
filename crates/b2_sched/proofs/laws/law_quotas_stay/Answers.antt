use Rattle.b2_sched.proofs.Lasting.{quotas_stay}
use Rattle.b2_sched.proofs.laws.law_quotas_stay.Goals as goal

pub returns : goal.returns
returns c = quotas_stay
