use Rattle.b2_access.proofs.Causes.{waits_for_the_first}
use Rattle.b2_access.proofs.laws.law_wait_is_for_the_first.Goals as goal

pub returns : goal.returns
returns c = waits_for_the_first
