use Rattle.b2_access.proofs.Causes.{refuses_with_the_code}
use Rattle.b2_access.proofs.laws.law_a_code_is_met.Goals as goal

pub returns : goal.returns
returns c = refuses_with_the_code
