use Rattle.b2_access.proofs.Entering.{accesses_enter_as_said}
use Rattle.b2_access.proofs.laws.law_accesses_enter_as_said.Goals as goal

pub returns : goal.returns
returns c = accesses_enter_as_said
