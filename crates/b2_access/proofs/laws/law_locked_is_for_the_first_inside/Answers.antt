use Rattle.b2_access.proofs.Causes.{locks_for_the_first}
use Rattle.b2_access.proofs.laws.law_locked_is_for_the_first_inside.Goals as goal

pub returns : goal.returns
returns c = locks_for_the_first
