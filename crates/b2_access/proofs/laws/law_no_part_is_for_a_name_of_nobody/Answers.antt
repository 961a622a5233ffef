use Rattle.b2_access.proofs.Causes.{misses_nobody_else}
use Rattle.b2_access.proofs.laws.law_no_part_is_for_a_name_of_nobody.Goals as goal

pub returns : goal.returns
returns c = misses_nobody_else
