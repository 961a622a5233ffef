use Rattle.b2_boot.proofs.LogBounds.{alone_grants_no_more}
use Rattle.b2_boot.proofs.laws.law_a_group_alone_is_granted_no_more.Goals as goal

pub returns : goal.returns
returns c = alone_grants_no_more
