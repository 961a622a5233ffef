use Rattle.b2_pack.proofs.Returning.{values-back}
use Rattle.b2_pack.proofs.laws.law_unpacking_gives_what_was_packed.Goals as goal

pub returns : goal.returns
returns c ps vs old new none packed exact = values-back ps vs _ new none packed.long packed.each exact
