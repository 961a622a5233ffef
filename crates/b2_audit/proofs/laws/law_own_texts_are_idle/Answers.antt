use Rattle.b2_audit.proofs.OwnTexts.{own_texts_are_idle}
use Rattle.b2_audit.proofs.laws.law_own_texts_are_idle.Goals as goal

pub returns : goal.returns
returns c = own_texts_are_idle
