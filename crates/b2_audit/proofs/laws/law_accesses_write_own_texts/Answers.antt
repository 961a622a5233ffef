use Rattle.b2_audit.proofs.Accesses.{accesses_write_own_texts}
use Rattle.b2_audit.proofs.laws.law_accesses_write_own_texts.Goals as goal

pub returns : goal.returns
returns c = accesses_write_own_texts
