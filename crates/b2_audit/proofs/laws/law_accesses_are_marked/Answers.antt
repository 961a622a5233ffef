use Rattle.b2_audit.proofs.Accesses.{accesses_are_marked}
use Rattle.b2_audit.proofs.laws.law_accesses_are_marked.Goals as goal

pub returns : goal.returns
returns c = accesses_are_marked
