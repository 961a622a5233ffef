use Rattle.b2_audit.proofs.Loans.{loans_are_marked}
use Rattle.b2_audit.proofs.laws.law_loans_are_marked.Goals as goal

pub returns : goal.returns
returns c = loans_are_marked
