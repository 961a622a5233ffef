use Rattle.b2_access.proofs.Loans.{loans_end_well}
use Rattle.b2_access.proofs.laws.law_a_loan_ends_well.Goals as goal

pub returns : goal.returns
returns g c = loans_end_well g.S.Shared.store g.S.Shared.lending g.met.S.Shared.lends_globals
