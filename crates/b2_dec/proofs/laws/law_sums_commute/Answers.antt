use Rattle.b2_dec.proofs.Exact.{sum-comm}
use Rattle.b2_dec.proofs.laws.law_sums_commute.Goals as goal

pub returns : goal.returns
returns c mode a b = sum-comm mode a b
