use Rattle.b2_pack.proofs.RoundTrips.{row-back}
use Rattle.b2_pack.proofs.laws.law_rows_keep_numbers.Goals as goal

pub returns : goal.returns
returns c = row-back
