use Rattle.b2_pack.proofs.Returning.{numbers-back}
use Rattle.b2_pack.proofs.laws.law_rows_side_by_side_keep_numbers.Goals as goal

pub returns : goal.returns
returns c = numbers-back
