use Rattle.b2_pack.proofs.Returning.{value-back}
use Rattle.b2_pack.proofs.laws.law_fields_keep_values.Goals as goal

pub returns : goal.returns
returns c = value-back
