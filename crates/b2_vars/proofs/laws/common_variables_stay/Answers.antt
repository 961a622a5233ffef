use Rattle.b2_vars.proofs.Soundness.{get-common}
use Rattle.b2_vars.proofs.laws.common_variables_stay.Goals as goal

pub returns : goal.returns
returns c = get-common
