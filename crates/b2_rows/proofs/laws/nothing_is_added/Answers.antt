use Rattle.b2_rows.proofs.Lengths.{nothing_is_added}
use Rattle.b2_rows.proofs.laws.nothing_is_added.Goals as goal

pub returns : goal.returns
returns c = nothing_is_added
