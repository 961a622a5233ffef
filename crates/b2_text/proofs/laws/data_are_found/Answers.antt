use Rattle.b2_text.proofs.FoundOnTrees.{data_found}
use Rattle.b2_text.proofs.laws.data_are_found.Goals as goal

pub returns : goal.returns
returns c = data_found
