use Rattle.b2_text.proofs.FoundOnTrees.{functions_found}
use Rattle.b2_text.proofs.laws.functions_are_found.Goals as goal

pub returns : goal.returns
returns c = functions_found
