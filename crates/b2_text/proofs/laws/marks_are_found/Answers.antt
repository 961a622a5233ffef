use Rattle.b2_text.proofs.FoundOnTrees.{marks_found}
use Rattle.b2_text.proofs.laws.marks_are_found.Goals as goal

pub returns : goal.returns
returns c = marks_found
