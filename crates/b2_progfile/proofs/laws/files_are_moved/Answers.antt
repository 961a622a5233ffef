use Rattle.b2_progfile.proofs.MovedFiles.{files-moved, nothing-else, order-kept}
use Rattle.b2_progfile.proofs.laws.files_are_moved.Goals as goal

pub returns : goal.returns
returns c = record { each = files-moved; others = nothing-else; order = order-kept }
