use Rattle.b2_progfile.proofs.MovedFiles.{programs-moved}
use Rattle.b2_progfile.proofs.laws.programs_are_moved.Goals as goal

pub returns : goal.returns
returns c = programs-moved
