use Rattle.b2_progfile.proofs.ProgramReadBack.{programs-told}
use Rattle.b2_progfile.proofs.laws.programs_are_told.Goals as goal

pub returns : goal.returns
returns c = programs-told
