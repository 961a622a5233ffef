use Rattle.b2_progfile.proofs.FromFunctions.{program-refused, program-saves}
use Rattle.b2_progfile.proofs.laws.a_program_is_saved_or_refused.Goals as goal

pub returns : goal.returns
returns c = record { saved = program-saves; refused = program-refused }
