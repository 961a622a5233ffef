use Rattle.b2_progfile.proofs.FromFunctions.{text-fails, text-loads}
use Rattle.b2_progfile.proofs.laws.a_program_is_loaded_or_refused.Goals as goal

pub returns : goal.returns
returns c = record { loaded = text-loads; refused = text-fails }
