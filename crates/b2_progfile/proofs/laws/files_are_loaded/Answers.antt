use Rattle.b2_progfile.proofs.ProgramReadBack.{files-loaded, files-refused}
use Rattle.b2_progfile.proofs.laws.files_are_loaded.Goals as goal

pub returns : goal.returns
returns c = record { loaded = files-loaded; refused = files-refused }
