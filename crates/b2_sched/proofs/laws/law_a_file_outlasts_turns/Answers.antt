use Rattle.b2_sched.proofs.FilesLeft.{files_outlast_turns}
use Rattle.b2_sched.proofs.laws.law_a_file_outlasts_turns.Goals as goal

pub returns : goal.returns
returns c = files_outlast_turns
