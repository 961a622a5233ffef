use Rattle.b2_sched.proofs.OpenFiles.{open_files_are_listed}
use Rattle.b2_sched.proofs.laws.law_open_files_are_listed.Goals as goal

pub returns : goal.returns
returns c = open_files_are_listed
