use Rattle.b2_mvp.proofs.RunLaws.{open_files_of_runs_are_listed}
use Rattle.b2_mvp.proofs.laws.law_open_files_of_runs_are_listed.Goals as goal

pub returns : goal.returns
returns c = open_files_of_runs_are_listed
