use Rattle.b2_mvp.proofs.RunLaws.{files_outlast_runs}
use Rattle.b2_mvp.proofs.laws.law_files_outlast_runs.Goals as goal

pub returns : goal.returns
returns c = files_outlast_runs
