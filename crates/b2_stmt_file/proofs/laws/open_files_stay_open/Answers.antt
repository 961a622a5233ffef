use Rattle.b2_stmt_file.proofs.OpenFiles.{finishes_keep_open_files, plans_keep_open_files}
use Rattle.b2_stmt_file.proofs.laws.open_files_stay_open.Goals as goal

pub returns : goal.returns
returns c = (plans_keep_open_files, finishes_keep_open_files)
