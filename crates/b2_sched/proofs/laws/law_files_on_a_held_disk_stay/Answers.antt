use Rattle.b2_sched.proofs.FilesLeft.{held_files_stay}
use Rattle.b2_sched.proofs.laws.law_files_on_a_held_disk_stay.Goals as goal

pub returns : goal.returns
returns c = held_files_stay
