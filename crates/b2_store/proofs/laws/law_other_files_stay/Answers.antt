use Rattle.b2_store.proofs.Others.{other-files, other-records}
use Rattle.b2_store.proofs.laws.law_other_files_stay.Goals as goal

pub returns : goal.returns
returns c = record { files = other-files; records = other-records }
