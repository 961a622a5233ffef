use Rattle.b2_datafile.proofs.Saved.{front-unique}
use Rattle.b2_datafile.proofs.laws.one_list_of_records_fills.Goals as goal

pub returns : goal.returns
returns c = front-unique
