use Rattle.b2_datafile.proofs.Opened.{new-refused, opens-new}
use Rattle.b2_datafile.proofs.laws.a_new_file_is_empty.Goals as goal

pub returns : goal.returns
returns c = record { made = opens-new; refused = new-refused }
