use Rattle.b2_datafile.proofs.FromFunctions.{place-goes, place-stays}
use Rattle.b2_datafile.proofs.laws.places_go_over_records.Goals as goal

pub returns : goal.returns
returns c = record { place = place-goes; code = place-stays }
