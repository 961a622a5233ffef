use Rattle.b2_access.proofs.Locality.{stopped_unchanged}
use Rattle.b2_access.proofs.laws.law_what_stops_an_access_changes_nothing.Goals as goal

pub returns : goal.returns
returns c = stopped_unchanged
