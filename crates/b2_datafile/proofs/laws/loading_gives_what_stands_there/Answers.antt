use Rattle.b2_datafile.proofs.FromFunctions.{code-loaded, none-loaded, some-loaded}
use Rattle.b2_datafile.proofs.laws.loading_gives_what_stands_there.Goals as goal

pub returns : goal.returns
returns c = record { none = none-loaded; some = some-loaded; code = code-loaded }
