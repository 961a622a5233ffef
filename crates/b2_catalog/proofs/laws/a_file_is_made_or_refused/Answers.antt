use Rattle.b2_catalog.proofs.FileMade.{made-is, refused-is}
use Rattle.b2_catalog.proofs.laws.a_file_is_made_or_refused.Goals as goal

pub returns : goal.returns
returns c = record { made = made-is; refused = refused-is }
