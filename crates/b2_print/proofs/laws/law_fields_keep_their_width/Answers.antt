use Rattle.b2_print.proofs.PlaceLemmas.{length-filled}
use Rattle.b2_print.proofs.laws.law_fields_keep_their_width.Goals as goal

pub returns : goal.returns
returns c = length-filled
