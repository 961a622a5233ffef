use Rattle.b2_print.proofs.SpellingLemmas.{pieces_of-spelled}
use Rattle.b2_print.proofs.laws.law_pieces_are_the_image.Goals as goal

pub returns : goal.returns
returns c = pieces_of-spelled
