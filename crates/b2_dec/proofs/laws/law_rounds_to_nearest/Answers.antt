use Rattle.b2_dec.proofs.Grid.{rnd-nearest}
use Rattle.b2_dec.proofs.laws.law_rounds_to_nearest.Goals as goal

pub returns : goal.returns
returns c neg n d x some e = rnd-nearest neg n d x some e
