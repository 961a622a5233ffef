use Rattle.b2_dec.proofs.Grid.{rnd-largest}
use Rattle.b2_dec.proofs.laws.law_cuts_down.Goals as goal

pub returns : goal.returns
returns c neg n d x some e = rnd-largest neg n d x some e
