use Rattle.b2_dec.proofs.Edges.{rnd-limits}
use Rattle.b2_dec.proofs.laws.law_has_limits.Goals as goal

pub returns : goal.returns
returns c mode neg n d some = rnd-limits mode neg n d some
