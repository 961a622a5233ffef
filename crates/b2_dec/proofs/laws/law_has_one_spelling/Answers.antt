use Rattle.b2_dec.proofs.Spelled.{one-spelling}
use Rattle.b2_dec.proofs.laws.law_has_one_spelling.Goals as goal

pub returns : goal.returns
returns c a b h k e = one-spelling a b h k e
