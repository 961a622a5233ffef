use Rattle.b2_dec.proofs.Spelled.{difference-itself}
use Rattle.b2_dec.proofs.laws.law_nothing_is_left.Goals as goal

pub returns : goal.returns
returns c mode a = difference-itself mode a
