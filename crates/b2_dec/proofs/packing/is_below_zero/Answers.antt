use Rattle.b2_dec.proofs.PackedWords.{sign-is}
use Rattle.b2_dec.proofs.packing.is_below_zero.Goals as goal

pub returns : goal.returns
returns c x h e = sign-is x c.args.head h e
