use Rattle.b2_dec.proofs.PackedWords.{size-is}
use Rattle.b2_dec.proofs.packing.exponent_digits.Goals as goal

pub returns : goal.returns
returns c x h e = size-is x c.args.head h e
