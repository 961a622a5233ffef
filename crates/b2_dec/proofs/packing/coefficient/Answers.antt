use Rattle.std.proofs.Common.{◌∙◌}
use Rattle.b2_dec.proofs.PackedWords.{word-coef}
use Rattle.b2_dec.proofs.packing.coefficient.Goals as goal

pub returns : goal.returns
returns c x h e = c.nibbles_value.ensures ∙ word-coef x c.args.word h e
