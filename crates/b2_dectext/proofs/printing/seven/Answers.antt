use Rattle.std.proofs.Common.{rules}
use Rattle.b2_dectext.specs.Digits.{digit_bytes}
use Rattle.b2_dectext.proofs.printing.seven.Goals as goal

pub returns : goal.returns
unfolding digit_bytes
returns c = search rules
