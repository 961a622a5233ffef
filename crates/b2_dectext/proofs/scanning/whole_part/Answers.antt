use Rattle.std.proofs.Common.{arith}
use Rattle.b2_dectext.proofs.Lengths.{digits_at_front}
use Rattle.b2_dectext.proofs.scanning.whole_part.Goals as goal

pub returns-clause-digits : goal.returns-clause-digits
returns-clause-digits c = digits_at_front c.args.text.now c.digits_width.result (omega arith)
