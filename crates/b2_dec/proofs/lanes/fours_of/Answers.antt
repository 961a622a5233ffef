use Rattle.std.proofs.Common.{arith}
use Rattle.b2_dec.proofs.PartedDigits.{fours}
use Rattle.b2_dec.proofs.lanes.fours_of.Goals as goal

pub returns : goal.returns
returns c = omega (arith, fours c.args.high c.args.low c.requires.high c.requires.low)
