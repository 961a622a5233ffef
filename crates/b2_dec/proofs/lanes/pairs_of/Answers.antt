use Rattle.std.proofs.Common.{◌+◌, ◌*◌, ◌^◌, arith}
use Rattle.b2_dec.proofs.PartedDigits.{pairs-code, pairs-most}
use Rattle.b2_dec.proofs.lanes.pairs_of.Goals as goal

pub overflow_add-result-2 : goal.overflow_add-result-2
overflow_add-result-2 c = rw (pairs-code (c.args.high * 10 ^ 8 + c.args.low) c.fours_of-fours.result c.fours_of-fours.ensures) (search (arith, pairs-most (c.args.high * 10 ^ 8 + c.args.low)))

pub returns : goal.returns
returns c = pairs-code (c.args.high * 10 ^ 8 + c.args.low) c.fours_of-fours.result c.fours_of-fours.ensures
