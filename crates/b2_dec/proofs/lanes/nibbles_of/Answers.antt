use Rattle.std.proofs.Common.{◌+◌, ◌*◌, ◌^◌, arith}
use Rattle.b2_dec.proofs.PartedDigits.{nibbles-code, nibbles-most}
use Rattle.b2_dec.proofs.lanes.nibbles_of.Goals as goal

pub overflow_add-result-2 : goal.overflow_add-result-2
overflow_add-result-2 c = rw (nibbles-code (c.args.high * 10 ^ 8 + c.args.low) c.pairs_of-pairs.result c.pairs_of-pairs.ensures) (search (arith, nibbles-most (c.args.high * 10 ^ 8 + c.args.low)))

pub returns : goal.returns
returns c = nibbles-code (c.args.high * 10 ^ 8 + c.args.low) c.pairs_of-pairs.result c.pairs_of-pairs.ensures
