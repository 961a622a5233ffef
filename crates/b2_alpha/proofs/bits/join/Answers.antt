use Rattle.std.proofs.Common.{arith}
use Rattle.b2_alpha.proofs.BitTables.{masked, masked_bit, byte_by_bits, masked-lt}
use Rattle.b2_alpha.proofs.bits.join.Goals as goal

pub returns : goal.returns
returns c =
    rw (c.mask.ensures, c.mask-2.ensures, c.mask-3.ensures, c.mask-4.ensures)
    (byte_by_bits c.args.digit c.args.r c.args.o (masked c.args.digit c.args.r c.args.o)
    (masked-lt c.args.digit c.args.r c.args.o (omega arith) (omega arith))
    (masked_bit c.args.digit c.args.r c.args.o (omega arith) (omega arith)))
