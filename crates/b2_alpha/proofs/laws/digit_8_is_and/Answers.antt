use Rattle.std.proofs.Common.{bit_and, arith}
use Rattle.b2_alpha.specs.Bits.{byte_by}
use Rattle.b2_alpha.proofs.BitTables.{each_pair-same, byte_by-8}
use Rattle.b2_alpha.proofs.laws.digit_8_is_and.Goals as goal

pub returns : goal.returns
returns c =
    each_pair-same (byte_by 8) bit_and byte_by-8 c.args.to.now c.args.from.now (λ k. let fits = c.type_inv.to k in omega arith) (λ k. let fits = c.type_inv.from k in omega arith)
