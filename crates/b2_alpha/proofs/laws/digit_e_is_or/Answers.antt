use Rattle.std.proofs.Common.{bit_or, arith}
use Rattle.b2_alpha.specs.Bits.{byte_by}
use Rattle.b2_alpha.proofs.BitTables.{each_pair-same, byte_by-e}
use Rattle.b2_alpha.proofs.laws.digit_e_is_or.Goals as goal

pub returns : goal.returns
returns c =
    each_pair-same (byte_by 14) bit_or byte_by-e c.args.to.now c.args.from.now (λ k. let fits = c.type_inv.to k in omega arith) (λ k. let fits = c.type_inv.from k in omega arith)
