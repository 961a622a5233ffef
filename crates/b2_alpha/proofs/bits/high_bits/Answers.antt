use Rattle.std.proofs.Common.{◌-◌, ◌/◌, ◌^◌, sym, ap, ◌∙◌, arith}
use Rattle.b2_alpha.proofs.Turning.{first_bits_of}
use Rattle.b2_alpha.proofs.bits.high_bits.Goals as goal

pub returns-in-len1-up-clause-value : goal.returns-in-len1-up-clause-value
returns-in-len1-up-clause-value c =
    ap (λ b. b / 2 ^ (8 - c.args.left)) c.from.ensures
    ∙ sym (first_bits_of c.args.left c.args.bytes.now c.requires c.in-len1-up.len_at_least (λ k. let fits = c.type_inv.bytes k in omega arith))
