use Rattle.std.proofs.Common.{◌%◌, ◌^◌, sym, ap, ◌∙◌}
use Rattle.b2_alpha.proofs.Turning.{last_bits_of, unit_is}
use Rattle.b2_alpha.proofs.bits.low_bits.Goals as goal

pub returns-in-len1-up-clause-value : goal.returns-in-len1-up-clause-value
returns-in-len1-up-clause-value c =
    ap (λ unit. c.from.result % unit) (unit_is c.args.right c.requires)
    ∙ ap (λ b. b % 2 ^ c.args.right) c.from.ensures
    ∙ sym (last_bits_of c.args.right c.args.bytes.now c.requires c.in-len1-up.len_at_least)
