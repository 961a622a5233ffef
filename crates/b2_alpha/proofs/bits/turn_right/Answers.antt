use Rattle.std.proofs.Common.{◌+◌, ◌*◌, ◌/◌, ◌^◌, length, ap, ◌∙◌}
use Rattle.b2_alpha.specs.Places.{number_in_base, digits_in_base}
use Rattle.b2_alpha.proofs.Turning.{right_turned}
use Rattle.b2_alpha.proofs.bits.turn_right.Goals as goal

pub returns : goal.returns
returns c =
    c.shift_right.ensures
    ∙ ap (λ top. digits_in_base 256 (length c.args.to.now) ((top * 256 ^ length c.args.to.now + number_in_base 256 c.args.to.now) / 2 ^ c.args.right)) c.low_bits-leaving.ensures.value
    ∙ right_turned c.args.right c.requires c.args.to.now
