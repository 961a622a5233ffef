use Rattle.std.proofs.Common.{◌+◌, ◌*◌, ◌^◌, length, ap, ◌∙◌}
use Rattle.b2_alpha.specs.Places.{number_in_base, digits_in_base}
use Rattle.b2_alpha.proofs.Turning.{left_turned}
use Rattle.b2_alpha.proofs.bits.turn_left.Goals as goal

pub returns : goal.returns
returns c =
    c.shift_left.ensures
    ∙ ap (λ top. digits_in_base 256 (length c.args.to.now) (number_in_base 256 c.args.to.now * 2 ^ c.args.left + top)) c.high_bits-leaving.ensures.value
    ∙ left_turned c.args.left c.requires c.args.to.now
