use Rattle.std.proofs.Common.{ap, ◌∙◌, ◌≡◌, ◌+◌, ◌-◌, ◌/◌, ◌^◌, arith}
use Rattle.b2_dec.proofs.Nearby.{same_sign, other_sign, far-same-is, far-other-is}
use Rattle.b2_dec.proofs.sums.far_sum.Goals as goal

pub returns-then-is_negative : goal.returns-then-is_negative
returns-then-is_negative c =
    let places : c.args.high.place ≡ c.args.low.place + (c.args.apart - 2 + 2) = omega arith in
    far-same-is c.args.mode c.args.high c.args.low (c.args.apart - 2) _ _ _ _ _ places
    (same_sign _ _ _ _ c.if-is_negative.true c.is_negative.ensures.value c.is_negative-2.ensures.value)
    c.coefficient-x.ensures.value (c.units_above.ensures.value ∙ ap (λ t. t / 10 ^ (c.args.apart - 2)) c.coefficient-y.ensures.value)
    c.place-at.ensures.value c.is_negative-then-is_negative.ensures.value c.round_part.ensures

pub returns-else-is_negative : goal.returns-else-is_negative
returns-else-is_negative c =
    let places : c.args.high.place ≡ c.args.low.place + (c.args.apart - 2 + 2) = omega arith in
    far-other-is c.args.mode c.args.high c.args.low (c.args.apart - 2) _ _ _ _ _ places
    (other_sign _ _ _ _ c.if-is_negative.false c.is_negative.ensures.value c.is_negative-2.ensures.value)
    c.coefficient-x.ensures.value (c.units_above-else-is_negative.ensures.value ∙ ap (λ t. (t - 1) / 10 ^ (c.args.apart - 2)) c.coefficient-y.ensures.value)
    c.place-at.ensures.value c.is_negative-else-is_negative.ensures.value (omega arith) (omega arith)
    c.round_part-else-is_negative.ensures
