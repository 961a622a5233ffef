use Rattle.std.proofs.Common.{ap, ◌∙◌, ◌*◌, ◌^◌}
use Rattle.b2_dec.proofs.Nearby.{same_sign, other_sign, near-same, near-other, near-turned}
use Rattle.b2_dec.proofs.sums.near_sum.Goals as goal

pub returns-then-is_negative : goal.returns-then-is_negative
returns-then-is_negative c =
    near-same c.args.mode c.args.high c.args.low c.args.apart _ _ _ _ _ c.requires.apart
    (same_sign _ _ _ _ c.if-is_negative.true c.is_negative.ensures.value c.is_negative-2.ensures.value)
    (c.lowered-x.ensures.value ∙ ap (λ t. t * 10 ^ c.args.apart) c.coefficient.ensures.value)
    c.coefficient-y.ensures.value c.place-at.ensures.value c.is_negative-then-is_negative.ensures.value c.round_short.ensures

pub returns-then-x-y : goal.returns-then-x-y
returns-then-x-y c =
    near-other c.args.mode c.args.high c.args.low c.args.apart _ _ _ _ _ c.requires.apart
    (other_sign _ _ _ _ c.if-is_negative.false c.is_negative.ensures.value c.is_negative-2.ensures.value)
    (c.lowered-x.ensures.value ∙ ap (λ t. t * 10 ^ c.args.apart) c.coefficient.ensures.value)
    c.coefficient-y.ensures.value c.place-at.ensures.value c.is_negative-then-x-y.ensures.value c.if-x-y.true c.round_short-then-x-y.ensures

pub returns-else-x-y : goal.returns-else-x-y
returns-else-x-y c =
    near-turned c.args.mode c.args.high c.args.low c.args.apart _ _ _ _ _ c.requires.apart
    (other_sign _ _ _ _ c.if-is_negative.false c.is_negative.ensures.value c.is_negative-2.ensures.value)
    (c.lowered-x.ensures.value ∙ ap (λ t. t * 10 ^ c.args.apart) c.coefficient.ensures.value)
    c.coefficient-y.ensures.value c.place-at.ensures.value c.is_negative-else-x-y.ensures.value c.if-x-y.false c.round_short-else-x-y.ensures
