use Rattle.std.proofs.Common.{sym, ◌∙◌}
use Rattle.b2_dec.proofs.Ranks.{below_zero}
use Rattle.b2_dec.proofs.Wholes.{floored-positive, floored-negative}
use Rattle.b2_dec.proofs.fractions.downwards.Goals as goal

pub returns-then-is_negative : goal.returns-then-is_negative
returns-then-is_negative c =
    let here = sym c.is_negative.ensures.value ∙ c.if-is_negative.true in
    c.from_zero.ensures ∙ sym (floored-negative c.args.a here (below_zero c.args.a c.is_negative.ensures.spelling here))

pub returns-else-is_negative : goal.returns-else-is_negative
returns-else-is_negative c = c.towards_zero.ensures ∙ sym (floored-positive c.args.a (sym c.is_negative.ensures.value ∙ c.if-is_negative.false))
