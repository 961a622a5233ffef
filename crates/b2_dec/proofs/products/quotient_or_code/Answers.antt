use Rattle.std.proofs.Common.{sym, ◌∙◌}
use Rattle.b2_dec.proofs.Factors.{quotient-is, quotient-none}
use Rattle.b2_dec.proofs.products.quotient_or_code.Goals as goal

pub returns-then-x-eq0-2 : goal.returns-then-x-eq0-2
returns-then-x-eq0-2 c =
    rw (c.number.ensures, c.zero.ensures) (sym (quotient-none c.args.m c.args.a c.args.b (sym c.coefficient-x.ensures.value ∙ c.if-x-eq0-2.true)
    (λ e. c.if-y-eq0.false (c.coefficient-y.ensures.value ∙ e))))

pub returns : goal.returns
returns c =
    quotient-is c.args.m c.args.a c.args.b _ _ _ _ _ _ _ c.coefficient-x.ensures.value c.coefficient-y.ensures.value c.place.ensures.value c.place-2.ensures.value
    c.is_negative.ensures.value c.is_negative-2.ensures.value (λ e. c.if-y-eq0.false (c.coefficient-y.ensures.value ∙ e)) c.place-2.ensures.highest c.round_part.ensures
