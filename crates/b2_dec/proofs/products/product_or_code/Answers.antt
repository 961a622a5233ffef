use Rattle.std.proofs.Common.{sym, ◌∙◌, ⊎_elim, inl, inr, ◌≡◌, ◌≤◌, ◌⊎◌}
use Rattle.b2_dec.proofs.Ranks.{thirteen}
use Rattle.b2_dec.proofs.Factors.{product-is, product-none, product-least, product-most}
use Rattle.b2_dec.proofs.products.product_or_code.Goals as goal

pub returns-then-x-eq0 : goal.returns-then-x-eq0
returns-then-x-eq0 c =
    let none : (c.args.a.coef ≡ 0) ⊎ (c.args.b.coef ≡ 0) = ⊎_elim (λ e. inl (sym c.coefficient-x.ensures.value ∙ e))
    (λ e. inr (sym c.coefficient-y.ensures.value ∙ e.1)) c.then-x-eq0.either in
    rw (c.number.ensures, c.zero.ensures) (sym (product-none c.args.m c.args.a c.args.b none))

pub round_part-requires-clause-digits : goal.round_part-requires-clause-digits
round_part-requires-clause-digits c =
    let first : 1000000000000 ≤ c.coefficient-x.result = rw c.coefficient-x.ensures.value
    (thirteen c.args.a c.coefficient-x.ensures.spelling (λ e. c.if-x-eq0.false (c.coefficient-x.ensures.value ∙ e))) in
    let second : 1000000000000 ≤ c.coefficient-y.result = rw c.coefficient-y.ensures.value
    (thirteen c.args.b c.coefficient-y.ensures.spelling (λ e. c.if-y-eq0.false (c.coefficient-y.ensures.value ∙ e))) in
    rw c.product_part.ensures (product-least _ _ first second)

pub round_part-requires-clause-fits : goal.round_part-requires-clause-fits
round_part-requires-clause-fits c =
    rw c.product_part.ensures (product-most _ _ c.coefficient-x.ensures.digits c.coefficient-y.ensures.digits)

pub returns : goal.returns
returns c =
    product-is c.args.m c.args.a c.args.b _ _ _ _ _ _ _ c.coefficient-x.ensures.value c.coefficient-y.ensures.value c.place.ensures.value c.place-2.ensures.value
    c.is_negative.ensures.value c.is_negative-2.ensures.value
    (λ n d some whole. c.round_part.ensures n d some (rw c.product_part.ensures whole))
