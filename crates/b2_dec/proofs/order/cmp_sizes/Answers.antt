use Rattle.std.proofs.Common.{ap₂, sym, ◌∙◌, ◌≡◌, ◌≤◌, ◌⊎◌, ⊎_elim, inl, inr, nat_cmp}
use Rattle.std.specs.Ordering.{ordering_then}
use Rattle.b2_dec.proofs.Ranks.{cmp-zero, cmp-places, thirteen}
use Rattle.b2_dec.proofs.order.cmp_sizes.Goals as goal

pub returns-then-x-eq0 : goal.returns-then-x-eq0
returns-then-x-eq0 c =
    let none : (c.args.a.coef ≡ 0) ⊎ (c.args.b.coef ≡ 0) = ⊎_elim (λ e. inl (sym c.coefficient-x.ensures.value ∙ e))
    (λ e. inr (sym c.coefficient-y.ensures.value ∙ e.1)) c.then-x-eq0.either in
    c.cmp.ensures ∙ ap₂ nat_cmp c.coefficient-x.ensures.value c.coefficient-y.ensures.value ∙ cmp-zero c.args.a c.args.b none

pub returns : goal.returns
returns c =
    let some : 1000000000000 ≤ c.args.a.coef =
    thirteen c.args.a c.coefficient-x.ensures.spelling (λ e. c.if-x-eq0.false (c.coefficient-x.ensures.value ∙ e)) in
    let some' : 1000000000000 ≤ c.args.b.coef =
    thirteen c.args.b c.coefficient-y.ensures.spelling (λ e. c.if-y-eq0.false (c.coefficient-y.ensures.value ∙ e)) in
    c.then.ensures
    ∙ ap₂ ordering_then (c.cmp-2.ensures ∙ ap₂ nat_cmp c.place.ensures.value c.place-2.ensures.value)
    (c.cmp-3.ensures ∙ ap₂ nat_cmp c.coefficient-x.ensures.value c.coefficient-y.ensures.value)
    ∙ cmp-places c.args.a c.args.b some c.coefficient-x.ensures.spelling.digits some' c.coefficient-y.ensures.spelling.digits
