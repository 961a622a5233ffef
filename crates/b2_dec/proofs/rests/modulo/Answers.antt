use Rattle.std.proofs.Common.{sym, ◌∙◌, ◌≡◌, ◌≤◌, ◌<◌, ◌+◌, ◌-◌, ◌⊎◌, ⊎_elim, inl, inr, not, arith}
use Rattle.b2_dec.specs.Number.{size}
use Rattle.b2_dec.proofs.Ranks.{thirteen, something, less_place}
use Rattle.b2_dec.proofs.Nearby.{same_sign, other_sign, not-back}
use Rattle.b2_dec.proofs.Rest.{modulo_of-zero, modulo_of-small, modulo_of-sum, rest-kept, rest-turned}
use Rattle.b2_dec.proofs.rests.modulo.Goals as goal

pub returns-then-x-eq0 : goal.returns-then-x-eq0
returns-then-x-eq0 c =
    rw c.zero.ensures (sym (modulo_of-zero c.args.m c.args.a c.args.b (λ e. c.if-y-eq0.false (c.coefficient-y.ensures.value ∙ e))
    (sym c.coefficient-x.ensures.value ∙ c.if-x-eq0.true)))

pub returns-then-same : goal.returns-then-same
returns-then-same c =
    let some : c.args.b.coef ≡ 0 → ⊥ = λ e. c.if-y-eq0.false (c.coefficient-y.ensures.value ∙ e) in
    let digits : 1000000000000 ≤ c.args.b.coef = thirteen c.args.b c.coefficient-y.ensures.spelling some in
    sym (modulo_of-small c.args.m c.args.a c.args.b c.coefficient-x.ensures.spelling some
    (sym (same_sign _ _ _ _ c.if-same.true c.is_negative.ensures.value c.is_negative-2.ensures.value))
    (less_place c.args.a c.args.b c.coefficient-x.ensures.spelling.digits digits (omega arith)))

pub returns-else-same : goal.returns-else-same
returns-else-same c =
    let some : c.args.b.coef ≡ 0 → ⊥ = λ e. c.if-y-eq0.false (c.coefficient-y.ensures.value ∙ e) in
    let digits : 1000000000000 ≤ c.args.b.coef = thirteen c.args.b c.coefficient-y.ensures.spelling some in
    let here : 0 < size c.args.a = something c.args.a (omega arith) in
    c.add.ensures
    ∙ sym (modulo_of-sum c.args.m c.args.a c.args.b some
    (not-back _ _ (other_sign _ _ _ _ c.if-same.false c.is_negative.ensures.value c.is_negative-2.ensures.value)) here
    (less_place c.args.a c.args.b c.coefficient-x.ensures.spelling.digits digits (omega arith)))

pub returns-then-same-2 : goal.returns-then-same-2
returns-then-same-2 c =
    let some : c.args.b.coef ≡ 0 → ⊥ = λ e. c.if-y-eq0.false (c.coefficient-y.ensures.value ∙ e) in
    let here : 0 < size c.args.a = something c.args.a (omega arith) in
    let apart : c.args.a.place ≡ c.args.b.place + (c.args.a.place - c.args.b.place) = omega arith in
    let rest = rw (c.coefficient-x.ensures.value, c.coefficient-y.ensures.value, c.place-3.ensures.value, c.place-4.ensures.value) at c.rest_of_raised-rest.ensures.value in
    let signs : (c.args.a.neg ≡ c.args.b.neg) ⊎ ((c.args.a.neg ≡ not c.args.b.neg) × (c.rest_of_raised-rest.result ≡ 0)) =
    ⊎_elim (λ e. inl (sym (same_sign _ _ _ _ e c.is_negative.ensures.value c.is_negative-2.ensures.value)))
    (λ e. inr (not-back _ _ (other_sign _ _ _ _ e.0 c.is_negative.ensures.value c.is_negative-2.ensures.value), e.1)) c.then-same-2.either in
    c.result.ensures
    ∙ rest-kept c.args.m c.args.a c.args.b (c.args.a.place - c.args.b.place) _ _ _ _ some here apart rest c.place-then-same-2.ensures.value
    c.is_negative-then-same-2.ensures.value signs c.round_short.ensures

pub returns : goal.returns
returns c =
    let some : c.args.b.coef ≡ 0 → ⊥ = λ e. c.if-y-eq0.false (c.coefficient-y.ensures.value ∙ e) in
    let here : 0 < size c.args.a = something c.args.a (omega arith) in
    let apart : c.args.a.place ≡ c.args.b.place + (c.args.a.place - c.args.b.place) = omega arith in
    let rest = rw (c.coefficient-x.ensures.value, c.coefficient-y.ensures.value, c.place-3.ensures.value, c.place-4.ensures.value) at c.rest_of_raised-rest.ensures.value in
    c.result-2.ensures
    ∙ rest-turned c.args.m c.args.a c.args.b (c.args.a.place - c.args.b.place) _ _ _ _ some here apart rest c.place-5.ensures.value c.is_negative-3.ensures.value
    (not-back _ _ (other_sign _ _ _ _ c.if-same-2.false c.is_negative.ensures.value c.is_negative-2.ensures.value)) c.if-rest-eq0.false _
    c.coefficient-y.ensures.value c.round_short-2.ensures
