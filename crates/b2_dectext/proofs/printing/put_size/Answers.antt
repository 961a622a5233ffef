use Rattle.std.proofs.Common.{◌<◌, ◌≤◌, ◌⊎◌, inl, inr, sym, subst, ap, ap₂, arith, ◌∙◌, ◌++◌, ◌-◌}
use Rattle.b2_dectext.specs.Digits.{digit_bytes}
use Rattle.b2_dectext.specs.Printed.{shown_size, with_point, nine_digits, exponent_shown}
use Rattle.b2_dectext.proofs.Putting.{IsPut-same, shown_size-zero, shown_size-fixed, shown_size-exponent}
use Rattle.b2_dectext.proofs.LastZeros.{whole-small}
use Rattle.b2_dectext.proofs.printing.put_size.Goals as goal
use Rattle.b2_dectext.proofs.printing.put_size.Goals.{else-place-ge98-via-then-place-ge98+else-place-le111, else-place-ge98-via-else-place-ge98}

pub returns-then-is_zero-clause-text : goal.returns-then-is_zero-clause-text
returns-then-is_zero-clause-text c =
    IsPut-same (shown_size c.args.a) _ _ _ _ _ (shown_size-zero c.args.a (sym c.is_zero.ensures.zero ∙ c.if-is_zero.true)) c.put.ensures

pub returns-then-whole-clause-few : goal.returns-then-whole-clause-few
returns-then-whole-clause-few c =
    let small = whole-small c.whole_of-whole.result c.whole_of-whole.ensures.other c.if-whole.true in
    omega (arith, c.put_digits.ensures.few, c.whole_of-whole.ensures.few small)

pub returns-then-whole-clause-text : goal.returns-then-whole-clause-text
returns-then-whole-clause-text c =
    let x = c.args.a in
    let w = c.whole_of-whole in
    let small = whole-small w.result w.ensures.other c.if-whole.true in
    let e = c.place-place.ensures.value in
    let low : 98 ≤ x.place = subst (λ p. 98 ≤ p) e (omega (arith, w.ensures.place small)) in
    let high : x.place ≤ 111 = subst (λ p. p ≤ 111) e (omega (arith, w.ensures.few small)) in
    IsPut-same (shown_size x) _ _ _ _ _
    (w.ensures.digits small ∙ ap₂ (λ p n. with_point (p - 98) (digit_bytes 13 n)) e c.coefficient-coef.ensures.value
    ∙ shown_size-fixed x (sym c.is_zero.ensures.zero ∙ c.if-is_zero.false) low high)
    c.put_digits.ensures.text

pub returns-then-place-le111-clause-text : goal.returns-then-place-le111-clause-text
returns-then-place-le111-clause-text c =
    let x = c.args.a in
    let e = c.place-place.ensures.value in
    let ds = ap (digit_bytes 13) c.coefficient-coef.ensures.value in
    IsPut-same (shown_size x) _ _ _ _ _
    (ap₂ (λ p ds. with_point (p - 98) ds) e ds
    ∙ shown_size-fixed x (sym c.is_zero.ensures.zero ∙ c.if-is_zero.false) (subst (λ p. 98 ≤ p) e c.if-place-ge98.true) (subst (λ p. p ≤ 111) e c.if-place-le111.true))
    c.put_plain.ensures.text

pub returns-else-place-ge98-clause-text : goal.returns-else-place-ge98-clause-text
returns-else-place-ge98-clause-text c =
    let x = c.args.a in
    let e = c.place-place.ensures.value in
    let ds = c.thirteen.ensures ∙ ap (digit_bytes 13) c.coefficient-coef.ensures.value in
    let far : (x.place < 98) ⊎ (111 < x.place) = elim c.else-place-ge98.branch [
      | else-place-ge98-via-then-place-ge98+else-place-le111 w ↦ inr (subst (λ p. 111 < p) e w.if-place-le111.false)
      | else-place-ge98-via-else-place-ge98 w ↦ inl (subst (λ p. p < 98) e w.if-place-ge98.false)
    ] in
    IsPut-same (shown_size x) _ _ _ _ _
    (ap₂ (λ ds p. nine_digits ds ++ exponent_shown p) ds e
    ∙ shown_size-exponent x (sym c.is_zero.ensures.zero ∙ c.if-is_zero.false) far)
    c.put_with_exponent.ensures.text
