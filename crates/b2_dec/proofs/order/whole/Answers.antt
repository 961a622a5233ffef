use Rattle.std.proofs.Common.{ℕ, Bool, ℤ, Option, Some, None, if◌then◌else◌, sym, ap, ap₂, ◌∙◌, ◌*◌, ◌/◌, ◌%◌, ◌-◌, ◌^◌, ◌≤◌, mul-le-mul, arith}
use Rattle.b2_dec.specs.Number.{signed}
use Rattle.b2_dec.specs.Arithmetic.{fits_64}
use Rattle.b2_dec.proofs.TenLemmas.{ten_pos, ten_le}
use Rattle.b2_dec.proofs.Parts.{size-high, whole_of-large, whole_of-small, whole_of-multiple, whole_of-divided, whole_of-rest}
use Rattle.b2_dec.proofs.order.whole.Goals as goal

-- a size with its sign, where it fits
abbrev kept : Bool → ℕ → Option ℤ
kept s n = if fits_64 (signed s n) then Some (signed s n) else None

pub returns-then-place-gt117 : goal.returns-then-place-gt117
returns-then-place-gt117 c = sym (whole_of-large c.args.a c.coefficient-coef.ensures.spelling (omega arith))

pub overflow_mul-coef : goal.overflow_mul-coef
overflow_mul-coef c =
    let few : c.coefficient-coef.result ≤ 9999999999999 = omega arith in
    let most : c.place-place.result - 111 ≤ 6 = omega arith in
    let bound : c.coefficient-coef.result * c.ten_to.result ≤ 9999999999999 * 10 ^ 6 = rw c.ten_to.ensures (mul-le-mul few (ten_le (c.place-place.result - 111) 6 most)) in
    search (arith, bound)

pub nonzero_rem-coef : goal.nonzero_rem-coef
nonzero_rem-coef c = rw c.ten_to-unit.ensures (ten_pos (111 - c.place-place.result))

pub returns-then-below-gt12 : goal.returns-then-below-gt12
returns-then-below-gt12 c = sym (whole_of-small c.args.a c.coefficient-coef.ensures.spelling (omega arith))

pub returns-then-place-ge111 : goal.returns-then-place-ge111
returns-then-place-ge111 c =
    c.with_sign.ensures
    ∙ ap₂ kept c.is_negative.ensures.value
    (rw c.ten_to.ensures (ap₂ (λ k p. k * 10 ^ (p - 111)) c.coefficient-coef.ensures.value c.place-place.ensures.value))
    ∙ sym (whole_of-multiple c.args.a (c.args.a.coef * 10 ^ (c.args.a.place - 111)) (size-high c.args.a (omega arith)))

pub returns-then-coef-unit-eq0 : goal.returns-then-coef-unit-eq0
returns-then-coef-unit-eq0 c =
    let unit = c.ten_to-unit.ensures ∙ ap (λ p. 10 ^ (111 - p)) c.place-place.ensures.value in
    c.with_sign-then-coef-unit-eq0.ensures
    ∙ ap₂ kept c.is_negative-then-coef-unit-eq0.ensures.value (ap₂ (λ k u. k / u) c.coefficient-coef.ensures.value unit)
    ∙ sym (whole_of-divided c.args.a (omega arith) (sym (ap₂ (λ k u. k % u) c.coefficient-coef.ensures.value unit) ∙ c.if-coef-unit-eq0.true))

pub returns-else-coef-unit-eq0 : goal.returns-else-coef-unit-eq0
returns-else-coef-unit-eq0 c =
    let unit = c.ten_to-unit.ensures ∙ ap (λ p. 10 ^ (111 - p)) c.place-place.ensures.value in
    sym (whole_of-rest c.args.a (omega arith) (λ e. c.if-coef-unit-eq0.false (ap₂ (λ k u. k % u) c.coefficient-coef.ensures.value unit ∙ e)))
