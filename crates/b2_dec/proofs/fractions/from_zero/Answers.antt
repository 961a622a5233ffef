use Rattle.std.proofs.Common.{sym, ap, ap₂, ◌∙◌, ◌≤◌, ◌+◌, ◌*◌, ◌/◌, ◌%◌, ◌-◌, ◌^◌, true, arith}
use Rattle.b2_dec.specs.Number.{signed}
use Rattle.b2_dec.proofs.TenLemmas.{ten_pos}
use Rattle.b2_dec.proofs.Wholes.{some_digits, value-negative, raised-high, raised-small, raised-even, raised-rest, next-most, next-least, carried}
use Rattle.b2_dec.proofs.fractions.from_zero.Goals as goal

pub returns-then-place-ge111 : goal.returns-then-place-ge111
returns-then-place-ge111 c =
    let some : 1000000000000 ≤ c.args.a.coef = some_digits c.args.a c.coefficient-coef.ensures.spelling c.requires in
    value-negative c.args.a c.requires ∙ ap (signed true) (sym (raised-high c.args.a (omega arith) (omega arith)))

pub returns-then-place-lt99 : goal.returns-then-place-lt99
returns-then-place-lt99 c =
    let some : 1000000000000 ≤ c.args.a.coef = some_digits c.args.a c.coefficient-coef.ensures.spelling c.requires in
    rw c.ending_at.ensures (ap (signed true) (sym (raised-small c.args.a (omega arith) c.coefficient-coef.ensures.spelling.digits (omega arith))))

pub nonzero_rem-coef : goal.nonzero_rem-coef
nonzero_rem-coef c = rw c.ten_to-unit.ensures (ten_pos (111 - c.place-place.result))

pub nonzero_div-up : goal.nonzero_div-up
nonzero_div-up c = rw c.ten_to-unit.ensures (ten_pos (111 - c.place-place.result))

pub returns-then-coef-unit-eq0 : goal.returns-then-coef-unit-eq0
returns-then-coef-unit-eq0 c =
    let some : 1000000000000 ≤ c.args.a.coef = some_digits c.args.a c.coefficient-coef.ensures.spelling c.requires in
    let unit = c.ten_to-unit.ensures ∙ ap (λ p. 10 ^ (111 - p)) c.place-place.ensures.value in
    value-negative c.args.a c.requires
    ∙ ap (signed true) (sym (raised-even c.args.a (omega arith) (omega arith)
    (sym (ap₂ (λ k u. k % u) c.coefficient-coef.ensures.value unit) ∙ c.if-coef-unit-eq0.true)))

pub ending_at-requires-else-up-eq10000000000000-clause-least : goal.ending_at-requires-else-up-eq10000000000000-clause-least
ending_at-requires-else-up-eq10000000000000-clause-least c =
    let some : 1000000000000 ≤ c.args.a.coef = some_digits c.args.a c.coefficient-coef.ensures.spelling c.requires in
    rw (c.ten_to-unit.ensures, c.coefficient-coef.ensures.value) (next-least c.args.a.coef (10 ^ (111 - c.place-place.result)) (ten_pos (111 - c.place-place.result)) some)

pub ending_at-requires-else-up-eq10000000000000-clause-digits : goal.ending_at-requires-else-up-eq10000000000000-clause-digits
ending_at-requires-else-up-eq10000000000000-clause-digits c =
    let most : (c.coefficient-coef.result / c.ten_to-unit.result + 1) * c.ten_to-unit.result ≤ 10000000000000 =
    rw c.ten_to-unit.ensures (next-most c.coefficient-coef.result (111 - c.place-place.result) (omega arith) c.coefficient-coef.ensures.digits) in
    omega arith

pub returns-then-up-eq10000000000000 : goal.returns-then-up-eq10000000000000
returns-then-up-eq10000000000000 c =
    let unit = c.ten_to-unit.ensures ∙ ap (λ p. 10 ^ (111 - p)) c.place-place.ensures.value in
    let up = ap₂ (λ k u. (k / u + 1) * u) c.coefficient-coef.ensures.value unit in
    rw c.ending_at-then-up-eq10000000000000.ensures (ap (signed true)
    (carried _ c.place-place.result c.if-up-eq10000000000000.true
    ∙ ap₂ (λ k p. k * 10 ^ p) up c.place-place.ensures.value
    ∙ sym (raised-rest c.args.a (omega arith) (λ e. c.if-coef-unit-eq0.false (ap₂ (λ k u. k % u) c.coefficient-coef.ensures.value unit ∙ e)))))

pub returns-else-up-eq10000000000000 : goal.returns-else-up-eq10000000000000
returns-else-up-eq10000000000000 c =
    let unit = c.ten_to-unit.ensures ∙ ap (λ p. 10 ^ (111 - p)) c.place-place.ensures.value in
    let up = ap₂ (λ k u. (k / u + 1) * u) c.coefficient-coef.ensures.value unit in
    rw c.ending_at-else-up-eq10000000000000.ensures (ap (signed true)
    (ap₂ (λ k p. k * 10 ^ p) up c.place-place.ensures.value
    ∙ sym (raised-rest c.args.a (omega arith) (λ e. c.if-coef-unit-eq0.false (ap₂ (λ k u. k % u) c.coefficient-coef.ensures.value unit ∙ e)))))
