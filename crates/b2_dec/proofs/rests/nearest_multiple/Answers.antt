use Rattle.std.proofs.Common.{ap, sym, ◌∙◌, ◌≡◌, ◌<◌, ◌-◌, ◌*◌, ◌^◌, zero-mul, arith}
use Rattle.b2_dec.specs.declared.number.Mode.TheVariants.{Cut}
use Rattle.b2_dec.specs.Number.{size}
use Rattle.b2_dec.specs.Rounding.{rnd}
use Rattle.b2_dec.proofs.TenLemmas.{ten_pos}
use Rattle.b2_dec.proofs.Exact.{rnd-none, rnd-number}
use Rattle.b2_dec.proofs.Roots.{nearest-itself, nearest-nothing, nearest-far, nearest-is}
use Rattle.b2_dec.proofs.rests.nearest_multiple.Goals as goal

pub returns-then-coef-eq0 : goal.returns-then-coef-eq0
returns-then-coef-eq0 c =
    let none : size c.args.a ≡ 0 = ap (λ t. t * 10 ^ c.args.a.place) (sym c.coefficient-coef.ensures.value ∙ c.if-coef-eq0.true) ∙ zero-mul (10 ^ c.args.a.place) in
    let small : 2 * size c.args.a < 10 ^ c.args.last = omega (arith, ten_pos c.args.last) in
    rw c.zero.ensures (sym (rnd-none Cut c.args.a.neg _ (10 ^ 111) (nearest-nothing c.args.a c.args.last small)))

pub returns-then-place-last : goal.returns-then-place-last
returns-then-place-last c =
    sym (ap (λ n. rnd Cut c.args.a.neg n (10 ^ 111)) (nearest-itself c.args.a c.args.last (omega arith))
    ∙ rnd-number Cut c.args.a c.coefficient-coef.ensures.spelling)

pub returns-then-dropped-gt13 : goal.returns-then-dropped-gt13
returns-then-dropped-gt13 c =
    let small = nearest-far c.args.a c.args.last c.coefficient-coef.ensures.spelling.digits (omega arith) in
    rw c.zero-then-dropped-gt13.ensures (sym (rnd-none Cut c.args.a.neg _ (10 ^ 111) (nearest-nothing c.args.a c.args.last small)))

pub nonzero_div-coef : goal.nonzero_div-coef
nonzero_div-coef c = rw c.ten_to-unit.ensures (ten_pos (c.args.last - c.place-place.result))

pub returns : goal.returns
returns c =
    c.result.ensures
    ∙ nearest-is c.args.a (c.args.last - c.place-place.result) c.args.last _ _ _ _ (omega arith) (omega arith) c.coefficient-coef.ensures.value c.ten_to-unit.ensures
    c.is_negative.ensures.value c.round_short.ensures
