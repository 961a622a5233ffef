use Rattle.std.proofs.Common.{◌≡◌, ◌+◌, ◌-◌, ◌*◌, ◌^◌, sym, ap, ◌∙◌, pow-add, arith}
use Rattle.b2_dec.proofs.TenLemmas.{ten_pos}
use Rattle.b2_expr.proofs.literals.divided_by_tens.Goals as goal

pub returns : goal.returns
returns c =
    let places = c.args.places in
    let all : 222 - places + places ≡ 222 = omega (arith, c.requires.few) in
    c.round_short.ensures c.args.digits (10 ^ places) (ten_pos places)
    (ap (λ u. c.args.digits * u) (sym (pow-add 10 (222 - places) places) ∙ ap (λ k. 10 ^ k) all))
