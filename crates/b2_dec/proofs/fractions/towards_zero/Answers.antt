use Rattle.std.proofs.Common.{sym, ap, ◌∙◌, ◌≤◌, ◌-◌, arith}
use Rattle.b2_dec.specs.Number.{signed}
use Rattle.b2_dec.proofs.TenLemmas.{ten_pos}
use Rattle.b2_dec.proofs.Ranks.{thirteen}
use Rattle.b2_dec.proofs.Wholes.{kept-high, kept-small, kept-low, kept-least}
use Rattle.b2_dec.proofs.fractions.towards_zero.Goals as goal

pub returns-then-place-ge111 : goal.returns-then-place-ge111
returns-then-place-ge111 c = ap (signed c.args.a.neg) (sym (kept-high c.args.a (omega arith)))

pub returns-then-place-lt99 : goal.returns-then-place-lt99
returns-then-place-lt99 c = rw c.zero-then-place-lt99.ensures (sym (kept-small c.args.a c.args.a.neg c.coefficient-coef.ensures.spelling.digits (omega arith)))

pub nonzero_div-coef : goal.nonzero_div-coef
nonzero_div-coef c = rw c.ten_to-unit.ensures (ten_pos (111 - c.place-place.result))

pub ending_at-requires-clause-least : goal.ending_at-requires-clause-least
ending_at-requires-clause-least c =
    let some : 1000000000000 ≤ c.args.a.coef = thirteen c.args.a c.coefficient-coef.ensures.spelling (λ e. c.if-coef-eq0.false (c.coefficient-coef.ensures.value ∙ e)) in
    rw (c.ten_to-unit.ensures, c.coefficient-coef.ensures.value) (kept-least c.args.a.coef (111 - c.place-place.result) (omega arith) some)

pub returns : goal.returns
returns c =
    rw (c.ending_at.ensures, c.ten_to-unit.ensures, c.is_negative.ensures.value, c.coefficient-coef.ensures.value, c.place-place.ensures.value)
    (ap (signed c.args.a.neg) (sym (kept-low c.args.a (omega arith))))
