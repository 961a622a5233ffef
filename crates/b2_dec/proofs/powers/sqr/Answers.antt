use Rattle.std.proofs.Common.{sym, ◌∙◌, ◌≤◌, ◌+◌, ◌%◌, Ok, arith, lit<}
use Rattle.b2_dec.proofs.Ranks.{thirteen}
use Rattle.b2_dec.proofs.Roots.{root_of-none, root_of-is, root-part_of, root_of-ok, root-digits}
use Rattle.b2_dec.proofs.Spelled.{root_of-greatest}
use Rattle.b2_dec.proofs.powers.sqr.Goals as goal

pub returns-then-coef-eq0-clause-number : goal.returns-then-coef-eq0-clause-number
returns-then-coef-eq0-clause-number c =
    rw c.zero.ensures (sym (root_of-none c.args.a (sym c.is_negative.ensures.value ∙ c.if-is_negative.false) (sym c.coefficient-coef.ensures.value ∙ c.if-coef-eq0.true)))

pub round_whole_part-requires-clause-digits : goal.round_whole_part-requires-clause-digits
round_whole_part-requires-clause-digits c =
    let some : 1000000000000 ≤ c.coefficient-coef.result = omega (
      arith,
      thirteen c.args.a c.coefficient-coef.ensures.spelling
          (λ e. c.if-coef-eq0.false (c.coefficient-coef.ensures.value ∙ e)),
    ) in
    root-digits c.coefficient-coef.result (14 + (c.place-place.result + 1) % 2) c.isqrt-root.result some (omega arith)
    (rw (← c.ten_to.ensures) c.isqrt-root.ensures.next_square_gt)

pub returns-clause-number : goal.returns-clause-number
returns-clause-number c =
    root_of-is c.args.a c.isqrt-root.result c.place-place.result _ _ _ (sym c.is_negative.ensures.value ∙ c.if-is_negative.false) c.place-place.ensures.value
    c.coefficient-coef.ensures.value c.ten_to.ensures c.isqrt-root.ensures.square_le c.isqrt-root.ensures.next_square_gt c.round_whole_part.ensures

pub returns-then-coef-eq0-clause-greatest : goal.returns-then-coef-eq0-clause-greatest
returns-then-coef-eq0-clause-greatest c = root_of-greatest c.args.a (Ok c.zero.result) (returns-then-coef-eq0-clause-number c)

pub returns-clause-greatest : goal.returns-clause-greatest
returns-clause-greatest c = root_of-greatest c.args.a c.round_whole_part.result (returns-clause-number c)

pub returns-clause-some : goal.returns-clause-some
returns-clause-some c plain =
    let some : 1000000000000 ≤ c.coefficient-coef.result = omega (
      arith,
      thirteen c.args.a c.coefficient-coef.ensures.spelling
          (λ e. c.if-coef-eq0.false (c.coefficient-coef.ensures.value ∙ e)),
    ) in
    let digits : 10000000000000 ≤ c.isqrt-root.result = root-digits c.coefficient-coef.result (14 + (c.place-place.result + 1) % 2) c.isqrt-root.result some (omega arith)
    (rw (← c.ten_to.ensures) c.isqrt-root.ensures.next_square_gt) in
    let whole = root-part_of c.args.a c.isqrt-root.result c.place-place.result _ _ c.place-place.ensures.value c.coefficient-coef.ensures.value c.ten_to.ensures
    c.isqrt-root.ensures.square_le c.isqrt-root.ensures.next_square_gt in
    root_of-ok c.isqrt-root.result c.place-place.result c.args.a.coef _ _ _ c.place-place.ensures.highest c.coefficient-coef.ensures.spelling.digits
    c.coefficient-coef.ensures.value c.ten_to.ensures digits c.isqrt-root.ensures.square_le _ whole
    (c.round_whole_part.ensures _ _ (lit< tt) whole)
