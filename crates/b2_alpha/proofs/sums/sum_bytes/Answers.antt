use Rattle.std.proofs.Common.{◌≡◌, ◌-◌, ◌<◌, length, get_or, cond, sym, ap, ◌∙◌, arith}
use Rattle.b2_alpha.specs.Sums.{aligned}
use Rattle.b2_alpha.proofs.Aligning.{aligned_at, aligned_below, length-aligned}
use Rattle.b2_alpha.proofs.Carrying.{Carried-none, Carried-more, Carried-all, addends, addends_at, length-addends, sum_or_difference, is_start, start_small, addend_below, below_set}
use Rattle.b2_alpha.proofs.sums.sum_bytes.Goals as goal

pub loop-i-init : goal.loop-i-init
loop-i-init c = (
  Carried-none 256 c.args.to.now (addends c.args.subtract 256 (aligned (length c.args.to.now) c.args.from.now)) c.from-carry.result
      (start_small c.args.subtract c.from-carry.result (is_start c.args.subtract c.from-carry.result c.from-carry.ensures))
      (length-addends c.args.subtract 256 (aligned (length c.args.to.now) c.args.from.now) ∙ length-aligned (length c.args.to.now) c.args.from.now),
  (λ k. let fits = c.type_inv.to k in omega arith),
)

pub overflow_add-sum-in-loop-i : goal.overflow_add-sum-in-loop-i
overflow_add-sum-in-loop-i c =
    let place = c.loop-i.invariant.1 (length c.loop-i.to - 1 - c.loop-i.i) in
    let small = c.loop-i.invariant.0.small in
    let other = addend_below 256 c.args.subtract c.from.result c.addend-operand.result c.addend-operand.ensures (omega arith) in
    omega arith

pub loop-i-preserved : goal.loop-i-preserved
loop-i-preserved c =
    let inside : length c.loop-i.to - 1 - c.loop-i.i < length (aligned (length c.args.to.now) c.args.from.now) = omega (arith, length-aligned (length c.args.to.now) c.args.from.now) in
    let operand : c.from.result ≡ get_or (aligned (length c.args.to.now) c.args.from.now) (length c.loop-i.to - 1 - c.loop-i.i) 0 =
    c.from.ensures ∙ c.from_end.ensures ∙ sym (aligned_at (length c.args.to.now) c.args.from.now (length c.loop-i.to - 1 - c.loop-i.i) c.loop-i.i (omega arith)) in
    let addend : c.addend-operand.result ≡ get_or (addends c.args.subtract 256 (aligned (length c.args.to.now) c.args.from.now)) (length c.loop-i.to - 1 - c.loop-i.i) 0 =
    c.addend-operand.ensures ∙ ap (λ y. cond c.args.subtract (255 - y) y) operand ∙ sym (addends_at c.args.subtract 256 (aligned (length c.args.to.now) c.args.from.now) (length c.loop-i.to - 1 - c.loop-i.i) inside) in
    let here : c.from-in-loop-i.result < 256 = rw c.from-in-loop-i.ensures (c.loop-i.invariant.1 (length c.loop-i.to - 1 - c.loop-i.i)) in
    let there = addend_below 256 c.args.subtract c.from.result c.addend-operand.result c.addend-operand.ensures (omega arith) in
    let kept : get_or c.loop-i.to (length c.loop-i.to - 1 - c.loop-i.i) 0 ≡ get_or c.args.to.now (length c.loop-i.to - 1 - c.loop-i.i) 0 = c.loop-i.invariant.0.kept (length c.loop-i.to - 1 - c.loop-i.i) (omega arith) in (
      Carried-more 256 c.args.to.now (addends c.args.subtract 256 (aligned (length c.args.to.now) c.args.from.now)) c.loop-i.to c.from-carry.result c.loop-i.i (length c.loop-i.to - 1 - c.loop-i.i) c.loop-i.carry c.from-in-loop-i.result c.addend-operand.result
          (omega arith) (omega arith)
          (length-addends c.args.subtract 256 (aligned (length c.args.to.now) c.args.from.now) ∙ length-aligned (length c.args.to.now) c.args.from.now)
          (c.from-in-loop-i.ensures ∙ kept) addend here there c.loop-i.invariant.0,
      below_set 256 c.loop-i.to (length c.loop-i.to - 1 - c.loop-i.i) _ (omega arith) (omega arith) c.loop-i.invariant.1,
    )

pub returns : goal.returns
returns c =
    let at_end : c.loop-i.i ≡ length c.args.to.now = omega arith in
    Carried-all 256 c.args.to.now (addends c.args.subtract 256 (aligned (length c.args.to.now) c.args.from.now)) c.loop-i.to c.from-carry.result c.loop-i.carry (omega arith) c.loop-i.invariant.1 (rw at_end at c.loop-i.invariant.0)
    ∙ sum_or_difference 256 c.args.to.now (aligned (length c.args.to.now) c.args.from.now) c.args.subtract c.from-carry.result (aligned_below 256 (length c.args.to.now) c.args.from.now (λ k. let fits = c.type_inv.from k in omega arith)) (length-aligned (length c.args.to.now) c.args.from.now) (is_start c.args.subtract c.from-carry.result c.from-carry.ensures)
