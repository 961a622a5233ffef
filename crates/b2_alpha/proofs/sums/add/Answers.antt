use Rattle.std.proofs.Common.{◌≡◌, ◌+◌, ◌-◌, ◌%◌, length, get_or, refl, sym, ap, ◌∙◌, arith}
use Rattle.b2_alpha.specs.Sums.{aligned}
use Rattle.b2_alpha.proofs.Aligning.{aligned_at, length-aligned}
use Rattle.b2_alpha.proofs.Pairing.{each_pair_more, each_pair_all}
use Rattle.b2_alpha.proofs.sums.add.Goals as goal

pub loop-i-init : goal.loop-i-init
loop-i-init c = refl

pub loop-i-preserved : goal.loop-i-preserved
loop-i-preserved c =
    let over : get_or (aligned (length c.args.to.now) c.args.from.now) c.loop-i.i 0 ≡ c.from_end-operand.result =
    aligned_at (length c.args.to.now) c.args.from.now c.loop-i.i (length c.loop-i.to - 1 - c.loop-i.i) (omega arith) ∙ sym c.from_end-operand.ensures in
    each_pair_more (λ x y. (x + y) % 256) c.loop-i.to (aligned (length c.args.to.now) c.args.from.now) _ c.loop-i.i _
    (omega arith)
    (omega (arith, length-aligned (length c.args.to.now) c.args.from.now))
    (ap (λ y. (get_or c.loop-i.to c.loop-i.i 0 + y) % 256) (sym over))
    c.loop-i.invariant

pub returns : goal.returns
returns c =
    sym (each_pair_all (λ x y. (x + y) % 256) c.loop-i.to _ c.loop-i.i (omega arith)) ∙ c.loop-i.invariant
