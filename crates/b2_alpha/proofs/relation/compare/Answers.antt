use Rattle.std.proofs.Common.{ℕ, ◌<◌, subst, ◌∙◌}
use Rattle.std.specs.Ordering.{nat_cmp}
use Rattle.b2_alpha.proofs.Comparing.{decides, goes_on}
use Rattle.b2_alpha.proofs.relation.compare.Goals as goal

pub returns-then-ne : goal.returns-then-ne
returns-then-ne c =
    decides c.args.a.now c.args.b.now c.loop-i.i c.cmp-order.result (subst (λ (n : ℕ). c.loop-i.i < n) c.max-i-end.ensures c.loop-i-test.true)
    (c.cmp-order.ensures ∙ (λ j. nat_cmp (c.byte_at.ensures j) (c.byte_at-in-loop-i.ensures j))) c.if-ne.ensures c.loop-i.invariant

pub loop-i-preserved : goal.loop-i-preserved
loop-i-preserved c =
    goes_on c.args.a.now c.args.b.now c.loop-i.i c.cmp-order.result (subst (λ (n : ℕ). c.loop-i.i < n) c.max-i-end.ensures c.loop-i-test.true)
    (c.cmp-order.ensures ∙ (λ j. nat_cmp (c.byte_at.ensures j) (c.byte_at-in-loop-i.ensures j))) c.if-ne.ensures c.loop-i.invariant
