use Rattle.std.proofs.Common.{◌≡◌, ◌++◌, ap, ◌∙◌}
use Rattle.b2_mvp.specs.Outputs.{listed_where}
use Rattle.b2_mvp.proofs.Apart.{one_more_apart}
use Rattle.b2_mvp.proofs.outputs.apart.Goals as goal

pub loop-p-preserved : goal.loop-p-preserved
loop-p-preserved g c =
    one_more_apart c.args.world.now.marks c.args.partitions.now c.loop-p.p-index c.p-item.result c.loop-p.parts.items c.add_where.new.parts.items c.loop-p-test.true c.p-item.is
    (c.in_ok-add_where.ensures ∙ ap (λ b. c.loop-p.parts.items ++ listed_where b c.p-item.result.number) c.clean.ensures.value)
    ∙ c.loop-p.invariant
