use Rattle.std.proofs.Common.{arith}
use Rattle.b2_platter.specs.Layout.{layout_of}
use Rattle.b2_platter.proofs.Goodness.{Parts-of}
use Rattle.b2_platter.proofs.Layouts.{own_fits}
use Rattle.b2_catalog.proofs.additions.head_with_next.Goals as goal

pub overflow_cast-index : goal.overflow_cast-index
overflow_cast-index c = omega (arith, c.limits-index.ensures.few)

pub image_head-requires-clause-total_fits : goal.image_head-requires-clause-total_fits
image_head-requires-clause-total_fits c =
    rw c.layout.ensures (own_fits c.args.p.now c.sectors-sectors.ensures.good _ (omega (arith, c.sectors-sectors.ensures.value)))

pub image_head-requires-clause-end_fits : goal.image_head-requires-clause-end_fits
image_head-requires-clause-end_fits c =
    let parts = Parts-of (layout_of c.args.p.now) c.args.p.now c.sectors-sectors.ensures.good in
    rw c.layout.ensures (own_fits c.args.p.now c.sectors-sectors.ensures.good _ (omega (arith, parts.rest, c.limits-index.ensures.end)))

pub image_head-requires-clause-next_fits : goal.image_head-requires-clause-next_fits
image_head-requires-clause-next_fits c =
    let parts = Parts-of (layout_of c.args.p.now) c.args.p.now c.sectors-sectors.ensures.good in
    rw c.layout.ensures (own_fits c.args.p.now c.sectors-sectors.ensures.good _ (omega (arith, parts.rest, c.requires)))
