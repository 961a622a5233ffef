use Rattle.std.proofs.Common.{arith}
use Rattle.b2_platter.specs.Layout.{layout_of}
use Rattle.b2_platter.proofs.Goodness.{Parts-of}
use Rattle.b2_catalog.proofs.plain.limits.Goals as goal

pub index-requires : goal.index-requires
index-requires c = let parts = Parts-of (layout_of c.args.p.now) c.args.p.now c.image-bytes.ensures.good in rw c.image-bytes.ensures.value (omega arith)

pub overflow_cast-result : goal.overflow_cast-result
overflow_cast-result c = omega (arith, c.index.ensures.few)

pub catalogue_end-requires : goal.catalogue_end-requires
catalogue_end-requires c = let parts = Parts-of (layout_of c.args.p.now) c.args.p.now c.image-bytes.ensures.good in rw c.image-bytes.ensures.value (omega arith)

pub next_free-requires : goal.next_free-requires
next_free-requires c = let parts = Parts-of (layout_of c.args.p.now) c.args.p.now c.image-bytes.ensures.good in rw c.image-bytes.ensures.value (omega arith)
