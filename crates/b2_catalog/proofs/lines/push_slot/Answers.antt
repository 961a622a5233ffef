use Rattle.std.proofs.Common.{arith}
use Rattle.b2_platter.specs.Layout.{layout_of}
use Rattle.b2_platter.proofs.Goodness.{Parts-of}
use Rattle.b2_catalog.proofs.lines.push_slot.Goals as goal

pub row-requires : goal.row-requires
row-requires c = let parts = Parts-of (layout_of c.args.p.now) c.args.p.now c.image.ensures.good in rw c.image.ensures.value (omega (arith, parts.whole, parts.files, parts.free, parts.rest))
