use Rattle.std.proofs.Common.{arith}
use Rattle.b2_platter.specs.Layout.{layout_of}
use Rattle.b2_platter.proofs.Goodness.{Parts-of}
use Rattle.b2_catalog.proofs.renames.new_place.Goals as goal

pub place_for-requires-clause-some : goal.place_for-requires-clause-some
place_for-requires-clause-some c = let parts = Parts-of (layout_of c.args.p.now) c.args.p.now c.image.ensures.good in rw c.image.ensures.value parts.some

pub place_for-requires-clause-room : goal.place_for-requires-clause-room
place_for-requires-clause-room c = let parts = Parts-of (layout_of c.args.p.now) c.args.p.now c.image.ensures.good in rw c.image.ensures.value (omega (arith, parts.whole, parts.files, parts.free, parts.rest))
