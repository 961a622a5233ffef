use Rattle.std.proofs.Common.{arith}
use Rattle.b2_platter.specs.Layout.{layout_of}
use Rattle.b2_platter.proofs.Goodness.{Parts-of}
use Rattle.b2_progfile.proofs.saving.has_place.Goals as goal

pub has_slot-requires-clause-some : goal.has_slot-requires-clause-some
has_slot-requires-clause-some c = let parts = Parts-of (layout_of c.args.p.now) c.args.p.now c.image-bytes.ensures.good in rw c.image-bytes.ensures.value parts.some

pub has_slot-requires-clause-room : goal.has_slot-requires-clause-room
has_slot-requires-clause-room c = let parts = Parts-of (layout_of c.args.p.now) c.args.p.now c.image-bytes.ensures.good in rw c.image-bytes.ensures.value (omega (arith, parts.whole, parts.files, parts.free, parts.rest))
