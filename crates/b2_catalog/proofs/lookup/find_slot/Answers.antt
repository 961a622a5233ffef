use Rattle.std.proofs.Common.{arith, ◌∙◌}
use Rattle.b2_platter.specs.Layout.{layout_of}
use Rattle.b2_platter.proofs.Goodness.{Parts-of}
use Rattle.b2_catalog.proofs.Looking.{found_is_slot, held-from_found}
use Rattle.b2_catalog.proofs.lookup.find_slot.Goals as goal

pub slot_found-requires-clause-some : goal.slot_found-requires-clause-some
slot_found-requires-clause-some g c = let parts = Parts-of (layout_of c.args.p.now) c.args.p.now c.image.ensures.good in rw c.image.ensures.value parts.some

pub slot_found-requires-clause-room : goal.slot_found-requires-clause-room
slot_found-requires-clause-room g c = let parts = Parts-of (layout_of c.args.p.now) c.args.p.now c.image.ensures.good in rw c.image.ensures.value (omega (arith, parts.whole, parts.files, parts.free, parts.rest))

pub returns-clause-slot : goal.returns-clause-slot
returns-clause-slot g c =
    c.slot_found.ensures.found ∙ rw (c.image.ensures.value, c.bytes.ensures.value) (found_is_slot c.args.p.now c.image.ensures.good c.args.name)

pub returns-clause-held : goal.returns-clause-held
returns-clause-held g c =
    held-from_found c.args.p.now c.args.name c.slot_found.result (c.slot_found.ensures.found ∙ rw (c.image.ensures.value, c.bytes.ensures.value) (found_is_slot c.args.p.now c.image.ensures.good c.args.name))
