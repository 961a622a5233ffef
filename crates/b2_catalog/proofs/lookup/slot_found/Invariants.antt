use Rattle.b2_platter.specs.Image.{has_free}
use Rattle.std.proofs.Common.{◌+◌}
use Rattle.b2_catalog.specs.Ways.{slot_in, way, way_of, found_along}
use Rattle.b2_catalog.proofs.Finding.{Walks}
use Rattle.b2_catalog.proofs.lookup.slot_found.Given as goal

abbrev pub invariant-loop-j : goal.invariant-loop-j
invariant-loop-j g l =
    Walks l.bytes l.name l.first l.index l.j l.steps (found_along (slot_in l.bytes l.name) (has_free l.bytes) (way_of l.bytes l.name)) (l.initial.steps + way l.bytes l.name)
