use Rattle.std.proofs.Common.{◌≡◌, ◌≤◌, take}
use Rattle.b2_sched.specs.Start.{platter_addresses}
use Rattle.b2_mvp.specs.Outputs.{images_at, with_files}
use Rattle.b2_mvp.proofs.outputs.keep_images.Given as goal

-- the images of the platters so far are kept
abbrev pub invariant-loop-platter : goal.invariant-loop-platter
invariant-loop-platter g l = record {
  kept : g.F.Shelf.files l.shelf ≡ with_files (images_at l.out (g.S.Shared.store (g.S.Shared.meaning l.stores)) (platter_addresses (take l.platter-index l.platters))) (g.F.Shelf.files l.fn.shelf);
  faults : g.F.Shelf.faults l.fn.shelf ≤ g.F.Shelf.faults l.shelf;
}
