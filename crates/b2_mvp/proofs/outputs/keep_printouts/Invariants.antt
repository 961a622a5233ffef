use Rattle.std.proofs.Common.{◌≡◌, ◌≤◌, take}
use Rattle.b2_sched.specs.Start.{printer_addresses}
use Rattle.b2_mvp.specs.Outputs.{printouts_at, with_files}
use Rattle.b2_mvp.proofs.outputs.keep_printouts.Given as goal

-- the printouts of the printers so far are kept
abbrev pub invariant-loop-printer : goal.invariant-loop-printer
invariant-loop-printer g l = record {
  kept : g.F.Shelf.files l.shelf ≡ with_files (printouts_at l.out (g.S.Shared.store (g.S.Shared.meaning l.stores)) (printer_addresses (take l.printer-index l.printers))) (g.F.Shelf.files l.fn.shelf);
  faults : g.F.Shelf.faults l.fn.shelf ≤ g.F.Shelf.faults l.shelf;
}
