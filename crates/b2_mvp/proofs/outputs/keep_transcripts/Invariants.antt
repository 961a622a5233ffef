use Rattle.std.proofs.Common.{◌≡◌, ◌≤◌}
use Rattle.b2_mvp.specs.Outputs.{transcripts_to, with_files}
use Rattle.b2_mvp.proofs.outputs.keep_transcripts.Given as goal

abbrev pub invariant-loop-before : goal.invariant-loop-before
invariant-loop-before g l = record {
  kept : g.F.Shelf.files l.shelf ≡ with_files (transcripts_to l.out (g.S.Shared.store (g.S.Shared.meaning l.stores)) l.before) (g.F.Shelf.files l.fn.shelf);
  faults : g.F.Shelf.faults l.fn.shelf ≤ g.F.Shelf.faults l.shelf;
}
