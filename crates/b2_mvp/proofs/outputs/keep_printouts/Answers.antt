use Rattle.std.proofs.Common.{◌≡◌, ℕ, List, subst, arith}
use Rattle.b2_access.specs.Store.{content}
use Rattle.b2_access.specs.declared.objects.Object.TheVariants as object
use Rattle.b2_base.specs.Seen.{shelf_seen}
use Rattle.b2_boot.specs.declared.boot.BootPrinter.{BootPrinter}
use Rattle.b2_sched.specs.Start.{printer_addresses}
use Rattle.b2_mvp.specs.Outputs.{printout, printouts_at, with_files}
use Rattle.b2_mvp.proofs.Images.{around, taken_more}
use Rattle.b2_mvp.proofs.Keeps.{device_fails, device_more}
use Rattle.b2_mvp.proofs.outputs.keep_printouts.Goals as goal

pub returns-in-Err-clause-err : goal.returns-in-Err-clause-err
returns-in-Err-clause-err g c =
    let seen = shelf_seen g.F.Shelf.files g.F.Shelf.faults g.F.Shelf.misses g.F.Shelf.longs in
    device_fails (λ (p : BootPrinter). p.address) (λ (a : List ℕ). printout c.args.out.now a (content (g.S.Shared.store (g.S.Shared.meaning c.args.stores.now)) (object.Printer a))) _ _ c.args.printers.now c.printer-item.result
    (seen c.args.shelf.now) (seen c.loop-printer.shelf) (seen c.keep_printout.new.shelf)
    c.in-Err.status (around c.args.printers.now c.loop-printer.printer-index c.printer-item.result c.loop-printer-test.true c.printer-item.is)
    c.loop-printer.invariant.kept c.loop-printer.invariant.faults c.in-Err.ensures.err

pub loop-printer-preserved : goal.loop-printer-preserved
loop-printer-preserved g c =
    record {
      kept =
          subst (λ (ps : List BootPrinter). g.F.Shelf.files c.keep_printout.new.shelf ≡ with_files (printouts_at c.args.out.now (g.S.Shared.store (g.S.Shared.meaning c.args.stores.now)) (printer_addresses ps)) (g.F.Shelf.files c.args.shelf.now))
          (taken_more c.args.printers.now c.loop-printer.printer-index c.printer-item.result c.loop-printer-test.true c.printer-item.is)
          (device_more (λ (p : BootPrinter). p.address) (λ (a : List ℕ). printout c.args.out.now a (content (g.S.Shared.store (g.S.Shared.meaning c.args.stores.now)) (object.Printer a))) _ c.printer-item.result _ _ _
          c.loop-printer.invariant.kept c.in-Ok.ensures.ok);
      faults = let more = c.keep_printout.ensures.faults in let far = c.loop-printer.invariant.faults in omega arith;
    }
