use Rattle.std.proofs.Common.{List, ◌++◌, ◌∙◌, sym, ap, subst}
use Rattle.b2_base.specs.Seen.{shelf_seen}
use Rattle.b2_boot.specs.Boots.{BootState}
use Rattle.b2_boot.specs.declared.boot.BootPlatter.{BootPlatter}
use Rattle.b2_boot.specs.declared.boot.BootPrinter.{BootPrinter}
use Rattle.b2_sched.specs.Start.{platter_addresses, printer_addresses}
use Rattle.b2_mvp.specs.Outputs.{CannotKeep, images_at, printouts_at, transcripts_to, with_files}
use Rattle.b2_mvp.proofs.Keeps.{first_fail, then_fail, with_files_append}
use Rattle.b2_mvp.proofs.outputs.keep_outputs.Goals as goal

pub returns-in-Err-clause-err : goal.returns-in-Err-clause-err
returns-in-Err-clause-err g c =
    let seen = shelf_seen g.F.Shelf.files g.F.Shelf.faults g.F.Shelf.misses g.F.Shelf.longs in
    let s = g.S.Shared.store (g.S.Shared.meaning c.args.stores.now) in
    first_fail (transcripts_to c.args.out.now s 12) (printouts_at c.args.out.now s (printer_addresses c.args.boot.now.printers) ++ images_at c.args.out.now s (platter_addresses c.args.boot.now.platters))
    (seen c.args.shelf.now) (seen c.keep_transcripts.new.shelf) c.in-Err.status c.in-Err.ensures.err

pub returns-in-Err-keep_printouts-clause-err : goal.returns-in-Err-keep_printouts-clause-err
returns-in-Err-keep_printouts-clause-err g c =
    let seen = shelf_seen g.F.Shelf.files g.F.Shelf.faults g.F.Shelf.misses g.F.Shelf.longs in
    let s = g.S.Shared.store (g.S.Shared.meaning c.args.stores.now) in
    let printouts = printouts_at c.args.out.now s (printer_addresses c.args.boot.now.printers) in
    let images = images_at c.args.out.now s (platter_addresses c.args.boot.now.platters) in
    then_fail (transcripts_to c.args.out.now s 12) (printouts ++ images) (seen c.args.shelf.now) (seen c.keep_transcripts.new.shelf) (seen c.keep_printouts.new.shelf)
    c.in-Err-keep_printouts.status c.in-Ok.ensures.ok c.keep_transcripts.ensures.faults
    (first_fail printouts images (seen c.keep_transcripts.new.shelf) (seen c.keep_printouts.new.shelf) c.in-Err-keep_printouts.status
    (subst (λ (ps : List BootPrinter). CannotKeep (printouts_at c.args.out.now s (printer_addresses ps)) (seen c.keep_transcripts.new.shelf) (seen c.keep_printouts.new.shelf) c.in-Err-keep_printouts.status)
    (c.deref.ensures.value ∙ ap (λ (b : BootState). b.printers) c.boot.view_is) c.in-Err-keep_printouts.ensures.err))

pub returns-in-Ok-keep_images-clause-ok : goal.returns-in-Ok-keep_images-clause-ok
returns-in-Ok-keep_images-clause-ok g c =
    let s = g.S.Shared.store (g.S.Shared.meaning c.args.stores.now) in
    let files = g.F.Shelf.files c.args.shelf.now in
    let transcripts = transcripts_to c.args.out.now s 12 in
    let printouts = printouts_at c.args.out.now s (printer_addresses c.args.boot.now.printers) in
    let images = images_at c.args.out.now s (platter_addresses c.args.boot.now.platters) in
    c.in-Ok-keep_images.ensures.ok
    ∙ ap (λ (ps : List BootPlatter). with_files (images_at c.args.out.now s (platter_addresses ps)) (g.F.Shelf.files c.keep_printouts.new.shelf)) (c.deref-2.ensures.value ∙ ap (λ (b : BootState). b.platters) c.boot.view_is)
    ∙ ap (with_files images)
    (c.in-Ok-keep_printouts.ensures.ok
    ∙ ap (λ (ps : List BootPrinter). with_files (printouts_at c.args.out.now s (printer_addresses ps)) (g.F.Shelf.files c.keep_transcripts.new.shelf)) (c.deref.ensures.value ∙ ap (λ (b : BootState). b.printers) c.boot.view_is)
    ∙ ap (with_files printouts) c.in-Ok.ensures.ok)
    ∙ sym (with_files_append transcripts (printouts ++ images) files ∙ with_files_append printouts images (with_files transcripts files))

pub returns-in-Err-keep_images-clause-err : goal.returns-in-Err-keep_images-clause-err
returns-in-Err-keep_images-clause-err g c =
    let seen = shelf_seen g.F.Shelf.files g.F.Shelf.faults g.F.Shelf.misses g.F.Shelf.longs in
    let s = g.S.Shared.store (g.S.Shared.meaning c.args.stores.now) in
    let printouts = printouts_at c.args.out.now s (printer_addresses c.args.boot.now.printers) in
    let images = images_at c.args.out.now s (platter_addresses c.args.boot.now.platters) in
    then_fail (transcripts_to c.args.out.now s 12) (printouts ++ images) (seen c.args.shelf.now) (seen c.keep_transcripts.new.shelf) (seen c.keep_images.new.shelf)
    c.in-Err-keep_images.status c.in-Ok.ensures.ok c.keep_transcripts.ensures.faults
    (then_fail printouts images (seen c.keep_transcripts.new.shelf) (seen c.keep_printouts.new.shelf) (seen c.keep_images.new.shelf) c.in-Err-keep_images.status
    (c.in-Ok-keep_printouts.ensures.ok
    ∙ ap (λ (ps : List BootPrinter). with_files (printouts_at c.args.out.now s (printer_addresses ps)) (g.F.Shelf.files c.keep_transcripts.new.shelf)) (c.deref.ensures.value ∙ ap (λ (b : BootState). b.printers) c.boot.view_is))
    c.keep_printouts.ensures.faults
    (subst (λ (ps : List BootPlatter). CannotKeep (images_at c.args.out.now s (platter_addresses ps)) (seen c.keep_printouts.new.shelf) (seen c.keep_images.new.shelf) c.in-Err-keep_images.status)
    (c.deref-2.ensures.value ∙ ap (λ (b : BootState). b.platters) c.boot.view_is) c.in-Err-keep_images.ensures.err))
