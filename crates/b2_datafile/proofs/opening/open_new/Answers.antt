use Rattle.std.proofs.Common.{◌∙◌, List, ℕ, ap}
use Rattle.std.specs.Prelude.{is_some}
use Rattle.std.specs.FinMap.{get, insert}
use Rattle.b2_catalog.specs.declared.entry.Entry.{Entry}
use Rattle.b2_catalog.specs.Catalogue.{Catalogue, catalogue}
use Rattle.b2_catalog.specs.Making.{files_without}
use Rattle.b2_catalog.proofs.DataSectors.{in-image}
use Rattle.b2_catalog.proofs.MadeFiles.{put-twice}
use Rattle.b2_datafile.proofs.Saved.{new-whole, new-files, new-there, new-others}
use Rattle.b2_datafile.proofs.Opened.{opened-value, opened-refused}
use Rattle.b2_datafile.proofs.opening.open_new.Goals as goal

pub put_end-requires-clause-high : goal.put_end-requires-clause-high
put_end-requires-clause-high c = (in-image c.make_file.new.p c.in-Ok.e.name c.in-Ok.e c.image-image.ensures.good c.in-Ok.ensures.file).order

pub returns-clause-image : goal.returns-clause-image
returns-clause-image c = record { e = c.in-Ok.e; between = c.make_file.new.p; made = c.in-Ok.ensures.made; same = c.put_end.ensures.image }

pub returns-clause-there : goal.returns-clause-there
returns-clause-there c =
    let there = new-there c.make_file.new.p c.args.name c.in-Ok.e c.image-image.ensures.good c.in-Ok.ensures.file c.in-Ok.ensures.named in
    ap (λ (p : List ℕ). is_some (get (catalogue p) c.args.name)) c.put_end.ensures.image ∙ ap is_some there

pub returns-clause-file : goal.returns-clause-file
returns-clause-file c =
    let there = new-there c.make_file.new.p c.args.name c.in-Ok.e c.image-image.ensures.good c.in-Ok.ensures.file c.in-Ok.ensures.named in
    rw (c.put_end.ensures.image, there) c.slot_of-slot.ensures

pub returns-clause-whole : goal.returns-clause-whole
returns-clause-whole c =
    let there = new-there c.make_file.new.p c.args.name c.in-Ok.e c.image-image.ensures.good c.in-Ok.ensures.file c.in-Ok.ensures.named in
    rw (c.put_end.ensures.image, there) (new-whole c.make_file.new.p c.in-Ok.e c.image-image.ensures.good c.in-Ok.ensures.file)

pub returns-clause-files : goal.returns-clause-files
returns-clause-files c =
    let one : Entry = record c.in-Ok.e { used = 1 } in
    let there = new-there c.make_file.new.p c.args.name c.in-Ok.e c.image-image.ensures.good c.in-Ok.ensures.file c.in-Ok.ensures.named in
    rw (c.put_end.ensures.image, there)
    (new-files c.make_file.new.p c.in-Ok.e c.image-image.ensures.good c.in-Ok.ensures.file
    ∙ (ap (λ name. insert (catalogue c.make_file.new.p) name one) c.in-Ok.ensures.named
    ∙ (ap (λ (m : Catalogue). insert m c.args.name one) c.in-Ok.ensures.files ∙ put-twice (files_without c.args.p.now c.args.old) c.args.name c.in-Ok.e one)))

pub returns-clause-others : goal.returns-clause-others
returns-clause-others c =
    let there = new-there c.make_file.new.p c.args.name c.in-Ok.e c.image-image.ensures.good c.in-Ok.ensures.file c.in-Ok.ensures.named in
    rw (c.put_end.ensures.image, there) (λ n low out. new-others c.make_file.new.p c.in-Ok.e c.image-image.ensures.good c.in-Ok.ensures.file n out ∙ c.in-Ok.ensures.others n low out)

pub returns-clause-value : goal.returns-clause-value
returns-clause-value c =
    opened-value c.args.p.now c.args.addr c.args.old c.args.sectors c.args.name c.make_file.new.p c.in-Ok.e c.put_end.new.p c.slot_of-slot.result c.in-Ok.ensures.value c.put_end.ensures.image c.slot_of-slot.ensures

pub returns-in-Err-clause-refused : goal.returns-in-Err-clause-refused
returns-in-Err-clause-refused c = opened-refused c.args.p.now c.args.addr c.args.old c.args.sectors c.args.name c.in-Err.code c.in-Err.ensures.refused
