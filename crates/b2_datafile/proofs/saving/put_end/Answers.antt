use Rattle.std.proofs.Common.{◌≡◌, ◌∙◌, ◌+◌, ◌-◌, ℕ, List, length, ap}
use Rattle.std.specs.FinMap.{get, insert}
use Rattle.b2_platter.specs.Layout.{layout_of}
use Rattle.b2_platter.specs.Edits.{put_sector}
use Rattle.b2_catalog.specs.Catalogue.{Catalogue, catalogue}
use Rattle.b2_catalog.specs.Changes.{control_sector}
use Rattle.b2_catalog.proofs.DataSectors.{in-image, catalogue-kept}
use Rattle.b2_record.specs.EndSector.{end_mark}
use Rattle.b2_datafile.proofs.Saved.{with_end-own}
use Rattle.b2_datafile.proofs.saving.put_end.Goals as goal

pub put_file-requires : goal.put_file-requires
put_file-requires c = (in-image c.args.p.now c.args.e.name c.args.e c.image-image.ensures.good c.requires.file).own c.args.pos c.requires.low c.requires.high

pub set_used-requires-clause-there : goal.set_used-requires-clause-there
set_used-requires-clause-there c =
    let own = (in-image c.args.p.now c.args.e.name c.args.e c.image-image.ensures.good c.requires.file).own c.args.pos c.requires.low c.requires.high in
    ap (λ files. get files c.args.e.name) (ap catalogue c.put_file.ensures ∙ catalogue-kept c.args.p.now c.image-image.ensures.good c.args.pos own c.end_mark.result (ap length c.end_mark.ensures)) ∙ c.requires.file

pub returns-clause-files : goal.returns-clause-files
returns-clause-files c =
    let own = (in-image c.args.p.now c.args.e.name c.args.e c.image-image.ensures.good c.requires.file).own c.args.pos c.requires.low c.requires.high in
    let kept = ap catalogue c.put_file.ensures ∙ catalogue-kept c.args.p.now c.image-image.ensures.good c.args.pos own c.end_mark.result (ap length c.end_mark.ensures) in
    c.set_used.ensures.catalogue ∙ ap (λ (files : Catalogue). insert files c.args.e.name (record c.args.e { used = c.args.pos - c.args.e.start + 1 })) kept

pub returns-clause-image : goal.returns-clause-image
returns-clause-image c =
    let between : c.put_file.new.self ≡ put_sector c.args.p.now c.args.pos end_mark = c.put_file.ensures ∙ ap (put_sector c.args.p.now c.args.pos) c.end_mark.ensures in
    c.set_used.ensures.image
    ∙ (ap (λ (q : List ℕ). put_sector q c.args.e.end (control_sector (layout_of q) (c.args.pos - c.args.e.start + 1))) between
    ∙ with_end-own c.args.p.now c.args.e c.args.pos (record { good = c.image-image.ensures.good; file = c.requires.file; low = c.requires.low; high = c.requires.high }))
