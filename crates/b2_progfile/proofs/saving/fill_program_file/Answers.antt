use Rattle.std.proofs.Common.{◌∙◌, ◌+◌, ◌≤◌, ℕ, List, length, sym, ap, ap₂, arith}
use Rattle.std.specs.FinMap.{insert}
use Rattle.b2_platter.specs.Layout.{layout_of}
use Rattle.b2_platter.specs.Image.{sector, sectors_at}
use Rattle.b2_platter.specs.Edits.{put_sector}
use Rattle.b2_catalog.specs.Catalogue.{Catalogue, catalogue}
use Rattle.b2_catalog.specs.Changes.{control_sector}
use Rattle.b2_progfile.specs.Saving.{text_sectors}
use Rattle.b2_catalog.proofs.DataSectors.{in-image}
use Rattle.b2_progfile.proofs.Pieces.{pieces-length, pieces-long}
use Rattle.b2_progfile.proofs.Filling.{files-stay, filled-own, still-there, filled-others, filled-there}
use Rattle.b2_progfile.proofs.saving.fill_program_file.Goals as goal

pub put_pieces-requires-clause-sectors : goal.put_pieces-requires-clause-sectors
put_pieces-requires-clause-sectors c = λ n low high.
    (in-image c.args.p.now c.args.e.name c.args.e c.image-image.ensures.good c.requires.file).own n low (omega (arith, high, c.requires.room))

pub set_used-requires-clause-there : goal.set_used-requires-clause-there
set_used-requires-clause-there c =
    let n = c.requires.count ∙ sym (pieces-length c.args.bytes.now) in
    let room : c.args.e.start + length (text_sectors c.args.bytes.now) ≤ c.args.e.end = omega (arith, c.requires.room, n) in
    rw c.put_pieces.ensures (still-there c.args.p.now c.args.e (text_sectors c.args.bytes.now) c.image-image.ensures.good c.requires.file (pieces-long c.args.bytes.now) room)

pub returns-clause-image : goal.returns-clause-image
returns-clause-image c =
    let n = c.requires.count ∙ sym (pieces-length c.args.bytes.now) in
    let room : c.args.e.start + length (text_sectors c.args.bytes.now) ≤ c.args.e.end = omega (arith, c.requires.room, n) in
    filled-own c.args.p.now c.args.e (text_sectors c.args.bytes.now) c.image-image.ensures.good c.requires.file (pieces-long c.args.bytes.now) room (length (text_sectors c.args.bytes.now)) c.put_pieces.new.p c.set_used.new.p c.put_pieces.ensures
    (c.set_used.ensures.image ∙ ap (λ (m : ℕ). put_sector c.put_pieces.new.p c.args.e.end (control_sector (layout_of c.put_pieces.new.p) m)) n)

pub returns-clause-files : goal.returns-clause-files
returns-clause-files c =
    let n = c.requires.count ∙ sym (pieces-length c.args.bytes.now) in
    let room : c.args.e.start + length (text_sectors c.args.bytes.now) ≤ c.args.e.end = omega (arith, c.requires.room, n) in
    let stay = files-stay c.args.p.now c.args.e (text_sectors c.args.bytes.now) c.image-image.ensures.good c.requires.file (pieces-long c.args.bytes.now) room in
    c.set_used.ensures.catalogue ∙ ap (λ (files : Catalogue). insert files c.args.e.name (record c.args.e { used = c.args.count })) (ap catalogue c.put_pieces.ensures ∙ stay)

pub returns-clause-there : goal.returns-clause-there
returns-clause-there c =
    let n = c.requires.count ∙ sym (pieces-length c.args.bytes.now) in
    let room : c.args.e.start + length (text_sectors c.args.bytes.now) ≤ c.args.e.end = omega (arith, c.requires.room, n) in
    let image =
    filled-own c.args.p.now c.args.e (text_sectors c.args.bytes.now) c.image-image.ensures.good c.requires.file (pieces-long c.args.bytes.now) room (length (text_sectors c.args.bytes.now)) c.put_pieces.new.p c.set_used.new.p c.put_pieces.ensures
    (c.set_used.ensures.image ∙ ap (λ (m : ℕ). put_sector c.put_pieces.new.p c.args.e.end (control_sector (layout_of c.put_pieces.new.p) m)) n) in
    ap₂ (λ (q : List ℕ) (m : ℕ). sectors_at q c.args.e.start m) image n
    ∙ filled-there c.args.p.now c.args.e (text_sectors c.args.bytes.now) c.image-image.ensures.good c.requires.file (pieces-long c.args.bytes.now) room

pub returns-clause-others : goal.returns-clause-others
returns-clause-others c =
    let n = c.requires.count ∙ sym (pieces-length c.args.bytes.now) in
    let room : c.args.e.start + length (text_sectors c.args.bytes.now) ≤ c.args.e.end = omega (arith, c.requires.room, n) in
    let image =
    filled-own c.args.p.now c.args.e (text_sectors c.args.bytes.now) c.image-image.ensures.good c.requires.file (pieces-long c.args.bytes.now) room (length (text_sectors c.args.bytes.now)) c.put_pieces.new.p c.set_used.new.p c.put_pieces.ensures
    (c.set_used.ensures.image ∙ ap (λ (m : ℕ). put_sector c.put_pieces.new.p c.args.e.end (control_sector (layout_of c.put_pieces.new.p) m)) n) in
    λ m low out. ap (λ (q : List ℕ). sector q m) image
    ∙ filled-others c.args.p.now c.args.e (text_sectors c.args.bytes.now) c.image-image.ensures.good c.requires.file (pieces-long c.args.bytes.now) room (length (text_sectors c.args.bytes.now)) m out
