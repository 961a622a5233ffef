use Rattle.std.proofs.Common.{◌∙◌, ◌-◌, ℕ, List, sym, ap, ap₂, arith}
use Rattle.std.specs.FinMap.{insert}
use Rattle.b2_catalog.specs.Catalogue.{Catalogue, catalogue}
use Rattle.b2_platter.specs.Image.{sectors_at}
use Rattle.b2_progfile.specs.Moving.{own_sectors}
use Rattle.b2_catalog.proofs.DataSectors.{in-image}
use Rattle.b2_progfile.proofs.Copies.{sectors-length, sectors-long}
use Rattle.b2_progfile.proofs.Filling.{files-stay, still-there, filled-own, filled-with-there}
use Rattle.b2_progfile.proofs.moving.copy_sectors.Goals as goal

pub overflow_sub-count : goal.overflow_sub-count
overflow_sub-count c = let source = in-image c.args.from.now c.args.e.now.name c.args.e.now c.image-source.ensures.good c.requires.source in omega (arith, source.order)

pub put_copies-requires-clause-within : goal.put_copies-requires-clause-within
put_copies-requires-clause-within c = let source = in-image c.args.from.now c.args.e.now.name c.args.e.now c.image-source.ensures.good c.requires.source in omega (arith, source.order, source.within)

pub put_copies-requires-clause-sectors : goal.put_copies-requires-clause-sectors
put_copies-requires-clause-sectors c = λ n low high.
    (in-image c.args.to.now c.args.new.name c.args.new c.image-target.ensures.good c.requires.file).own n low (omega (arith, high, c.requires.same))

pub set_used-requires-clause-there : goal.set_used-requires-clause-there
set_used-requires-clause-there c =
    let source = in-image c.args.from.now c.args.e.now.name c.args.e.now c.image-source.ensures.good c.requires.source in
    let n = sectors-length c.args.from.now c.args.e.now.start (c.args.e.now.end - c.args.e.now.start) in
    let long = sectors-long c.args.from.now c.args.e.now.start (c.args.e.now.end - c.args.e.now.start) c.image-source.ensures.good (omega (arith, source.order, source.within)) in
    rw c.put_copies.ensures (still-there c.args.to.now c.args.new (own_sectors c.args.from.now c.args.e.now) c.image-target.ensures.good c.requires.file long (omega (arith, n, c.requires.same)))

pub set_used-requires-clause-some : goal.set_used-requires-clause-some
set_used-requires-clause-some c = (in-image c.args.from.now c.args.e.now.name c.args.e.now c.image-source.ensures.good c.requires.source).used

pub set_used-requires-clause-few : goal.set_used-requires-clause-few
set_used-requires-clause-few c = let source = in-image c.args.from.now c.args.e.now.name c.args.e.now c.image-source.ensures.good c.requires.source in omega (arith, source.few, c.requires.same)

pub returns-clause-image : goal.returns-clause-image
returns-clause-image c =
    let source = in-image c.args.from.now c.args.e.now.name c.args.e.now c.image-source.ensures.good c.requires.source in
    let n = sectors-length c.args.from.now c.args.e.now.start (c.args.e.now.end - c.args.e.now.start) in
    let long = sectors-long c.args.from.now c.args.e.now.start (c.args.e.now.end - c.args.e.now.start) c.image-source.ensures.good (omega (arith, source.order, source.within)) in
    filled-own c.args.to.now c.args.new (own_sectors c.args.from.now c.args.e.now) c.image-target.ensures.good c.requires.file long (omega (arith, n, c.requires.same)) c.args.e.now.used c.put_copies.new.p c.set_used.new.p c.put_copies.ensures c.set_used.ensures.image

pub returns-clause-files : goal.returns-clause-files
returns-clause-files c =
    let source = in-image c.args.from.now c.args.e.now.name c.args.e.now c.image-source.ensures.good c.requires.source in
    let n = sectors-length c.args.from.now c.args.e.now.start (c.args.e.now.end - c.args.e.now.start) in
    let long = sectors-long c.args.from.now c.args.e.now.start (c.args.e.now.end - c.args.e.now.start) c.image-source.ensures.good (omega (arith, source.order, source.within)) in
    let stay = files-stay c.args.to.now c.args.new (own_sectors c.args.from.now c.args.e.now) c.image-target.ensures.good c.requires.file long (omega (arith, n, c.requires.same)) in
    c.set_used.ensures.catalogue ∙ ap (λ (files : Catalogue). insert files c.args.new.name (record c.args.new { used = c.args.e.now.used })) (ap catalogue c.put_copies.ensures ∙ stay)

pub returns-clause-kept : goal.returns-clause-kept
returns-clause-kept c =
    let source = in-image c.args.from.now c.args.e.now.name c.args.e.now c.image-source.ensures.good c.requires.source in
    let n = sectors-length c.args.from.now c.args.e.now.start (c.args.e.now.end - c.args.e.now.start) in
    let long = sectors-long c.args.from.now c.args.e.now.start (c.args.e.now.end - c.args.e.now.start) c.image-source.ensures.good (omega (arith, source.order, source.within)) in
    let image = filled-own c.args.to.now c.args.new (own_sectors c.args.from.now c.args.e.now) c.image-target.ensures.good c.requires.file long (omega (arith, n, c.requires.same)) c.args.e.now.used c.put_copies.new.p c.set_used.new.p c.put_copies.ensures c.set_used.ensures.image in
    ap₂ (λ (q : List ℕ) (m : ℕ). sectors_at q c.args.new.start m) image (sym n)
    ∙ filled-with-there c.args.to.now c.args.new (own_sectors c.args.from.now c.args.e.now) c.image-target.ensures.good c.requires.file long (omega (arith, n, c.requires.same)) c.args.e.now.used
