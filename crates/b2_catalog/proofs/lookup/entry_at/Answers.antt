use Rattle.std.proofs.Common.{refl}
use Rattle.b2_platter.specs.Image.{row}
use Rattle.b2_catalog.specs.Catalogue.{entry_at}
use Rattle.b2_catalog.proofs.Looking.{FileSlot-from, Holds-from}
use Rattle.b2_catalog.proofs.lookup.entry_at.Goals as goal

pub row-slot-requires : goal.row-slot-requires
row-slot-requires c = rw c.image.ensures.value (FileSlot-from c.args.p.now c.args.name c.args.k c.image.ensures.good c.requires).room

pub sector-requires : goal.sector-requires
sector-requires c =
    rw (c.last_sector-end.ensures, c.layout-layout.ensures, c.row-slot.ensures, c.image.ensures.value) (FileSlot-from c.args.p.now c.args.name c.args.k c.image.ensures.good c.requires).within

pub returns-clause-value : goal.returns-clause-value
unfolding entry_at
returns-clause-value c =
    let same = (Holds-from c.args.name (row c.args.p.now c.args.k) c.requires.held).same in
    rw (c.is_live.ensures, c.is_program.ensures, c.first_sector.ensures, c.used.ensures, c.sector.ensures.value, c.last_sector-end.ensures, c.layout-layout.ensures, c.row-slot.ensures, c.image.ensures.value, same) refl
