use Rattle.std.proofs.Common.{refl}
use Rattle.b2_platter.specs.Slot.{slot_name}
use Rattle.b2_platter.specs.Image.{row}
use Rattle.b2_catalog.proofs.Looking.{FileSlot-from, has_name-from}
use Rattle.b2_catalog.proofs.lines.push_file.Goals as goal

pub row-slot-requires : goal.row-slot-requires
row-slot-requires c =
    rw c.image.ensures.value (FileSlot-from c.args.p.now (slot_name (row c.args.p.now c.args.k)) c.args.k c.image.ensures.good (record { low = c.requires.low; high = c.requires.high; held = has_name-from (slot_name (row c.args.p.now c.args.k)) (row c.args.p.now c.args.k) c.requires.entry refl })).room

pub sector-requires : goal.sector-requires
sector-requires c =
    rw (c.last_sector-end.ensures, c.layout-layout.ensures, c.row-slot.ensures, c.image.ensures.value) (FileSlot-from c.args.p.now (slot_name (row c.args.p.now c.args.k)) c.args.k c.image.ensures.good (record { low = c.requires.low; high = c.requires.high; held = has_name-from (slot_name (row c.args.p.now c.args.k)) (row c.args.p.now c.args.k) c.requires.entry refl })).within
