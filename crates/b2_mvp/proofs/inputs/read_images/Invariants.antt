use Rattle.std.proofs.Common.{◌≡◌, true, drop, take}
use Rattle.std.specs.List.{list_all}
use Rattle.b2_base.specs.Seen.{shelf_seen, Later}
use Rattle.b2_boot.specs.Boots.{is_platter}
use Rattle.b2_mvp.specs.Inputs.{HaveImages}
use Rattle.b2_mvp.proofs.inputs.read_images.Given as goal

-- the platters so far have their images, and those that are left are platters of a boot
abbrev pub invariant-loop-platter : goal.invariant-loop-platter
invariant-loop-platter g l =
    let seen = shelf_seen g.F.Shelf.files g.F.Shelf.faults g.F.Shelf.misses g.F.Shelf.longs in
    record {
      good : list_all is_platter (drop l.platter-index l.platters) ≡ true;
      same : g.F.Shelf.files l.shelf ≡ g.F.Shelf.files l.fn.shelf;
      later : Later (seen l.fn.shelf) (seen l.shelf);
      have : HaveImages (g.F.Shelf.files l.fn.shelf) (take l.platter-index l.platters) l.images.items;
    }
