use Rattle.std.proofs.Common.{ap, ◌∙◌, sym, refl}
use Rattle.std.specs.Option.{option_map}
use Rattle.b2_catalog.specs.Catalogue.{entry_at}
use Rattle.b2_catalog.proofs.Looking.{FileSlot-from}
use Rattle.b2_catalog.proofs.Mapping.{get-catalogue}
use Rattle.b2_catalog.proofs.Maps.{get-at}
use Rattle.b2_catalog.proofs.Scratching.{scratched_good, catalogue-scratched}
use Rattle.b2_catalog.proofs.changes.scratch.Goals as goal

pub row-requires : goal.row-requires
row-requires c = rw c.image.ensures.value (FileSlot-from c.args.p.now c.args.name c.in-Some.k c.image.ensures.good c.in-Some.ensures.held).room

pub put_row-requires-clause-good : goal.put_row-requires-clause-good
put_row-requires-clause-good c =
    rw (c.scratched_slot-row.ensures, c.row.ensures, c.image.ensures.value) (scratched_good c.args.p.now c.image.ensures.good c.args.name c.in-Some.k c.in-Some.ensures.held)

pub returns-in_default-clause-err : goal.returns-in_default-clause-err
returns-in_default-clause-err c =
    (c.known.ensures, get-catalogue c.args.p.now c.args.name ∙ ap (option_map (entry_at c.args.p.now)) (sym c.in_default.ensures.slot), refl)

pub returns-clause-there : goal.returns-clause-there
returns-clause-there c =
    rw (get-at c.args.p.now c.image.ensures.good c.args.name c.in-Some.k c.in-Some.ensures.held) refl

pub returns-clause-ok : goal.returns-clause-ok
returns-clause-ok c =
    rw (c.put_row.ensures, c.scratched_slot-row.ensures, c.row.ensures, c.image.ensures.value) (catalogue-scratched c.args.p.now c.image.ensures.good c.args.name c.in-Some.k c.in-Some.ensures.held)
