use Rattle.std.proofs.Common.{◌≡◌, arith, ap, ◌∙◌}
use Rattle.b2_platter.specs.Layout.{layout_of}
use Rattle.b2_platter.specs.Edits.{put_sector}
use Rattle.b2_platter.proofs.Layouts.{own_fits}
use Rattle.b2_catalog.specs.Catalogue.{catalogue}
use Rattle.b2_catalog.specs.Changes.{control_sector}
use Rattle.b2_catalog.proofs.DataSectors.{in-image}
use Rattle.b2_catalog.proofs.Using.{used-good, used-files}
use Rattle.b2_catalog.proofs.changes.set_used.Goals as goal

pub prove-unreachable-requires : goal.prove-unreachable-requires
prove-unreachable-requires c =
    let inside = in-image c.args.p.now c.args.e.name c.args.e c.sectors-sectors.ensures.good c.requires.there in
    omega (arith, inside.within, c.sectors-sectors.ensures.value)

pub control_sector-control-requires : goal.control_sector-control-requires
control_sector-control-requires c =
    let inside = in-image c.args.p.now c.args.e.name c.args.e c.sectors-sectors.ensures.good c.requires.there in
    rw c.layout.ensures (own_fits c.args.p.now c.sectors-sectors.ensures.good _ (omega (arith, inside.within, c.requires.few)))

pub put_catalogue-requires-clause-good : goal.put_catalogue-requires-clause-good
put_catalogue-requires-clause-good c =
    rw (c.control_sector-control.ensures, c.layout.ensures) (used-good c.args.p.now c.args.e c.sectors-sectors.ensures.good c.requires.there c.args.used c.requires.some c.requires.few)

pub returns-clause-catalogue : goal.returns-clause-catalogue
returns-clause-catalogue c =
    let control : c.control_sector-control.result ≡ control_sector (layout_of c.args.p.now) c.args.used = rw (← c.layout.ensures) c.control_sector-control.ensures in
    ap catalogue (c.put_catalogue.ensures ∙ ap (put_sector c.args.p.now c.args.e.end) control)
    ∙ used-files c.args.p.now c.args.e c.sectors-sectors.ensures.good c.requires.there c.args.used c.requires.some c.requires.few
