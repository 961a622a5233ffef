use Rattle.std.proofs.Common.{ap, ◌∙◌, rules}
use Rattle.b2_platter.specs.Layout.{layout_of}
use Rattle.b2_platter.specs.Edits.{CanFormat}
use Rattle.b2_catalog.specs.Catalogue.{catalogue}
use Rattle.b2_catalog.proofs.Formats.{catalogue-formatted}
use Rattle.b2_catalog.proofs.plain.format.Goals as goal

pub returns-clause-empties : goal.returns-clause-empties
returns-clause-empties c =
    let can : CanFormat (layout_of c.args.p.now) c.args.p.now c.args.index c.args.end = search rules in
    ap catalogue c.put_index.ensures ∙ catalogue-formatted c.args.p.now c.args.index c.args.end c.sectors.ensures.good can
