use Rattle.std.proofs.Common.{◌≡◌, ◌∙◌, drop, sym}
use Rattle.std.specs.List.{list_all}
use Rattle.b2_platter.specs.Layout.{is_zero}
use Rattle.b2_record.proofs.EndSector.{mark-told, mark-zeros}
use Rattle.b2_record.proofs.end_sector.is_end_mark.Goals as goal

pub returns-then-sector-eq-END_MARK : goal.returns-then-sector-eq-END_MARK
returns-then-sector-eq-END_MARK c =
    let told : c.all_zero.result ≡ list_all is_zero (drop 1 c.args.sector.now) = cc in (
      λ zeros. mark-told c.args.sector.now c.told-sector c.if-sector-eq-END_MARK.true (sym told ∙ zeros),
      λ same. told ∙ mark-zeros c.args.sector.now same,
    )
