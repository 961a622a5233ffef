use Rattle.std.proofs.Common.{◌≡◌, arith, sym}
use Rattle.b2_platter.specs.Layout.{layout_of}
use Rattle.b2_platter.proofs.Goodness.{Parts-of}
use Rattle.b2_catalog.proofs.Rows.{sector_above, first_sector}
use Rattle.b2_catalog.proofs.additions.index_sector.Goals as goal

pub sector-sector-requires : goal.sector-sector-requires
sector-sector-requires c = let parts = Parts-of (layout_of c.args.p.now) c.args.p.now c.image.ensures.good in rw c.image.ensures.value (omega arith)

pub returns-then-s-gt0 : goal.returns-then-s-gt0
returns-then-s-gt0 c =
    let parts = Parts-of (layout_of c.args.p.now) c.args.p.now c.image.ensures.good in
    rw (c.sector-sector.ensures, c.image.ensures.value) (sym (sector_above c.args.p.now 0 c.args.head.now c.told-head (omega arith) c.args.s (omega arith)))

pub returns : goal.returns
returns c =
    let parts = Parts-of (layout_of c.args.p.now) c.args.p.now c.image.ensures.good in
    let zero_is : c.args.s ≡ 0 = omega arith in
    rw (c.with_row.ensures, c.sector-sector.ensures, c.image.ensures.value, zero_is) (sym (first_sector c.args.p.now c.args.head.now c.told-head (omega arith)))
