use Rattle.std.proofs.Common.{◌≡◌, ◌/◌, ◌%◌, ℕ, List, arith, ◌∙◌, sym, subst, refl}
use Rattle.b2_platter.specs.Layout.{layout_of}
use Rattle.b2_platter.specs.Image.{sector}
use Rattle.b2_platter.specs.Checks.{IsGood}
use Rattle.b2_platter.proofs.Goodness.{Parts-of}
use Rattle.b2_platter.proofs.Layouts.{few_sectors}
use Rattle.b2_catalog.specs.Changes.{put_row}
use Rattle.b2_catalog.proofs.Scratching.{one_edit, row_in_sector}
use Rattle.b2_catalog.proofs.changes.put_row.Goals as goal

pub sector-requires : goal.sector-requires
sector-requires c = let parts = Parts-of (layout_of c.args.p.now) c.args.p.now c.image.ensures.good in rw c.image.ensures.value (omega arith)

pub overflow_cast-k : goal.overflow_cast-k
overflow_cast-k c =
    let parts = Parts-of (layout_of c.args.p.now) c.args.p.now c.image.ensures.good in
    let few = few_sectors c.args.p.now c.image.ensures.good in
    omega (arith, parts.rest, few)

pub put_catalogue-requires-clause-in_range : goal.put_catalogue-requires-clause-in_range
put_catalogue-requires-clause-in_range c =
    let parts = Parts-of (layout_of c.args.p.now) c.args.p.now c.image.ensures.good in one_edit (c.args.k / 16) _ c.with_row-own.result (omega arith)

pub put_catalogue-requires-clause-good : goal.put_catalogue-requires-clause-good
put_catalogue-requires-clause-good c =
    let parts = Parts-of (layout_of c.args.p.now) c.args.p.now c.image.ensures.good in
    let own : c.with_row-own.result ≡ put_row (sector c.args.p.now (c.args.k / 16)) (c.args.k % 16) c.args.row.now = rw (c.with_row-own.ensures, c.sector.ensures, c.image.ensures.value) refl in
    subst (λ (xs : List ℕ). IsGood xs) (sym (row_in_sector c.args.p.now c.with_row-own.result c.args.row.now c.args.k (omega arith) own)) c.requires.good

pub returns : goal.returns
returns c =
    let parts = Parts-of (layout_of c.args.p.now) c.args.p.now c.image.ensures.good in
    let own : c.with_row-own.result ≡ put_row (sector c.args.p.now (c.args.k / 16)) (c.args.k % 16) c.args.row.now = rw (c.with_row-own.ensures, c.sector.ensures, c.image.ensures.value) refl in
    c.put_catalogue.ensures ∙ row_in_sector c.args.p.now c.with_row-own.result c.args.row.now c.args.k (omega arith) own
