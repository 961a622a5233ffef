-- Sectors after the catalogue are put in place one after the other: what stays, and what they are.
use Rattle.std.proofs.Common.{ℕ, ◌+◌, ◌<◌, ◌≤◌, List, [], ◌∷◌, length, refl, ap₂, ◌∙◌, arith}
use Rattle.b2_platter.specs.declared.layout.Layout.{Layout}
use Rattle.b2_platter.specs.Image.{total_of, catalogue_end}
use Rattle.b2_platter.specs.Checks.{Good}
use Rattle.b2_platter.specs.Edits.{put_sector, put_from}
use Rattle.b2_platter.proofs.SectorRuns.{AllLong, PutFrom}
use Rattle.b2_platter.proofs.SpareSectors.{spare-rows, spare-index, spare-end, spare-total, spare-other, spare-put, spare-good}

pub put-spares : (layout : Layout) (image : List ℕ) (at : ℕ) (sectors : List (List ℕ)) → Good layout image → AllLong sectors → catalogue_end layout image ≤ at → at + length sectors ≤ total_of layout image
    → PutFrom layout image (put_from image at sectors) at sectors
put-spares layout image at [] good long low high = record { good = good; before = λ k h. refl; after = λ k h. refl; rows = λ k h. refl; there = refl }
put-spares layout image at (s ∷ sectors) good long low high =
    let inside : at < total_of layout image = omega (arith, high) in
    let end = spare-end layout image good at low inside s long.0 in
    let total = spare-total layout image good at low inside s long.0 in
    let rest = put-spares layout (put_sector image at s) (at + 1) sectors (spare-good layout image good at low inside s long.0) long.1 (omega (arith, end, low)) (omega (arith, total, high)) in
    record {
      good = rest.good;
      before = λ k h. rest.before k (omega (arith, h)) ∙ spare-other layout image good at low inside s long.0 k (λ e. omega (arith, h, e));
      after = λ k h. rest.after k (omega (arith, h)) ∙ spare-other layout image good at low inside s long.0 k (λ e. omega (arith, h, e));
      rows = λ k h. (let same = spare-index layout image good at low inside s long.0 in rest.rows k (omega (arith, h, same)) ∙ spare-rows layout image good at low inside s long.0 k h);
      there = ap₂ (λ t ts. t ∷ ts) (rest.before at (omega arith) ∙ spare-put layout image good at low inside s long.0) rest.there;
    }
