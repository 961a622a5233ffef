-- A sector after the catalogue is put in place: what stays, in the image's own layout.
use Rattle.std.proofs.Common.{◌≡◌, ℕ, ◌<◌, ◌≤◌, List, length, ap, ◌∙◌}
use Rattle.b2_platter.specs.declared.layout.Layout.{Layout}
use Rattle.b2_platter.specs.Layout.{layout_of}
use Rattle.b2_platter.specs.Image.{catalogue_end, total_of}
use Rattle.b2_platter.specs.Checks.{IsGood}
use Rattle.b2_platter.specs.Own.{end_of, sectors_of}
use Rattle.b2_platter.specs.Edits.{put_sector}
use Rattle.b2_platter.proofs.Layouts.{own_good, same_layout}
use Rattle.b2_platter.proofs.SpareSectors.{spare-good, spare-end, spare-total}

module _ (image : List ℕ) (good : IsGood image) (n : ℕ) (low : end_of image ≤ n) (high : n < sectors_of image) (bytes : List ℕ) (long : length bytes ≡ 256) where
  layout-kept : layout_of (put_sector image n bytes) ≡ layout_of image
  layout-kept = same_layout image (put_sector image n bytes) (spare-good (layout_of image) image good n low high bytes long)

  pub own-good : IsGood (put_sector image n bytes)
  own-good = own_good (layout_of image) (put_sector image n bytes) (spare-good (layout_of image) image good n low high bytes long)

  pub own-end : end_of (put_sector image n bytes) ≡ end_of image
  own-end = ap (λ (l : Layout). catalogue_end l (put_sector image n bytes)) layout-kept ∙ spare-end (layout_of image) image good n low high bytes long

  pub own-total : sectors_of (put_sector image n bytes) ≡ sectors_of image
  own-total = ap (λ (l : Layout). total_of l (put_sector image n bytes)) layout-kept ∙ spare-total (layout_of image) image good n low high bytes long
