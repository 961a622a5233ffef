-- A data sector of a file is put in place: what stays, in the image's own layout.
use Rattle.std.proofs.Common.{◌≡◌, ℕ, true, List, length, ap, ◌∙◌}
use Rattle.b2_platter.specs.declared.layout.Layout.{Layout}
use Rattle.b2_platter.specs.Layout.{layout_of}
use Rattle.b2_platter.specs.Checks.{IsGood}
use Rattle.b2_platter.specs.Edits.{put_sector, is_data_sector}
use Rattle.b2_platter.proofs.DataSectors.{data-kept, good-kept}
use Rattle.b2_platter.proofs.Layouts.{own_good, same_layout}

module _ (image : List ℕ) (good : IsGood image) (n : ℕ) (within : is_data_sector (layout_of image) image n ≡ true) (bytes : List ℕ) (long : length bytes ≡ 256) where
  pub layout-kept : layout_of (put_sector image n bytes) ≡ layout_of image
  layout-kept = same_layout image (put_sector image n bytes) (good-kept (layout_of image) image good n within bytes long)

  pub own-good : IsGood (put_sector image n bytes)
  own-good = own_good (layout_of image) (put_sector image n bytes) (good-kept (layout_of image) image good n within bytes long)

  pub own-data : (m : ℕ) → is_data_sector (layout_of (put_sector image n bytes)) (put_sector image n bytes) m ≡ is_data_sector (layout_of image) image m
  own-data m = ap (λ (l : Layout). is_data_sector l (put_sector image n bytes) m) layout-kept ∙ data-kept (layout_of image) image good n within bytes long m
