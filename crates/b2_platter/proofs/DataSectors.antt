-- A data sector of a file is put in place: the image stays good, and the index and all other sectors stay.
use Rattle.std.proofs.Common.{◌≡◌, ℕ, ◌+◌, ◌-◌, ◌*◌, ◌<◌, ◌≤◌, true, List, length, sym, ap, inl, inr, arith}
use Rattle.std.proofs.lemmas.Bool.{cases_order}
use Rattle.b2_platter.specs.declared.layout.Layout.{Layout}
use Rattle.b2_platter.specs.Image.{row, sector, index_of}
use Rattle.b2_platter.specs.Checks.{Good}
use Rattle.b2_platter.specs.Edits.{put_sector, holds_data, is_data_sector}
use Rattle.b2_platter.proofs.Ranges.{list_any-same}
use Rattle.b2_platter.proofs.Goodness.{Parts-of}
use Rattle.b2_platter.proofs.Kept.{data_low, data_room, index-same, put_file_good}
use Rattle.b2_platter.proofs.Puts.{row_before, sector_before, sector_after, sector_same}

module _ (layout : Layout) (image : List ℕ) (good : Good layout image) (n : ℕ) (within : is_data_sector layout image n ≡ true) (bytes : List ℕ) (long : length bytes ≡ 256) where
  room : 256 * n + 256 ≤ length image
  room = data_room layout image good n within

  pub rows-kept : (k : ℕ) → k < 16 * index_of image → row (put_sector image n bytes) k ≡ row image k
  rows-kept k h = row_before image n bytes long room k (let low = data_low layout image good n within in omega arith)

  pub index-kept : index_of (put_sector image n bytes) ≡ index_of image
  index-kept = index-same layout image (put_sector image n bytes) (rows-kept 0 (let some = (Parts-of layout image good).some in omega arith))

  pub data-kept : (m : ℕ) → is_data_sector layout (put_sector image n bytes) m ≡ is_data_sector layout image m
  unfolding is_data_sector
  data-kept m =
      rw index-kept (list_any-same _ _ 1 (16 * index_of image - 1) (λ k l h. ap (λ (r : List ℕ). holds_data layout r m) (rows-kept k (omega (arith, l, h)))))

  pub sector-kept : (m : ℕ) → (n ≡ m → ⊥) → sector (put_sector image n bytes) m ≡ sector image m
  sector-kept m other =
      elim (cases_order m n) as (λ _. sector (put_sector image n bytes) m ≡ sector image m) [
        | inl at ↦ absurd (other (sym at))
        | inr unequal ↦ elim unequal as (λ _. sector (put_sector image n bytes) m ≡ sector image m) [
          | inl less ↦ sector_before image n bytes long room m less
          | inr more ↦ sector_after image n bytes long room m more
        ]
      ]

  pub sector-put : sector (put_sector image n bytes) n ≡ bytes
  sector-put = sector_same image n bytes long room

  pub good-kept : Good layout (put_sector image n bytes)
  good-kept = put_file_good layout image good n within bytes long
