-- A sector after the catalogue is put in place: the image stays good, and the index and all other sectors stay.
use Rattle.std.proofs.Common.{◌≡◌, ℕ, ◌+◌, ◌*◌, ◌<◌, ◌≤◌, true, List, length, sym, inl, inr, arith}
use Rattle.std.proofs.lemmas.Bool.{cases_order}
use Rattle.b2_platter.specs.declared.layout.Layout.{Layout}
use Rattle.b2_platter.specs.Slot.{is_entry, slot_end}
use Rattle.b2_platter.specs.Image.{row, image_head, sector, index_of, total_of, catalogue_end, next_free}
use Rattle.b2_platter.specs.Checks.{Good}
use Rattle.b2_platter.specs.Edits.{put_sector}
use Rattle.b2_platter.proofs.Rooms.{LiesIn-from}
use Rattle.b2_platter.proofs.Goodness.{Parts-of}
use Rattle.b2_platter.proofs.Soundness.{Sound-from_Good}
use Rattle.b2_platter.proofs.Kept.{index-same, end-same, total-same, kept_good}
use Rattle.b2_platter.proofs.Puts.{length-put_sector, row_before, sector_before, sector_after, sector_same}

-- every file ends before the catalogue does
pub files_end : (layout : Layout) (image : List ℕ) → Good layout image → (k : ℕ) → 1 ≤ k → k < 16 * index_of image → is_entry (row image k) ≡ true → slot_end layout (row image k) < catalogue_end layout image
files_end layout image good k low high e =
    let p = Parts-of layout image good in
    let lies = LiesIn-from layout (index_of image) (next_free layout image) (row image k) ((Sound-from_Good layout image good).lies k low high) e in
    omega (arith, lies.high, p.free)

module _ (layout : Layout) (image : List ℕ) (good : Good layout image) (n : ℕ) (low : catalogue_end layout image ≤ n) (high : n < total_of layout image) where
  pub spare_room : 256 * n + 256 ≤ length image
  spare_room = let p = Parts-of layout image good in omega (arith, high, p.whole)

  module _ (bytes : List ℕ) (long : length bytes ≡ 256) where
    pub spare-rows : (k : ℕ) → k < 16 * index_of image → row (put_sector image n bytes) k ≡ row image k
    spare-rows k below = row_before image n bytes long spare_room k (let p = Parts-of layout image good in omega (arith, below, low, p.files, p.free))

    pub spare-head : image_head (put_sector image n bytes) ≡ image_head image
    spare-head = spare-rows 0 (let p = Parts-of layout image good in omega (arith, p.some))

    pub spare-index : index_of (put_sector image n bytes) ≡ index_of image
    spare-index = index-same layout image (put_sector image n bytes) spare-head

    pub spare-end : catalogue_end layout (put_sector image n bytes) ≡ catalogue_end layout image
    spare-end = end-same layout image (put_sector image n bytes) spare-head

    pub spare-total : total_of layout (put_sector image n bytes) ≡ total_of layout image
    spare-total = total-same layout image (put_sector image n bytes) spare-head

    pub spare-other : (m : ℕ) → (n ≡ m → ⊥) → sector (put_sector image n bytes) m ≡ sector image m
    spare-other m other =
        elim (cases_order m n) as (λ _. sector (put_sector image n bytes) m ≡ sector image m) [
          | inl at ↦ absurd (other (sym at))
          | inr unequal ↦ elim unequal as (λ _. sector (put_sector image n bytes) m ≡ sector image m) [
            | inl less ↦ sector_before image n bytes long spare_room m less
            | inr more ↦ sector_after image n bytes long spare_room m more
          ]
        ]

    pub spare-put : sector (put_sector image n bytes) n ≡ bytes
    spare-put = sector_same image n bytes long spare_room

    pub spare-good : Good layout (put_sector image n bytes)
    spare-good =
        kept_good layout image (put_sector image n bytes) (length-put_sector image n bytes long spare_room) good spare-rows
        (λ k first last e. sector_before image n bytes long spare_room (slot_end layout (row image k)) (let before = files_end layout image good k first last e in omega (arith, before, low)))
