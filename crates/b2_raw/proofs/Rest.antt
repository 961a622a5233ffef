-- What a write leaves.
use Rattle.std.proofs.Common.{◌≡◌, ℕ, ◌+◌, ◌-◌, ◌*◌, ◌<◌, ◌≤◌, ◌⊎◌, Bool, true, false, List, [], ◌∷◌, ◌++◌, length, replicate, Option, Some, None, refl, ap, subst, ◌∙◌, inl, inr, arith, cond, length-append}
use Rattle.std.proofs.lemmas.List.{length-replicate}
use Rattle.std.specs.FinMap.{from_entries}
use Rattle.b2_platter.specs.Layout.{layout_of}
use Rattle.b2_platter.specs.Slot.{is_entry, slot_end, slot_name}
use Rattle.b2_platter.specs.Image.{row, sector, index_of}
use Rattle.b2_platter.specs.Checks.{IsGood}
use Rattle.b2_platter.specs.Own.{end_of}
use Rattle.b2_platter.specs.Edits.{put_from}
use Rattle.b2_platter.proofs.Goodness.{Parts-of}
use Rattle.b2_platter.proofs.Kept.{index-same}
use Rattle.b2_platter.proofs.Layouts.{own_good, same_layout}
use Rattle.b2_platter.proofs.SectorRuns.{AllLong, PutFrom}
use Rattle.b2_platter.proofs.SpareRuns.{put-spares}
use Rattle.b2_platter.proofs.SpareSectors.{files_end}
use Rattle.b2_catalog.specs.declared.entry.Entry.{Entry}
use Rattle.b2_catalog.specs.Catalogue.{catalogue, entry_at, named_entry}
use Rattle.b2_catalog.proofs.DataSectors.{filter_map-same}
use Rattle.b2_raw.specs.Laws.{AllWhole, Writes}
use Rattle.b2_raw.specs.Raw.{filled}
use Rattle.b2_raw.proofs.Written.{made-by, spare-high, spare-low}

all-long : (sectors : List (List ℕ)) → AllWhole sectors → AllLong sectors
all-long [] h = tt
all-long (s ∷ sectors) h = (h.0, all-long sectors h.1)

pub all-whole : (sectors : List (List ℕ)) → AllLong sectors → AllWhole sectors
all-whole [] h = tt
all-whole (s ∷ sectors) h = (h.0, all-whole sectors h.1)

pub filled-long : (bytes : List ℕ) → length bytes ≤ 256 → length (filled bytes) ≡ 256
filled-long bytes few =
    let all = length-append bytes (replicate (256 - length bytes) 0) in
    let zeros = length-replicate {A = ℕ} (256 - length bytes) 0 in
    omega (arith, few, all, zeros)

module _ (image : List ℕ) (at : ℕ) (sectors : List (List ℕ)) (new : List ℕ) (w : Writes image at sectors new) where
  pub placed : PutFrom (layout_of image) image new at sectors
  placed =
      let m = made-by image at sectors new w.made in
      subst (λ (q : List ℕ). PutFrom (layout_of image) image q at sectors) m.1
      (put-spares (layout_of image) image at sectors w.good (all-long sectors w.whole) (spare-low image at (length sectors) m.0) (spare-high image at (length sectors) m.0))

  pub new-good : IsGood new
  new-good = own_good (layout_of image) new placed.good

  layout-kept : layout_of new ≡ layout_of image
  layout-kept = same_layout image new placed.good

  pub index-kept : index_of new ≡ index_of image
  index-kept = index-same (layout_of image) image new (placed.rows 0 (let p = Parts-of (layout_of image) image w.good in omega (arith, p.some)))

  pub below : (k : ℕ) → k < end_of image → sector new k ≡ sector image k
  below k h =
      let low = spare-low image at (length sectors) (made-by image at sectors new w.made).0 in
      placed.before k (omega (arith, low, h))

  pub others : (k : ℕ) → (k < at) ⊎ (at + length sectors ≤ k) → sector new k ≡ sector image k
  others k (inl before) = placed.before k before
  others k (inr after) = placed.after k after

  named_chosen : (k : ℕ) → 1 ≤ k → k < 16 * index_of image → (t : Bool) → is_entry (row image k) ≡ t
      → cond {A = Option (List ℕ × Entry)} t (Some (slot_name (row image k), entry_at new k)) None ≡ cond {A = Option (List ℕ × Entry)} t (Some (slot_name (row image k), entry_at image k)) None
  unfolding entry_at
  named_chosen k l h true e = rw (layout-kept, placed.rows k h, below (slot_end (layout_of image) (row image k)) (files_end (layout_of image) image w.good k l h e)) refl
  named_chosen k l h false e = refl

  named-kept : (k : ℕ) → 1 ≤ k → k < 16 * index_of image → named_entry new k ≡ named_entry image k
  unfolding named_entry
  named-kept k l h = rw (placed.rows k h) (named_chosen k l h (is_entry (row image k)) refl)

  pub files-kept : catalogue new ≡ catalogue image
  unfolding catalogue
  files-kept =
      rw index-kept (ap from_entries (filter_map-same (named_entry new) (named_entry image) 1 (16 * index_of image - 1) (λ k l h. named-kept k l (omega (arith, l, h)))))
