-- The control sector of a file is written: the image stays good, and the catalogue changes by how many sectors of this file are used.
use Rattle.std.proofs.Common.{◌≡◌, ℕ, ◌-◌, ◌≤◌, List, Some, sym, ap, ◌∙◌, arith}
use Rattle.std.specs.FinMap.{get, insert}
use Rattle.b2_platter.specs.Layout.{layout_of}
use Rattle.b2_platter.specs.Slot.{slot_start, slot_end}
use Rattle.b2_platter.specs.Image.{row}
use Rattle.b2_platter.specs.Checks.{IsGood}
use Rattle.b2_platter.specs.Edits.{put_sector}
use Rattle.b2_catalog.specs.declared.entry.Entry.{Entry}
use Rattle.b2_catalog.specs.Catalogue.{catalogue}
use Rattle.b2_catalog.specs.Changes.{control_sector}
use Rattle.b2_catalog.proofs.Changed.{changed_own}
use Rattle.b2_catalog.proofs.Scratching.{StandsAt, stands, entry_end, entry_start, used_changes, catalogue-used}

module _ (image : List ℕ) (e : Entry) (good : IsGood image) (there : get (catalogue image) e.name ≡ Some e) (used : ℕ) (some : 1 ≤ used) (few : used ≤ e.end - e.start) where
  place : (k : ℕ) × StandsAt image e.name e k
  place = stands image e.name e there

  end : e.end ≡ slot_end (layout_of image) (row image place.0)
  end = ap (λ (e : Entry). e.end) place.1.is ∙ entry_end image place.0

  within : used ≤ slot_end (layout_of image) (row image place.0) - slot_start (layout_of image) (row image place.0)
  within =
      let start : e.start ≡ slot_start (layout_of image) (row image place.0) = ap (λ (e : Entry). e.start) place.1.is ∙ entry_start image place.0 in
      omega (arith, end, start, few)

  pub used-good : IsGood (put_sector image e.end (control_sector (layout_of image) used))
  used-good = rw end (changed_own image _ place.0 good (used_changes image good e.name place.0 place.1.at used some within))

  pub used-files : catalogue (put_sector image e.end (control_sector (layout_of image) used)) ≡ insert (catalogue image) e.name (record e { used = used })
  used-files =
      ap (λ (n : ℕ). catalogue (put_sector image n (control_sector (layout_of image) used))) end
      ∙ catalogue-used image good e.name place.0 place.1.at used some within
      ∙ ap (λ (x : Entry). insert (catalogue image) e.name (record x { used = used })) (sym place.1.is)
