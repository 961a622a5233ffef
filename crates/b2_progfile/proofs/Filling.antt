-- A file is filled with sectors, and its control sector says how many they are.
use Rattle.std.proofs.Common.{◌≡◌, ℕ, ◌+◌, ◌*◌, ◌<◌, ◌≤◌, ◌⊎◌, List, length, Some, ap, ◌∙◌, inl, inr, arith}
use Rattle.std.specs.FinMap.{get}
use Rattle.b2_platter.specs.declared.layout.Layout.{Layout}
use Rattle.b2_platter.specs.Layout.{layout_of}
use Rattle.b2_platter.specs.Image.{sector, sectors_at}
use Rattle.b2_platter.specs.Checks.{IsGood}
use Rattle.b2_platter.specs.Edits.{put_sector, put_from}
use Rattle.b2_platter.proofs.Goodness.{sectors_of_good}
use Rattle.b2_platter.proofs.Layouts.{own_good, same_layout}
use Rattle.b2_platter.proofs.Puts.{sector_after, sector_before}
use Rattle.b2_catalog.specs.declared.entry.Entry.{Entry}
use Rattle.b2_catalog.specs.Catalogue.{catalogue}
use Rattle.b2_catalog.specs.Changes.{control_sector}
use Rattle.b2_catalog.proofs.Spelled.{control_long}
use Rattle.b2_progfile.specs.Saving.{file_filled, file_filled_with}
use Rattle.b2_catalog.proofs.DataSectors.{catalogue-from, in-image}
use Rattle.b2_platter.proofs.SectorRuns.{same-sectors, AllLong, PutFrom, put-from}

module _ (image : List ℕ) (e : Entry) (sectors : List (List ℕ)) (good : IsGood image) (file : get (catalogue image) e.name ≡ Some e) (long : AllLong sectors) (room : e.start + length sectors ≤ e.end) where
  pub all-put : PutFrom (layout_of image) image (put_from image e.start sectors) e.start sectors
  all-put = put-from (layout_of image) image e.start sectors good long (λ n low high. (in-image image e.name e good file).own n low (omega (arith, high, room)))

  pub layout-stays : layout_of (put_from image e.start sectors) ≡ layout_of image
  layout-stays = same_layout image (put_from image e.start sectors) all-put.good

  pub files-stay : catalogue (put_from image e.start sectors) ≡ catalogue image
  files-stay = catalogue-from image e.start sectors good long (λ n low high. (in-image image e.name e good file).own n low (omega (arith, high, room)))

  pub still-there : get (catalogue (put_from image e.start sectors)) e.name ≡ Some e
  still-there = ap (λ files. get files e.name) files-stay ∙ file

  pub control-room : 256 * e.end + 256 ≤ length (put_from image e.start sectors)
  control-room =
      let good = own_good (layout_of image) (put_from image e.start sectors) all-put.good in
      let inside = in-image (put_from image e.start sectors) e.name e good still-there in
      let whole = sectors_of_good (layout_of (put_from image e.start sectors)) (put_from image e.start sectors) good in
      omega (arith, inside.within, whole)

  -- the control sector is spelled in the layout of the image before
  pub filled-own : (used : ℕ) (between new : List ℕ) → between ≡ put_from image e.start sectors → new ≡ put_sector between e.end (control_sector (layout_of between) used)
      → new ≡ file_filled_with image e.start e.end sectors used
  filled-own used between new is made =
      made
      ∙ (ap (λ (q : List ℕ). put_sector q e.end (control_sector (layout_of q) used)) is
      ∙ ap (λ (l : Layout). put_sector (put_from image e.start sectors) e.end (control_sector l used)) layout-stays)

  pub filled-with-there : (used : ℕ) → sectors_at (file_filled_with image e.start e.end sectors used) e.start (length sectors) ≡ sectors
  filled-with-there used =
      same-sectors (put_from image e.start sectors) (file_filled_with image e.start e.end sectors used) e.start (length sectors)
      (λ k low high. sector_before (put_from image e.start sectors) e.end (control_sector (layout_of image) used) (control_long (layout_of image) used) control-room k (omega (arith, high, room)))
      ∙ all-put.there

  pub filled-there : sectors_at (file_filled image e.start e.end sectors) e.start (length sectors) ≡ sectors
  filled-there = filled-with-there (length sectors)

  -- all sectors but those of the file stay
  pub filled-others : (used n : ℕ) → (n < e.start) ⊎ (e.end < n) → sector (file_filled_with image e.start e.end sectors used) n ≡ sector image n
  filled-others used n out =
      elim out as (λ _. sector (file_filled_with image e.start e.end sectors used) n ≡ sector image n) [
        | inl before ↦ sector_before (put_from image e.start sectors) e.end (control_sector (layout_of image) used) (control_long (layout_of image) used) control-room n (omega (arith, before, room)) ∙ all-put.before n before
        | inr after ↦ sector_after (put_from image e.start sectors) e.end (control_sector (layout_of image) used) (control_long (layout_of image) used) control-room n after ∙ all-put.after n (omega (arith, after, room))
      ]
