-- Sectors that are written by their number leave an image good, with an index as long, and every file as it is.
use Rattle.std.proofs.Common.{◌≡◌, ℕ, ◌≤◌, true, List, [], ◌∷◌, length, Ok, ap, ◌∙◌, arith}
use Rattle.std.specs.FinMap.{get}
use Rattle.std.specs.List.{list_all}
use Rattle.b2_dec.specs.declared.values.Value.{Value}
use Rattle.b2_platter.specs.Checks.{IsGood}
use Rattle.b2_platter.specs.Layout.{layout_of}
use Rattle.b2_platter.proofs.Goodness.{Parts-of}
use Rattle.b2_catalog.specs.declared.entry.Entry.{Entry}
use Rattle.b2_catalog.specs.Catalogue.{Catalogue, catalogue}
use Rattle.b2_record.specs.Writing.{record_of}
use Rattle.b2_raw.specs.Laws.{Writes}
use Rattle.b2_raw.specs.Raw.{block_put, ended, saved}
use Rattle.b2_raw.proofs.Called.{block-writes, mark-writes}
use Rattle.b2_raw.proofs.Rest.{all-whole, below, files-kept, index-kept, new-good}
use Rattle.b2_raw.proofs.Written.{saved-by, written-by}
use Rattle.b2_access.specs.Disks.{Made}
use Rattle.b2_access.specs.Touching as touching
use Rattle.b2_store.specs.FileWork.{as_made, block_saved, raw_ended, raw_saved}
use Rattle.b2_store.proofs.Answered.{as-made-is}
use Rattle.b2_store.proofs.Kept.{Keeps, stands-in}
use Rattle.b2_store.proofs.Records.{record-long}

-- no file is named
abbrev pub NoFile : List ℕ → Type 0
NoFile name = ⊥

written-keeps : (image : List ℕ) (at : ℕ) (sectors : List (List ℕ)) (new : List ℕ) → Writes image at sectors new → Keeps image new NoFile
written-keeps image at sectors new w = record {
  good = new-good image at sectors new w;
  index = index-kept image at sectors new w;
  others = λ f there apart.
      let stands = stands-in image w.good f there in
      let high = stands.high in
      let free = (Parts-of (layout_of image) image w.good).free in
      record {
        file = ap (λ (files : Catalogue). get files f.name) (files-kept image at sectors new w) ∙ there;
        sectors = λ n low most. below image at sectors new w n (omega (arith, high, free, most));
      };
}

pub raw-keeps : (image : List ℕ) (at : ℕ) (values : List Value) (m : Made ℕ) → IsGood image → list_all touching.is_short values ≡ true → raw_saved at values image ≡ Ok m → Keeps image m.image NoFile
raw-keeps image at values m good short h =
    let made = saved-by image at values m.image m.told (as-made-is (saved image at values) m h) in
    written-keeps image at (record_of values) m.image
    (record { good = good; whole = all-whole (record_of values) (record-long values short); made = (written-by image at (record_of values) m.image m.told made).0 })

pub mark-keeps : (image : List ℕ) (at : ℕ) (m : Made ℕ) → IsGood image → raw_ended at image ≡ Ok m → Keeps image m.image NoFile
mark-keeps image at m good h = written-keeps image at _ m.image (mark-writes image m.image at m.told good (as-made-is (ended image at) m h))

pub block-keeps : (image : List ℕ) (at : ℕ) (bytes : List ℕ) (m : Made ℕ) → IsGood image → length bytes ≤ 256 → block_saved at bytes image ≡ Ok m → Keeps image m.image NoFile
block-keeps image at bytes m good few h = written-keeps image at _ m.image (block-writes image m.image bytes at m.told good few (as-made-is (block_put image at bytes) m h))
