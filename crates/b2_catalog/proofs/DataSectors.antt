-- Data sectors of a file are put in place, and the catalogue stays; and what a file of the catalogue is in its image.
use Rattle.std.proofs.Common.{◌≡◌, ℕ, zero, suc, ◌+◌, ◌-◌, ◌*◌, ◌<◌, ◌≤◌, Bool, true, false, not, ◌||◌, List, [], ◌∷◌, length, Option, Some, None, refl, ap, ◌∙◌, arith, cond}
use Rattle.std.specs.List.{range_with_len, filter_map}
use Rattle.std.specs.FinMap.{get, insert, from_entries, get-insert}
use Rattle.std.specs.Cmp.Lexicographic.{nat_list_cmp_total}
use Rattle.std.proofs.lemmas.Slice.Eq.{bytes_eq-Decides}
use Rattle.b2_catalog.proofs.Mapping.{tie-eq}
use Rattle.std.proofs.lemmas.Bool.{and_parts, and_from, leb-true, le-leb, lt-ltb}
use Rattle.b2_platter.specs.declared.layout.Layout.{Layout}
use Rattle.b2_platter.specs.Layout.{layout_of}
use Rattle.b2_platter.specs.Slot.{is_entry, slot_start, slot_end, slot_name}
use Rattle.b2_platter.specs.Image.{row, sector, index_of, total_of}
use Rattle.b2_platter.specs.Checks.{IsGood, is_control, is_controlled, used_of}
use Rattle.b2_platter.specs.Edits.{put_sector, put_from, holds_data, is_data_sector}
use Rattle.b2_platter.proofs.Ranges.{list_any-at}
use Rattle.b2_platter.proofs.Soundness.{Sound-from_Good}
use Rattle.b2_platter.proofs.Kept.{no_end}
use Rattle.b2_platter.proofs.DataSectors.{rows-kept, index-kept, sector-kept}
use Rattle.b2_platter.proofs.OwnSectors.{layout-kept, own-good, own-data}
use Rattle.b2_platter.proofs.SectorRuns.{AllLong}
use Rattle.b2_catalog.specs.declared.entry.Entry.{Entry}
use Rattle.b2_catalog.specs.Catalogue.{Catalogue, entry_at, named_entry, catalogue}
use Rattle.b2_catalog.proofs.Looking.{FileSlot-from, Holds-from}
use Rattle.b2_catalog.proofs.Scratching.{stands, entry_end, entry_start}

pub filter_map-same : {B : Type 0} (f g : ℕ → Option B) (a n : ℕ) → ((k : ℕ) → a ≤ k → k < a + n → f k ≡ g k) → filter_map f (range_with_len a n) ≡ filter_map g (range_with_len a n)
filter_map-same f g a zero h = refl
filter_map-same f g a (suc n) h =
    rw (h a (omega arith) (omega arith), filter_map-same f g (a + 1) n (λ k low high. h k (omega (arith, low)) (omega (arith, high)))) refl

module _ (image : List ℕ) (good : IsGood image) (n : ℕ) (within : is_data_sector (layout_of image) image n ≡ true) (bytes : List ℕ) (long : length bytes ≡ 256) where
  named_chosen : (k : ℕ) → 1 ≤ k → k < 16 * index_of image → (t : Bool) → is_entry (row image k) ≡ t
      → cond {A = Option (List ℕ × Entry)} t (Some (slot_name (row image k), entry_at (put_sector image n bytes) k)) None ≡ cond {A = Option (List ℕ × Entry)} t (Some (slot_name (row image k), entry_at image k)) None
  unfolding entry_at
  named_chosen k l h true e = rw (layout-kept image good n within bytes long, rows-kept (layout_of image) image good n within bytes long k h, sector-kept (layout_of image) image good n within bytes long (slot_end (layout_of image) (row image k)) (no_end (layout_of image) image good n within k l h e)) refl
  named_chosen k l h false e = refl

  named-kept : (k : ℕ) → 1 ≤ k → k < 16 * index_of image → named_entry (put_sector image n bytes) k ≡ named_entry image k
  unfolding named_entry
  named-kept k l h = rw (rows-kept (layout_of image) image good n within bytes long k h) (named_chosen k l h (is_entry (row image k)) refl)

  pub catalogue-kept : catalogue (put_sector image n bytes) ≡ catalogue image
  unfolding catalogue
  catalogue-kept =
      rw (index-kept (layout_of image) image good n within bytes long) (ap from_entries (filter_map-same (named_entry (put_sector image n bytes)) (named_entry image) 1 (16 * index_of image - 1) (λ k l h. named-kept k l (omega (arith, l, h)))))

-- some of them, one after the other
pub catalogue-from : (image : List ℕ) (at : ℕ) (sectors : List (List ℕ)) → IsGood image → AllLong sectors → ((n : ℕ) → at ≤ n → n < at + length sectors → is_data_sector (layout_of image) image n ≡ true)
    → catalogue (put_from image at sectors) ≡ catalogue image
catalogue-from image at [] good long own = refl
catalogue-from image at (s ∷ sectors) good long own =
    let first = own at (omega arith) (omega arith) in
    catalogue-from (put_sector image at s) (at + 1) sectors (own-good image good at first s long.0) long.1 (λ n low high. own-data image good at first s long.0 n ∙ own n (omega (arith, low)) (omega (arith, high)))
    ∙ catalogue-kept image good at first s long.0

-- ---- a file of the catalogue

pub record InImage (image : List ℕ) (e : Entry) : Type 0 where
  pub order : e.start < e.end
  pub within : e.end < total_of (layout_of image) image
  pub used : 1 ≤ e.used
  pub few : e.used ≤ e.end - e.start
  pub own : (n : ℕ) → e.start ≤ n → n < e.end → is_data_sector (layout_of image) image n ≡ true

holds-from : (layout : Layout) (slot : List ℕ) (n : ℕ) → is_entry slot ≡ true → slot_start layout slot ≤ n → n < slot_end layout slot → holds_data layout slot n ≡ true
unfolding holds_data
holds-from layout slot n e low high = and_from _ _ (and_from _ _ e (le-leb _ _ low)) (lt-ltb _ _ high)

data-from : (layout : Layout) (image : List ℕ) (k n : ℕ) → 1 ≤ k → k < 16 * index_of image → holds_data layout (row image k) n ≡ true → is_data_sector layout image n ≡ true
unfolding is_data_sector
data-from layout image k n low high h = list_any-at (λ k. holds_data layout (row image k) n) 1 (16 * index_of image - 1) k low (omega (arith, high, low)) h

entry_used : (a : List ℕ) (k : ℕ) → (entry_at a k).used ≡ used_of (layout_of a) (sector a (slot_end (layout_of a) (row a k)))
unfolding entry_at
entry_used a k = refl

passed-or : (t u : Bool) → (not t || u) ≡ true → t ≡ true → u ≡ true
passed-or true u h e = h
passed-or false u h e = cc

used-from : (layout : Layout) (image slot : List ℕ) → is_controlled layout image slot ≡ true → is_entry slot ≡ true
    → (1 ≤ used_of layout (sector image (slot_end layout slot))) × (used_of layout (sector image (slot_end layout slot)) ≤ slot_end layout slot - slot_start layout slot)
unfolding is_controlled is_control
used-from layout image slot h e =
    let all = and_parts _ _ (passed-or (is_entry slot) _ h e) in
    let three = and_parts _ _ all.0 in
    let two = and_parts _ _ three.0 in
    (leb-true _ _ two.1, leb-true _ _ three.1)

pub in-image : (image name : List ℕ) (e : Entry) → IsGood image → get (catalogue image) name ≡ Some e → InImage image e
in-image image name e good there =
    let w = stands image name e there in
    let f = FileSlot-from image name w.0 good w.1.at in
    let start : e.start ≡ slot_start (layout_of image) (row image w.0) = ap (λ (e : Entry). e.start) w.1.is ∙ entry_start image w.0 in
    let end : e.end ≡ slot_end (layout_of image) (row image w.0) = ap (λ (e : Entry). e.end) w.1.is ∙ entry_end image w.0 in
    let held = (Holds-from name (row image w.0) w.1.at.held).entry in
    let used : e.used ≡ used_of (layout_of image) (sector image (slot_end (layout_of image) (row image w.0))) = ap (λ (e : Entry). e.used) w.1.is ∙ entry_used image w.0 in
    let some = used-from (layout_of image) image (row image w.0) ((Sound-from_Good (layout_of image) image good).controls w.0 w.1.at.low w.1.at.high) held in
    record {
      used = omega (arith, used, some.0);
      few = omega (arith, used, some.1, start, end);
      order = omega (arith, f.order, start, end);
      within = omega (arith, f.within, end);
      own = λ n low high. data-from (layout_of image) image w.0 n w.1.at.low w.1.at.high (holds-from (layout_of image) (row image w.0) n (Holds-from name (row image w.0) w.1.at.held).entry (omega (arith, low, start)) (omega (arith, high, end)));
    }

-- what was put at a name
pub get-put : (files : Catalogue) (name : List ℕ) (e : Entry) → get (insert files name e) name ≡ Some e
get-put files name e =
    get-insert nat_list_cmp_total files name e name ∙ ap (λ (t : Bool). cond t (Some e) (get files name)) (tie-eq name name ∙ (bytes_eq-Decides name name).1 refl)
