-- Changes of one file of an image: the image stays good, with an index as long, and every other file stays as it is.
use Rattle.std.proofs.Common.{◌≡◌, ◌⊎◌, ℕ, ◌+◌, ◌-◌, ◌<◌, ◌≤◌, Bool, true, false, cond, List, length, take, Option, Some, None, refl, sym, ap, ◌∙◌, subst, inl, inr, arith}
use Rattle.std.specs.FinMap.{get, insert, remove, get-remove}
use Rattle.std.specs.Cmp.Lexicographic.{nat_list_cmp_total}
use Rattle.std.specs.Str.{bytes_eq}
use Rattle.std.proofs.lemmas.Bool.{cases_lt, cases_order, false_from_ne_true}
use Rattle.std.proofs.lemmas.List.{take-take}
use Rattle.std.proofs.lemmas.Slice.Eq.{bytes_eq-Decides}
use Rattle.b2_platter.specs.Layout.{layout_of}
use Rattle.b2_platter.specs.Own.{next_of, first_of, last_of}
use Rattle.b2_platter.specs.Checks.{IsGood}
use Rattle.b2_platter.specs.Edits.{is_data_sector, put_sector, put_from}
use Rattle.b2_platter.specs.Image.{index_of, row, sector}
use Rattle.b2_platter.proofs.Goodness.{Parts-of}
use Rattle.b2_platter.proofs.Kept.{index-same, shared}
use Rattle.b2_platter.proofs.Layouts.{own_good}
use Rattle.b2_platter.proofs.Soundness.{Sound-from_Good}
use Rattle.b2_platter.proofs.SectorRuns.{AllLong, put-from}
use Rattle.b2_catalog.specs.declared.entry.Entry.{Entry}
use Rattle.b2_catalog.specs.Catalogue.{Catalogue, catalogue, entry_at}
use Rattle.b2_catalog.specs.Changes.{control_sector, put_row, scratched_slot}
use Rattle.b2_catalog.specs.Calls.{with_scratched}
use Rattle.b2_catalog.specs.Ways.{slot_found}
use Rattle.b2_catalog.proofs.DataSectors.{catalogue-from, in-image}
use Rattle.b2_catalog.proofs.Looking.{FileSlot-from, Holds-from, IsSlotOf-from}
use Rattle.b2_catalog.proofs.MadeFiles.{get-other}
use Rattle.b2_catalog.proofs.Mapping.{tie-eq}
use Rattle.b2_catalog.proofs.RowPuts.{length-row, put_index_same, put_sectors_above}
use Rattle.b2_catalog.proofs.Scratching.{catalogue-scratched, entry_end, entry_start, scratched_good, stands}
use Rattle.b2_catalog.proofs.Spelled.{says_scratched}
use Rattle.b2_catalog.proofs.Using.{used-files, used-good}
use Rattle.b2_datafile.specs.Files.{with_end}
use Rattle.b2_datafile.specs.Laws.{EndsAt}
use Rattle.b2_datafile.proofs.Saved.{with_end-files, with_end-good, with_end-other}
use Rattle.b2_progfile.specs.Saving.{file_filled_with}
use Rattle.b2_progfile.proofs.Filling.{all-put, files-stay, filled-others, filled-own, still-there}
use Rattle.b2_store.specs.Files.{StaysAs}

-- an image is another one but for the files of some names
pub record Keeps (image new : List ℕ) (named : List ℕ → Type 0) : Type 0 where
  pub good : IsGood new
  pub index : index_of new ≡ index_of image
  pub others : (f : Entry) → get (catalogue image) f.name ≡ Some f → (named f.name → ⊥) → StaysAs image new f

-- one change after another
pub keeps-both : (image between new : List ℕ) (P Q : List ℕ → Type 0) → ((q : List ℕ) → Q q → P q) → Keeps image between P → Keeps between new Q → Keeps image new P
keeps-both image between new P Q less h k = record {
  good = k.good;
  index = k.index ∙ h.index;
  others = λ f there apart.
      let one = h.others f there apart in
      let two = k.others f one.file (λ q. apart (less f.name q)) in
      record { file = two.file; sectors = λ n low high. two.sectors n low high ∙ one.sectors n low high };
}

-- ---- names in a catalogue

differ : (a b : List ℕ) → (a ≡ b → ⊥) → bytes_eq a b ≡ false
differ a b apart = false_from_ne_true (bytes_eq a b) (λ h. apart ((bytes_eq-Decides a b).0 h))

pub get-elsewhere : (files : Catalogue) (name q : List ℕ) (e : Entry) → (name ≡ q → ⊥) → get (insert files name e) q ≡ get files q
get-elsewhere files name q e apart = get-other files name q e ∙ ap (λ (t : Bool). cond t (Some e) (get files q)) (differ name q apart)

pub get-removed : (files : Catalogue) (name q : List ℕ) → (name ≡ q → ⊥) → get (remove files name) q ≡ get files q
get-removed files name q apart =
    get-remove nat_list_cmp_total files name q ∙ ap (λ (t : Bool). cond t None (get files q)) (tie-eq q name ∙ differ name q apart)

-- ---- where a file stands

module _ (image : List ℕ) (good : IsGood image) where
  pub record Stands (e : Entry) : Type 0 where
    pub low : index_of image ≤ e.start
    pub order : e.start < e.end
    pub high : e.end < next_of image

  pub stands-in : (e : Entry) → get (catalogue image) e.name ≡ Some e → Stands e
  stands-in e there =
      let w = stands image e.name e there in
      let f = FileSlot-from image e.name w.0 good w.1.at in
      let start : e.start ≡ first_of image w.0 = ap (λ (x : Entry). x.start) w.1.is ∙ entry_start image w.0 in
      let end : e.end ≡ last_of image w.0 = ap (λ (x : Entry). x.end) w.1.is ∙ entry_end image w.0 in
      record { low = omega (arith, f.low, start); order = omega (arith, f.order, start, end); high = omega (arith, f.high, end) }

  -- a sector of a file is none of another
  pub apart : (e f : Entry) → get (catalogue image) e.name ≡ Some e → get (catalogue image) f.name ≡ Some f → (e.name ≡ f.name → ⊥) → (n : ℕ) → f.start ≤ n → n ≤ f.end → (n < e.start) ⊎ (e.end < n)
  apart e f e_there f_there other n low high =
      let j = stands image e.name e e_there in
      let k = stands image f.name f f_there in
      let s = Sound-from_Good (layout_of image) image good in
      let e_start : e.start ≡ first_of image j.0 = ap (λ (x : Entry). x.start) j.1.is ∙ entry_start image j.0 in
      let e_end : e.end ≡ last_of image j.0 = ap (λ (x : Entry). x.end) j.1.is ∙ entry_end image j.0 in
      let f_start : f.start ≡ first_of image k.0 = ap (λ (x : Entry). x.start) k.1.is ∙ entry_start image k.0 in
      let f_end : f.end ≡ last_of image k.0 = ap (λ (x : Entry). x.end) k.1.is ∙ entry_end image k.0 in
      let e_entry = (Holds-from e.name (row image j.0) j.1.at.held).entry in
      let f_entry = (Holds-from f.name (row image k.0) k.1.at.held).entry in
      elim (cases_lt n e.start) as (λ _. (n < e.start) ⊎ (e.end < n)) [
        | inl before ↦ inl before
        | inr from ↦ elim (cases_lt e.end n) as (λ _. (n < e.start) ⊎ (e.end < n)) [
          | inl after ↦ inr after
          | inr to ↦ elim (cases_order j.0 k.0) as (λ _. (n < e.start) ⊎ (e.end < n)) [
            | inl same ↦ absurd (other (ap (λ (x : Entry). x.name) (j.1.is ∙ (ap (entry_at image) same ∙ sym k.1.is))))
            | inr unequal ↦ elim unequal as (λ _. (n < e.start) ⊎ (e.end < n)) [
              | inl less ↦ absurd (shared (layout_of image) (row image j.0) (row image k.0) (s.apart j.0 k.0 j.1.at.low less k.1.at.high) e_entry f_entry (omega (arith, from, high, e_start, f_end)) (omega (arith, low, to, f_start, e_end)))
              | inr more ↦ absurd (shared (layout_of image) (row image k.0) (row image j.0) (s.apart k.0 j.0 k.1.at.low more j.1.at.high) f_entry e_entry (omega (arith, low, to, f_start, e_end)) (omega (arith, from, high, e_start, f_end)))
            ]
          ]
        ]
      ]

-- ---- how long the index is

-- the head stands in the first sector
head-in : (image : List ℕ) → row image 0 ≡ take 16 (sector image 0)
unfolding row sector
head-in image = sym (take-take 16 256 image (omega arith))

same-index : (image new : List ℕ) → sector new 0 ≡ sector image 0 → index_of new ≡ index_of image
same-index image new same = index-same (layout_of image) image new (head-in new ∙ ap (take 16) same ∙ sym (head-in image))

after-index : (image : List ℕ) → IsGood image → (e : Entry) → get (catalogue image) e.name ≡ Some e → 0 < e.start
after-index image good e there =
    let low = (stands-in image good e there).low in
    let some = (Parts-of (layout_of image) image good).some in
    omega (arith, low, some)

-- ---- a file that is scratched

scratched-elsewhere : (files : Catalogue) (name q : List ℕ) (o : Option Entry) → (name ≡ q → ⊥) → get (with_scratched files name o) q ≡ get files q
scratched-elsewhere files name q None other = refl
scratched-elsewhere files name q (Some e) other = get-elsewhere files name q (record e { live = false }) other

pub scratch-keeps : (image : List ℕ) → IsGood image → (name : List ℕ) (k : ℕ) → slot_found image name ≡ Some k → Keeps image (put_row image k (scratched_slot (row image k))) (λ q. name ≡ q)
scratch-keeps image good name k found =
    let at = IsSlotOf-from image name k found in
    let long = (says_scratched (layout_of image) (row image k) (length-row image k (FileSlot-from image name k good at).room)).long in
    record {
      good = scratched_good image good name k at;
      index = put_index_same image good k at.low at.high (scratched_slot (row image k)) long;
      others = λ f there other. record {
        file = ap (λ (m : Catalogue). get m f.name) (catalogue-scratched image good name k at) ∙ (scratched-elsewhere (catalogue image) name f.name (get (catalogue image) name) other ∙ there);
        sectors = λ n low high. let where_it_is = (stands-in image good f there).low in put_sectors_above image good k at.low at.high (scratched_slot (row image k)) long n (omega (arith, low, where_it_is));
      };
    }

-- ---- sectors that are put into a file, and an end mark

module _ (image : List ℕ) (e : Entry) (pos : ℕ) (sectors : List (List ℕ)) (good : IsGood image) (file : get (catalogue image) e.name ≡ Some e) (long : AllLong sectors) (low : e.start ≤ pos) (high : pos + length sectors ≤ e.end) where
  own : (n : ℕ) → pos ≤ n → n < pos + length sectors → is_data_sector (layout_of image) image n ≡ true
  own n from to = (in-image image e.name e good file).own n (omega (arith, from, low)) (omega (arith, to, high))

  pub put-keeps : Keeps image (put_from image pos sectors) (λ q. e.name ≡ q)
  put-keeps =
      let put = put-from (layout_of image) image pos sectors good long own in
      record {
        good = own_good (layout_of image) _ put.good;
        index = same-index image (put_from image pos sectors) (put.before 0 (let first = after-index image good e file in omega (arith, first, low)));
        others = λ f there other. record {
          file = ap (λ (m : Catalogue). get m f.name) (catalogue-from image pos sectors good long own) ∙ there;
          sectors = λ n from to. elim (apart image good e f file there other n from to) as (λ _. sector (put_from image pos sectors) n ≡ sector image n) [
            | inl before ↦ put.before n (omega (arith, before, low))
            | inr after ↦ put.after n (omega (arith, after, high))
          ];
        };
      }

pub end-keeps : (image : List ℕ) (e : Entry) (pos : ℕ) → EndsAt image e pos → Keeps image (with_end image e pos) (λ q. e.name ≡ q)
end-keeps image e pos at =
    let low_is = at.low in
    let high_is = at.high in
    record {
      good = with_end-good image e pos at;
      index = (let first = after-index image at.good e at.file in same-index image (with_end image e pos) (with_end-other image e pos 0 at (λ is. omega (arith, first, low_is, is)) (λ is. omega (arith, first, low_is, high_is, is))));
      others = λ f there other. record {
        file = ap (λ (m : Catalogue). get m f.name) (with_end-files image e pos at) ∙ (get-elsewhere (catalogue image) e.name f.name (record e { used = pos - e.start + 1 }) other ∙ there);
        sectors = λ n low high. elim (apart image at.good e f at.file there other n low high) as (λ _. sector (with_end image e pos) n ≡ sector image n) [
          | inl before ↦ with_end-other image e pos n at (λ is. omega (arith, before, low_is, is)) (λ is. omega (arith, before, low_is, high_is, is))
          | inr after ↦ with_end-other image e pos n at (λ is. omega (arith, after, high_is, is)) (λ is. omega (arith, after, is))
        ];
      };
    }

-- ---- a file that is filled

pub fill-keeps : (image : List ℕ) (e : Entry) (sectors : List (List ℕ)) (used : ℕ) → IsGood image → get (catalogue image) e.name ≡ Some e → AllLong sectors → e.start + length sectors ≤ e.end
    → 1 ≤ used → used ≤ e.end - e.start → Keeps image (file_filled_with image e.start e.end sectors used) (λ q. e.name ≡ q)
fill-keeps image e sectors used good file long room some few =
    let put = put_from image e.start sectors in
    let there_still = still-there image e sectors good file long room in
    let put_good = own_good (layout_of image) put (all-put image e sectors good file long room).good in
    let same = filled-own image e sectors good file long room used put (put_sector put e.end (control_sector (layout_of put) used)) refl refl in
    record {
      good = subst (λ (q : List ℕ). IsGood q) same (used-good put e put_good there_still used some few);
      index = same-index image (file_filled_with image e.start e.end sectors used) (filled-others image e sectors good file long room used 0 (inl (after-index image good e file)));
      others = λ f there other. record {
        file = ap (λ (m : Catalogue). get m f.name) (ap catalogue (sym same) ∙ used-files put e put_good there_still used some few)
            ∙ (get-elsewhere (catalogue put) e.name f.name (record e { used = used }) other ∙ (ap (λ (m : Catalogue). get m f.name) (files-stay image e sectors good file long room) ∙ there));
        sectors = λ n low high. filled-others image e sectors good file long room used n (apart image good e f file there other n low high);
      };
    }
