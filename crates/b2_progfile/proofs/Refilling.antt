-- An emptied image to which files are copied, one after the other: each finds a slot and room.
use Rattle.std.proofs.Common.{◌≡◌, ◌≢◌, ℕ, zero, suc, ◌+◌, ◌-◌, ◌*◌, ◌/◌, ◌%◌, ◌<◌, ◌≤◌, Bool, true, false, cond, List, [], ◌∷◌, length, drop, get_or, map, replicate, Option, Some, None, refl, sym, ap, ap₂, subst, ◌∙◌, inl, inr, arith, add-one}
use Rattle.std.specs.Prelude.{is_some, nat_lt}
use Rattle.std.specs.List.{range_with_len}
use Rattle.std.specs.Cmp.Lexicographic.{nat_list_cmp_total, slice_cmp}
use Rattle.std.specs.Ordering.{nat_cmp}
use Rattle.std.specs.FinMap.{empty, get, insert, get-empty, same_map, slice_cmp-IsAntisymmetric, nat_cmp-IsAntisymmetric}
use Rattle.std.proofs.lemmas.Bool.{cases_eq, ltb-false, ltb-true}
use Rattle.std.proofs.Math.Seq.{drop-cons}
use Rattle.b2_base.specs.declared.codes.TheConstants.{D85_INDEX_FULL, D86_NO_ROOM}
use Rattle.b2_platter.specs.declared.layout.Layout.{Layout}
use Rattle.b2_platter.specs.Layout.{layout_of}
use Rattle.b2_platter.specs.Own.{end_of, next_of}
use Rattle.b2_platter.specs.Slot.{is_free}
use Rattle.b2_platter.specs.Image.{row, sector, index_of, catalogue_end, next_free, first_slot, hash}
use Rattle.b2_platter.specs.Checks.{IsGood}
use Rattle.b2_platter.specs.Edits.{CanFormat, formatted}
use Rattle.b2_platter.proofs.Goodness.{Parts-of}
use Rattle.b2_platter.proofs.Layouts.{own_good, same_layout}
use Rattle.b2_platter.proofs.Fresh.{formatted_good}
use Rattle.b2_catalog.specs.declared.entry.Entry.{Entry}
use Rattle.b2_catalog.specs.Catalogue.{Catalogue, catalogue}
use Rattle.b2_catalog.specs.Ways.{lowest_free, place, place_along}
use Rattle.b2_catalog.specs.Calls.{enter_refusal}
use Rattle.b2_catalog.proofs.Formats.{catalogue-formatted, formatted_head, formatted_row}
use Rattle.b2_catalog.proofs.Looking.{FileSlot-from, find-missed, first_slot-le, met}
use Rattle.b2_catalog.proofs.Refusals.{enter_taken, present}
use Rattle.b2_catalog.proofs.Scratching.{stands}
use Rattle.b2_progfile.specs.Moving.{all_sectors, entry_from, with_copy}
use Rattle.b2_progfile.specs.MovingAll.{AllLive, AreLiveFiles, HasSectors, InOrder, MovedAll, all_refusal, emptied, total_sectors, with_copies, with_more_files}
use Rattle.b2_catalog.proofs.MadeFiles.{refused-by, enters}
use Rattle.b2_progfile.proofs.Copying.{Copy, copied}
use Rattle.b2_progfile.proofs.Files.{AllOther, inside-of, other-kept, other-names}
use Rattle.b2_platter.proofs.SectorRuns.{same-sectors}

-- ---- how many slots are free

abbrev pub one_where : Bool → ℕ
one_where true = 1
one_where false = 0

abbrev pub count : (ℕ → Bool) → ℕ → ℕ → ℕ
count p a zero = 0
count p a (suc n) = one_where (p a) + count p (a + 1) n

count-same : (p q : ℕ → Bool) (a n : ℕ) → ((k : ℕ) → a ≤ k → k < a + n → q k ≡ p k) → count q a n ≡ count p a n
count-same p q a zero h = refl
count-same p q a (suc n) h =
    ap₂ (λ (b : Bool) (m : ℕ). one_where b + m) (h a (omega arith) (omega arith)) (count-same p q (a + 1) n (λ k low high. h k (omega (arith, low)) (omega (arith, high))))

-- one that passed fails now
count-fewer : (p q : ℕ → Bool) (a n k : ℕ) → a ≤ k → k < a + n → p k ≡ true → q k ≡ false → ((j : ℕ) → a ≤ j → j < a + n → j ≢ k → q j ≡ p j) → count p a n ≡ count q a n + 1
count-fewer p q a zero k low high was now others = absurd (omega (arith, low, high))
count-fewer p q a (suc n) k low high was now others =
    elim (cases_eq a k) as (λ _. count p a (suc n) ≡ count q a (suc n) + 1) [
      | inl same ↦ (
          let own : p a ≡ true = ap p same ∙ was in
          let gone : q a ≡ false = ap q same ∙ now in
          let rest = count-same p q (a + 1) n (λ j l h. others j (omega (arith, l)) (omega (arith, h)) (λ e. omega (arith, e, same, l))) in
          let first : one_where (p a) ≡ 1 = ap one_where own in
          let second : one_where (q a) ≡ 0 = ap one_where gone in
          omega (arith, rest, first, second)
          )
      | inr other ↦ (
          let below : a < k = omega (arith, low, other) in
          let rest = count-fewer p q (a + 1) n k (omega (arith, below)) (omega (arith, high)) was now (λ j l h. others j (omega (arith, l)) (omega (arith, h))) in
          let first : one_where (q a) ≡ one_where (p a) = ap one_where (others a (omega arith) (omega arith) other) in
          omega (arith, rest, first)
          )
    ]

count-all : (p : ℕ → Bool) (a n : ℕ) → ((k : ℕ) → a ≤ k → k < a + n → p k ≡ true) → count p a n ≡ n
count-all p a zero h = refl
count-all p a (suc n) h =
    let first : one_where (p a) ≡ 1 = ap one_where (h a (omega arith) (omega arith)) in
    let rest = count-all p (a + 1) n (λ k low high. h k (omega (arith, low)) (omega (arith, high))) in
    omega (arith, first, rest)

count-none : (p : ℕ → Bool) (a n : ℕ) → ((k : ℕ) → a ≤ k → k < a + n → p k ≡ false) → count p a n ≡ 0
count-none p a zero h = refl
count-none p a (suc n) h =
    let first : one_where (p a) ≡ 0 = ap one_where (h a (omega arith) (omega arith)) in
    let rest = count-none p (a + 1) n (λ k low high. h k (omega (arith, low)) (omega (arith, high))) in
    omega (arith, first, rest)

abbrev pub free_slots : List ℕ → ℕ
free_slots image = count (λ k. is_free (row image k)) 1 (16 * index_of image - 1)

-- ---- a place for a name

none-first : (o : Option ℕ) (rest : Option ℕ) → cond (is_some o) o rest ≡ None → (o ≡ None) × (rest ≡ None)
none-first None rest h = (refl, h)
none-first (Some k) rest h = cc

along-none : (lowest : ℕ → Option ℕ) (first index j n : ℕ) → place_along lowest (map (λ (j : ℕ). (first + j) % index) (range_with_len j n)) ≡ None
    → (i : ℕ) → j ≤ i → i < j + n → lowest ((first + i) % index) ≡ None
along-none lowest first index j zero h i low high = absurd (omega (arith, low, high))
along-none lowest first index j (suc n) h i low high =
    let parts = none-first (lowest ((first + j) % index)) _ h in
    elim (cases_eq j i) as (λ _. lowest ((first + i) % index) ≡ None) [
      | inl same ↦ subst (λ (m : ℕ). lowest ((first + m) % index) ≡ None) same parts.0
      | inr other ↦ along-none lowest first index (j + 1) n parts.1 i (omega (arith, low, other)) (omega (arith, high))
    ]

module _ (image : List ℕ) (good : IsGood image) (name : List ℕ) where
  some-index : 1 ≤ index_of image
  some-index = (Parts-of (layout_of image) image good).some

  no-lowest : place image name ≡ None → (s : ℕ) → s < index_of image → lowest_free image s ≡ None
  unfolding place
  no-lowest none s below =
      let m = met (hash (index_of image) name) (index_of image) s (let i = some-index in omega (arith, i)) below in
      subst (λ (n : ℕ). lowest_free image n ≡ None) m.2 (along-none (lowest_free image) (hash (index_of image) name) (index_of image) 0 (index_of image) none m.0 (omega arith) (omega (arith, m.1)))

  not-free : (s k : ℕ) → lowest_free image s ≡ None → first_slot s ≤ k → k < 16 * s + 16 → is_free (row image k) ≡ false
  unfolding lowest_free
  not-free s k none low high = find-missed (λ (k : ℕ). is_free (row image k)) (first_slot s) (16 * s + 16 - first_slot s) none k low (omega (arith, low, high))

  full-index : place image name ≡ None → free_slots image ≡ 0
  full-index none =
      count-none (λ (k : ℕ). is_free (row image k)) 1 (16 * index_of image - 1)
      (λ k low high. not-free (k / 16) k (no-lowest none (k / 16) (omega (arith, low, high))) (first_slot-le (k / 16) k low (omega arith)) (omega arith))

  some-by : (o : Option ℕ) → place image name ≡ o → 1 ≤ free_slots image → (k : ℕ) × (place image name ≡ Some k)
  some-by None is h = (let none = full-index is in absurd (omega (arith, none, h)))
  some-by (Some k) is h = (k, is)

  pub some-place : 1 ≤ free_slots image → (k : ℕ) × (place image name ≡ Some k)
  some-place h = some-by (place image name) refl h

-- ---- files that are to be copied

abbrev pub AllAbsent : Catalogue → List Entry → Type 0
AllAbsent files [] = Unit {0}
AllAbsent files (e ∷ rest) = (get files e.name ≡ None) × AllAbsent files rest

pub record Ready (from image : List ℕ) (files : List Entry) : Type 0 where
  pub good : IsGood image
  pub live : AllLive from files
  pub least : ℕ
  pub ordered : InOrder least files
  pub absent : AllAbsent (catalogue image) files
  pub slots : length files ≤ free_slots image
  pub room : next_of image + total_sectors files ≤ end_of image

-- the next one is entered
pub ready-enters : (from image : List ℕ) (e : Entry) (files : List Entry) → Ready from image (e ∷ files) → enter_refusal image e.name (all_sectors e) ≡ None
ready-enters from image e files r =
    let k = some-place image r.good e.name (let s = r.slots in omega (arith, s)) in
    let none : is_some _ ≡ false = sym (present image e.name) ∙ ap is_some r.absent.0 in
    enter_taken image e.name (all_sectors e) k.0 none k.1 (let m = r.room in omega (arith, m))

absent-by : (files : Catalogue) (name q : List ℕ) (e : Entry) → (name ≡ q → ⊥) → get files q ≡ None → get (insert files name e) q ≡ None
absent-by files name q e other none = other-kept files name q e other ∙ none

absent-rest : (files : Catalogue) (name : List ℕ) (n : Entry) (rest : List Entry) → AllOther name rest → AllAbsent files rest → AllAbsent (insert files name n) rest
absent-rest files name n [] other absent = tt
absent-rest files name n (f ∷ rest) other absent = (absent-by files name f.name n other.0 absent.0, absent-rest files name n rest other.1 absent.1)

module _ (from : List ℕ) (source : IsGood from) where
  -- the copy of the next one
  pub ready-copy : (image : List ℕ) (e : Entry) (files : List Entry) → Ready from image (e ∷ files) → (k : ℕ) × Copy from image (with_copy from image e) e k
  ready-copy image e files r =
      let n = enters image e.name (all_sectors e) (ready-enters from image e files r) in
      (n.k, copied from image e source r.good r.live.0 n)

  pub ready-next : (image : List ℕ) (e : Entry) (files : List Entry) → Ready from image (e ∷ files) → Ready from (with_copy from image e) files
  ready-next image e files r =
      let c = ready-copy image e files r in
      let inside = inside-of from source e r.live.0 in
      let same : free_slots (with_copy from image e) ≡ count (λ (k : ℕ). is_free (row (with_copy from image e) k)) 1 (16 * index_of image - 1) =
      ap (λ (i : ℕ). count (λ (k : ℕ). is_free (row (with_copy from image e) k)) 1 (16 * i - 1)) c.1.index in
      let fewer = count-fewer (λ (k : ℕ). is_free (row image k)) (λ (k : ℕ). is_free (row (with_copy from image e) k)) 1 (16 * index_of image - 1) c.0 c.1.low (omega (arith, c.1.low, c.1.high)) c.1.was c.1.now
      (λ j low high other. ap is_free (c.1.others j low (omega (arith, low, high)) other)) in
      record {
        good = c.1.good;
        live = r.live.1;
        least = e.end + 1;
        ordered = r.ordered.1;
        absent = subst (λ (files' : Catalogue). AllAbsent files' files) (sym c.1.files)
            (absent-rest (catalogue image) e.name (entry_from (next_of image) e) files (other-names from source e (e.end + 1) files r.live.0 (omega (arith, inside.order)) r.live.1 r.ordered.1) r.absent.1);
        slots = (let s = r.slots in omega (arith, s, same, fewer));
        room = (let m = r.room in omega (arith, m, c.1.next, c.1.end));
      }

  -- what the copies leave
  pub record Copies (image new : List ℕ) (files : List Entry) : Type 0 where
    pub catalogued : catalogue new ≡ with_more_files (next_of image) files (catalogue image)
    pub before : (n : ℕ) → index_of image ≤ n → n < next_of image → sector new n ≡ sector image n
    pub kept : HasSectors from new (next_of image) files

  pub copies : (image : List ℕ) (files : List Entry) → Ready from image files → Copies image (with_copies from image files) files
  copies image [] r = record { catalogued = refl; before = λ n low high. refl; kept = tt }
  copies image (e ∷ files) r =
      let c = ready-copy image e files r in
      let inside = inside-of from source e r.live.0 in
      let next = with_copy from image e in
      let new = with_copies from image (e ∷ files) in
      let rest = copies next files (ready-next image e files r) in
      let ordered = (Parts-of (layout_of image) image r.good).files in
      record {
        catalogued = rest.catalogued ∙ ap₂ (λ (n : ℕ) (m : Catalogue). with_more_files n files m) c.1.next c.1.files;
        before = λ n low high. rest.before n (omega (arith, low, c.1.index)) (omega (arith, high, c.1.next)) ∙ c.1.before n low high;
        kept = (
          same-sectors next new (next_of image) (e.end - e.start) (λ n low high. rest.before n (omega (arith, low, ordered, c.1.index)) (omega (arith, high, c.1.next))) ∙ c.1.kept,
          subst (λ (n : ℕ). HasSectors from new n files) c.1.next rest.kept,
        );
      }

-- ---- an emptied image

all-absent : (m : Catalogue) → m ≡ empty → (files : List Entry) → AllAbsent m files
all-absent m h [] = tt
all-absent m h (e ∷ files) = (ap (λ (m : Catalogue). get m e.name) h ∙ get-empty (slice_cmp nat_cmp) e.name, all-absent m h files)

free-row : (slot : List ℕ) → slot ≡ replicate 16 0 → is_free slot ≡ true
unfolding is_free
free-row slot h = ap is_free h

none-left : (files : List Entry) → total_sectors files ≡ 0 → files ≡ []
none-left [] h = refl
none-left (e ∷ files) h = absurd (omega (arith, h))

pub record Emptied (to image : List ℕ) : Type 0 where
  pub good : IsGood image
  pub next : next_of image ≡ index_of to
  pub end : end_of image ≡ end_of to
  pub files : catalogue image ≡ empty

module _ (to : List ℕ) (good : IsGood to) (few : index_of to ≤ 255) where
  some-to : 1 ≤ index_of to
  some-to = (Parts-of (layout_of to) to good).some

  no-file : index_of to ≡ next_of to → (q : List ℕ) (o : Option Entry) → get (catalogue to) q ≡ o → o ≡ None
  no-file same q None is = refl
  no-file same q (Some e) is =
      let w = stands to q e is in
      let f = FileSlot-from to q w.0 good w.1.at in
      absurd (omega (arith, f.low, f.order, f.high, same))

  no-files : index_of to ≡ next_of to → catalogue to ≡ empty
  no-files same = same_map nat_list_cmp_total (slice_cmp-IsAntisymmetric nat_cmp-IsAntisymmetric) (catalogue to) empty (λ q. no-file same q (get (catalogue to) q) refl ∙ sym (get-empty (slice_cmp nat_cmp) q))

  module _ (room : index_of to < end_of to) where
    can : CanFormat (layout_of to) to (index_of to) (end_of to - 1)
    can =
        let parts = Parts-of (layout_of to) to good in
        record { some = parts.some; few = few; order = omega (arith, room); within = omega (arith, room, parts.rest) }

    formatted-as : Emptied to (formatted (layout_of to) to (index_of to) (end_of to - 1))
    formatted-as =
        let head = formatted_head to (index_of to) (end_of to - 1) good can in
        let new = formatted (layout_of to) to (index_of to) (end_of to - 1) in
        let made = formatted_good (layout_of to) to (index_of to) (end_of to - 1) good can in
        let same = same_layout to new made in
        record {
          good = own_good (layout_of to) _ made;
          next = ap (λ (l : Layout). next_free l new) same ∙ head.next;
          end = ap (λ (l : Layout). catalogue_end l new) same ∙ (let e = head.end in omega (arith, e, room));
          files = catalogue-formatted to (index_of to) (end_of to - 1) good can;
        }

    formatted-free : free_slots (formatted (layout_of to) to (index_of to) (end_of to - 1)) ≡ 16 * index_of to - 1
    formatted-free =
        let head = formatted_head to (index_of to) (end_of to - 1) good can in
        let new = formatted (layout_of to) to (index_of to) (end_of to - 1) in
        ap (λ (i : ℕ). count (λ (k : ℕ). is_free (row new k)) 1 (16 * i - 1)) head.index
        ∙ count-all (λ (k : ℕ). is_free (row new k)) 1 (16 * index_of to - 1)
        (λ k low high. free-row (row new k) (formatted_row to (index_of to) (end_of to - 1) good can k low (omega (arith, low, high))))

  emptied-by : (b : Bool) → nat_lt (index_of to) (end_of to) ≡ b → Emptied to (cond b (formatted (layout_of to) to (index_of to) (end_of to - 1)) to)
  emptied-by true is = formatted-as (ltb-true (index_of to) (end_of to) is)
  emptied-by false is =
      let full = ltb-false (index_of to) (end_of to) is in
      let parts = Parts-of (layout_of to) to good in
      let same : index_of to ≡ next_of to = omega (arith, full, parts.files, parts.free) in
      record { good = good; next = sym same; end = refl; files = no-files same }

  pub emptied-as : Emptied to (emptied to)
  emptied-as = emptied-by (nat_lt (index_of to) (end_of to)) refl

  module _ (files : List Entry) (count : length files ≤ 16 * index_of to - 1) (room : index_of to + total_sectors files ≤ end_of to) where
    slots-by : (b : Bool) → nat_lt (index_of to) (end_of to) ≡ b → length files ≤ free_slots (cond b (formatted (layout_of to) to (index_of to) (end_of to - 1)) to)
    slots-by true is = let all = formatted-free (ltb-true (index_of to) (end_of to) is) in omega (arith, all, count)
    slots-by false is =
        let full = ltb-false (index_of to) (end_of to) is in
        let none = ap (length {A = Entry}) (none-left files (omega (arith, full, room))) in
        omega (arith, none)

    pub slots-left : length files ≤ free_slots (emptied to)
    slots-left = slots-by (nat_lt (index_of to) (end_of to)) refl

-- what it says that files are moved
pub room-of : (to : List ℕ) (files : List Entry) → all_refusal files to ≡ None → (length files ≤ 16 * index_of to - 1) × (index_of to + total_sectors files ≤ end_of to)
room-of to files h =
    let first = refused-by (nat_lt (16 * index_of to - 1) (length files)) true _ D85_INDEX_FULL h in
    let second = refused-by (nat_lt (end_of to) (index_of to + total_sectors files)) true None D86_NO_ROOM first.1 in
    (ltb-false (16 * index_of to - 1) (length files) first.0, ltb-false (end_of to) (index_of to + total_sectors files) second.0)

pub ready-first : (from to : List ℕ) (files : List Entry) → IsGood to → index_of to ≤ 255 → AreLiveFiles from files → all_refusal files to ≡ None → Ready from (emptied to) files
ready-first from to files good few are allowed =
    let room = room-of to files allowed in
    let e = emptied-as to good few in
    record {
      good = e.good;
      live = are.live;
      least = 0;
      ordered = are.ordered;
      absent = all-absent (catalogue (emptied to)) e.files files;
      slots = slots-left to good few files room.0 room.1;
      room = (let m = room.1 in omega (arith, m, e.next, e.end));
    }

-- what is left of all files after some of them
pub files-left : (files : List Entry) (k : ℕ) (e : Entry) → k < length files → e ≡ get_or files k e → drop k files ≡ e ∷ drop (k + 1) files
files-left files k e h is = drop-cons files k e h ∙ ap₂ (λ (f : Entry) (n : ℕ). f ∷ drop n files) (sym is) (sym (add-one k))

-- all are moved
pub moved-all : (from to : List ℕ) (files : List Entry) → IsGood from → IsGood to → index_of to ≤ 255 → AreLiveFiles from files → all_refusal files to ≡ None → MovedAll from to (with_copies from (emptied to) files)
moved-all from to files source good few are allowed =
    let e = emptied-as to good few in
    let c = copies from source (emptied to) files (ready-first from to files good few are allowed) in
    record {
      files = files;
      are = are;
      allowed = allowed;
      image = refl;
      catalogued = c.catalogued ∙ ap₂ (λ (n : ℕ) (m : Catalogue). with_more_files n files m) e.next e.files;
      kept = subst (λ (n : ℕ). HasSectors from (with_copies from (emptied to) files) n files) e.next c.kept;
    }
