-- An image whose index stays, and whose control sectors stay, stays good.
use Rattle.std.proofs.Common.{◌≡◌, ℕ, zero, suc, ◌+◌, ◌-◌, ◌*◌, ◌/◌, ◌%◌, ◌<◌, ◌≤◌, Bool, true, false, ◌&&◌, ◌||◌, ◌==◌, not, List, map, length, slice_index, refl, sym, ap, ◌∙◌, inl, inr, arith}
use Rattle.std.specs.List.{range_with_len}
use Rattle.std.proofs.lemmas.Bool.{and_parts, and_from, ltb-true, leb-true, le-leb, cases_order, not-true, false≢true, cond_both}
use Rattle.b2_platter.specs.declared.layout.Layout.{Layout}
use Rattle.b2_platter.specs.Layout.{sector_number_at, first_place, second_place, third_place}
use Rattle.b2_platter.specs.Slot.{is_free, is_entry, slot_start, slot_end, slot_name}
use Rattle.b2_platter.specs.Image.{row, image_head, sector, index_of, total_of, catalogue_end, next_free, first_slot, has_free, hash, is_clear_to}
use Rattle.b2_platter.specs.Checks.{is_sized, has_head, is_ordered, is_reachable, lie_apart, is_control, is_controlled, Good}
use Rattle.b2_platter.specs.Edits.{put_sector, holds_data, is_data_sector}
use Rattle.b2_platter.proofs.Ranges.{list_any-same, list_any-found}
use Rattle.b2_platter.proofs.Rooms.{LiesIn-from}
use Rattle.b2_platter.proofs.Goodness.{Parts-of}
use Rattle.b2_platter.proofs.Soundness.{Sound-from_Good, Good-from_Sound}
use Rattle.b2_platter.proofs.Puts.{length-put_sector, row_before, sector_before, sector_after}

pub first_slot-low : (s : ℕ) → first_slot s ≤ 16 * s + 1
first_slot-low s = cond_both (s == 0) 1 (16 * s) (λ v. v ≤ 16 * s + 1) (λ e. omega arith) (λ e. omega arith)

-- no sector gets a free slot: what is clear stays clear
clear_step : (o f g f' g' : Bool) → (f ≡ true → g ≡ true) → (g' ≡ true → f' ≡ true) → (o || (not g && g')) ≡ true → (o || (not f && f')) ≡ true
clear_step true f g f' g' fewer rest h = refl
clear_step false false false f' g' fewer rest h = rest h
clear_step false false true f' g' fewer rest h = cc
clear_step false true false f' g' fewer rest h = absurd (false≢true (fewer refl))
clear_step false true true f' g' fewer rest h = h

pub clear_fewer : (f g : ℕ → Bool) (own first index j n : ℕ) → 1 ≤ index → ((s : ℕ) → s < index → f s ≡ true → g s ≡ true) → is_clear_to g own (map (λ (j : ℕ). (first + j) % index) (range_with_len j n)) ≡ true → is_clear_to f own (map (λ (j : ℕ). (first + j) % index) (range_with_len j n)) ≡ true
clear_fewer f g own first index j zero some fewer h = refl
clear_fewer f g own first index j (suc n) some fewer h =
    clear_step _ _ _ _ _ (fewer ((first + j) % index) (omega arith)) (clear_fewer f g own first index (j + 1) n some fewer) h

module _ (layout : Layout) (a b : List ℕ) (same : image_head b ≡ image_head a) where
  pub index-same : index_of b ≡ index_of a
  unfolding index_of
  index-same = ap (λ (h : List ℕ). slice_index h 1) same

  pub total-same : total_of layout b ≡ total_of layout a
  unfolding total_of
  total-same = ap (sector_number_at layout first_place) same

  pub end-same : catalogue_end layout b ≡ catalogue_end layout a
  unfolding catalogue_end
  end-same = ap (sector_number_at layout (second_place layout)) same

  pub next-same : next_free layout b ≡ next_free layout a
  unfolding next_free
  next-same = ap (sector_number_at layout (third_place layout)) same

pub sized-same : (a b : List ℕ) → length b ≡ length a → is_sized a ≡ true → is_sized b ≡ true
unfolding is_sized
sized-same a b long h = rw long h

pub image_head-same : (layout : Layout) (a b : List ℕ) → length b ≡ length a → image_head b ≡ image_head a → has_head layout a ≡ true → has_head layout b ≡ true
unfolding has_head
image_head-same layout a b long same h = rw (long, index-same layout a b same, total-same layout a b same, same) h

pub ordered-same : (layout : Layout) (a b : List ℕ) → image_head b ≡ image_head a → is_ordered layout a ≡ true → is_ordered layout b ≡ true
unfolding is_ordered
ordered-same layout a b same h = rw (index-same layout a b same, total-same layout a b same, end-same layout a b same, next-same layout a b same) h

pub guard_step : (e p q : Bool) → (p ≡ true → q ≡ true) → (not e || p) ≡ true → (not e || q) ≡ true
guard_step true p q step h = step h
guard_step false p q step h = refl

pub controlled-same : (layout : Layout) (a b slot : List ℕ) → (is_entry slot ≡ true → sector b (slot_end layout slot) ≡ sector a (slot_end layout slot)) → is_controlled layout a slot ≡ true → is_controlled layout b slot ≡ true
unfolding is_controlled
controlled-same layout a b slot ends h =
    let with_entry : (e : Bool) → is_entry slot ≡ e → (not e || is_control layout (slot_end layout slot - slot_start layout slot) (sector a (slot_end layout slot))) ≡ true → (not e || is_control layout (slot_end layout slot - slot_start layout slot) (sector b (slot_end layout slot))) ≡ true =
    λ e is was. elim e as (λ (v : Bool). is_entry slot ≡ v → (not v || is_control layout (slot_end layout slot - slot_start layout slot) (sector a (slot_end layout slot))) ≡ true → (not v || is_control layout (slot_end layout slot - slot_start layout slot) (sector b (slot_end layout slot))) ≡ true) [
      | true ↦ λ i w. ap (is_control layout (slot_end layout slot - slot_start layout slot)) (ends i) ∙ w
      | false ↦ λ i w. refl
    ] is was in
    with_entry (is_entry slot) refl h

module _ (layout : Layout) (a b : List ℕ) (long : length b ≡ length a) (good : Good layout a) (rows : (k : ℕ) → k < 16 * index_of a → row b k ≡ row a k) (ends : (k : ℕ) → 1 ≤ k → k < 16 * index_of a → is_entry (row a k) ≡ true → sector b (slot_end layout (row a k)) ≡ sector a (slot_end layout (row a k))) where
  some : 1 ≤ index_of a
  some = (Parts-of layout a good).some

  heads : image_head b ≡ image_head a
  heads = rows 0 (let s = some in omega arith)

  free-same : (s : ℕ) → s < index_of a → has_free b s ≡ has_free a s
  unfolding has_free
  free-same s h =
      list_any-same _ _ (first_slot s) (16 * s + 16 - first_slot s) (λ k low high. ap is_free (rows k (let first = first_slot-low s in omega arith)))

  reached-same : (k : ℕ) → k < 16 * index_of a → is_reachable a k ≡ true → is_reachable b k ≡ true
  unfolding is_reachable
  reached-same k h was =
      rw (rows k h, index-same layout a b heads)
      (guard_step (is_entry (row a k)) _ _ (clear_fewer (has_free b) (has_free a) (k / 16) (hash (index_of a) (slot_name (row a k))) (index_of a) 0 (index_of a) some (λ s below e. sym (free-same s below) ∙ e)) was)

  pub kept_good : Good layout b
  kept_good =
      let s = Sound-from_Good layout a good in
      let i = index-same layout a b heads in
      let next = next-same layout a b heads in
      Good-from_Sound layout b (record {
        sized = sized-same a b long s.sized;
        head = image_head-same layout a b long heads s.head;
        ordered = ordered-same layout a b heads s.ordered;
        lies = λ k low high. rw (i, next, rows k (omega (arith, i))) (s.lies k low (omega (arith, i)));
        spelled = λ k low high. rw (rows k (omega (arith, i))) (s.spelled k low (omega (arith, i)));
        names = λ j k low order high. rw (rows j (omega (arith, i)), rows k (omega (arith, i))) (s.names j k low order (omega (arith, i)));
        reached = λ k low high. reached-same k (omega (arith, i)) (s.reached k low (omega (arith, i)));
        apart = λ j k low order high. rw (rows j (omega (arith, i)), rows k (omega (arith, i))) (s.apart j k low order (omega (arith, i)));
        controls = λ k low high. rw (rows k (omega (arith, i))) (controlled-same layout a b (row a k) (ends k low (omega (arith, i))) (s.controls k low (omega (arith, i))));
      })

-- what a test of a data sector says
pub record HoldsData (layout : Layout) (slot : List ℕ) (n : ℕ) : Type 0 where
  pub entry : is_entry slot ≡ true
  pub low : slot_start layout slot ≤ n
  pub high : n < slot_end layout slot

pub HoldsData-from : (layout : Layout) (slot : List ℕ) (n : ℕ) → holds_data layout slot n ≡ true → HoldsData layout slot n
unfolding holds_data
HoldsData-from layout slot n h =
    let outer = and_parts _ _ h in
    let inner = and_parts _ _ outer.0 in
    record { entry = inner.0; low = leb-true _ _ inner.1; high = ltb-true _ _ outer.1 }

-- two files that share no sector
pub shared : (layout : Layout) (slot other : List ℕ) → lie_apart layout slot other ≡ true → is_entry slot ≡ true → is_entry other ≡ true → slot_start layout slot ≤ slot_end layout other → slot_start layout other ≤ slot_end layout slot → ⊥
unfolding lie_apart
shared layout slot other h e f low high =
    false≢true (sym (not-true _ h) ∙ and_from _ _ (and_from _ _ (and_from _ _ e f) (le-leb _ _ low)) (le-leb _ _ high))

module _ (layout : Layout) (image : List ℕ) (good : Good layout image) (n : ℕ) (within : is_data_sector layout image n ≡ true) where
  place : (k : ℕ) × (1 ≤ k) × (k < 1 + (16 * index_of image - 1)) × (holds_data layout (row image k) n ≡ true)
  unfolding is_data_sector
  place = list_any-found _ 1 (16 * index_of image - 1) within

  -- no file ends at a data sector of a file
  pub no_end : (k : ℕ) → 1 ≤ k → k < 16 * index_of image → is_entry (row image k) ≡ true → n ≡ slot_end layout (row image k) → ⊥
  no_end k low high e is =
      let s = Sound-from_Good layout image good in
      let m = place.0 in
      let d = HoldsData-from layout (row image m) n place.3 in
      let m_high : m < 16 * index_of image = omega (arith, place.2) in
      let lies = LiesIn-from layout (index_of image) (next_free layout image) (row image k) (s.lies k low high) e in
      elim (cases_order m k) [
        | inl at ↦ (let same : n ≡ slot_end layout (row image m) = is ∙ ap (λ (q : ℕ). slot_end layout (row image q)) (sym at) in omega (arith, d.high, same))
        | inr unequal ↦ elim unequal [
          | inl less ↦ shared layout (row image m) (row image k) (s.apart m k place.1 less high) d.entry e (omega (arith, d.low, is)) (omega (arith, lies.order, d.high, is))
          | inr more ↦ shared layout (row image k) (row image m) (s.apart k m low more m_high) e d.entry (omega (arith, lies.order, d.high, is)) (omega (arith, d.low, is))
        ]
      ]

  -- it lies between the index and the image's end
  pub data_low : index_of image ≤ n
  data_low =
      let s = Sound-from_Good layout image good in
      let d = HoldsData-from layout (row image place.0) n place.3 in
      let lies = LiesIn-from layout (index_of image) (next_free layout image) (row image place.0) (s.lies place.0 place.1 (omega (arith, place.1, place.2))) d.entry in
      omega (arith, d.low, lies.low)

  pub data_room : 256 * n + 256 ≤ length image
  data_room =
      let s = Sound-from_Good layout image good in
      let p = Parts-of layout image good in
      let d = HoldsData-from layout (row image place.0) n place.3 in
      let lies = LiesIn-from layout (index_of image) (next_free layout image) (row image place.0) (s.lies place.0 place.1 (omega (arith, place.1, place.2))) d.entry in
      omega (arith, d.high, lies.high, p.free, p.rest, p.whole)

  pub put_file_good : (bytes : List ℕ) → length bytes ≡ 256 → Good layout (put_sector image n bytes)
  put_file_good bytes long =
      kept_good layout image (put_sector image n bytes) (length-put_sector image n bytes long data_room) good
      (λ k below. row_before image n bytes long data_room k (omega (arith, data_low)))
      (λ k low high e. elim (cases_order (slot_end layout (row image k)) n) as (λ _. sector (put_sector image n bytes) (slot_end layout (row image k)) ≡ sector image (slot_end layout (row image k))) [
        | inl at ↦ absurd (no_end k low high e (sym at))
        | inr unequal ↦ elim unequal as (λ _. sector (put_sector image n bytes) (slot_end layout (row image k)) ≡ sector image (slot_end layout (row image k))) [
          | inl less ↦ sector_before image n bytes long data_room (slot_end layout (row image k)) less
          | inr more ↦ sector_after image n bytes long data_room (slot_end layout (row image k)) more
        ]
      ])
