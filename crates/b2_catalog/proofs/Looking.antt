-- On a good image a look-up from the hash on finds the one slot that has the name, wherever it stands.
use Rattle.std.proofs.Common.{◌≡◌, ◌≢◌, ℕ, zero, suc, ◌+◌, ◌-◌, ◌*◌, ◌/◌, ◌%◌, ◌<◌, ◌≤◌, Bool, true, false, ◌&&◌, ◌||◌, ◌==◌, not, cond, List, ◌∷◌, map, Option, Some, None, refl, sym, ap, ◌∙◌, subst, inl, inr, arith}
use Rattle.std.specs.Prelude.{is_some, IfSome, length}
use Rattle.std.specs.List.{range_with_len, find}
use Rattle.std.proofs.lemmas.Bool.{and_parts, and_from, cases_order, cases_eq, not-true, false≢true, ne_eqb, eqb-true, eqb-false, cases_lt, cond_both, false_from_ne_true}
use Rattle.std.proofs.Math.Nat.{add-mod_right, mod-eq_of_lt}
use Rattle.std.proofs.lemmas.Slice.Eq.{bytes_eq-Decides}
use Rattle.b2_platter.specs.Layout.{layout_of}
use Rattle.b2_platter.specs.Slot.{is_entry, slot_start, slot_end, slot_name}
use Rattle.b2_platter.specs.Image.{row, index_of, total_of, next_free, first_slot, has_free, hash, is_clear_to}
use Rattle.b2_platter.specs.Checks.{differ_in_name, is_reachable, IsGood}
use Rattle.b2_platter.proofs.Ranges.{here}
use Rattle.b2_platter.proofs.Rooms.{LiesIn-from}
use Rattle.b2_platter.proofs.Goodness.{Parts-of}
use Rattle.b2_platter.proofs.Soundness.{Sound-from_Good}
use Rattle.b2_platter.proofs.Kept.{first_slot-low}
use Rattle.b2_catalog.specs.Ways.{has_name, slot_in, way_of, found_along, slot_found, IsSlotOf}

-- what a search in a range finds
pub find-none : (p : ℕ → Bool) (a n : ℕ) → ((k : ℕ) → a ≤ k → k < a + n → p k ≡ false) → find p (range_with_len a n) ≡ None
find-none p a zero h = refl
find-none p a (suc n) h =
    ap (λ (b : Bool). cond b (Some a) (find p (range_with_len (a + 1) n))) (h a (omega arith) (omega arith)) ∙ find-none p (a + 1) n (λ k low high. h k (omega arith) (omega arith))

pub record Found (p : ℕ → Bool) (a n k : ℕ) : Type 0 where
  pub low : a ≤ k
  pub high : k < a + n
  pub passes : p k ≡ true

found_split : (p : ℕ → Bool) (a n k : ℕ) (b : Bool) → p a ≡ b → cond b (Some a) (find p (range_with_len (a + 1) n)) ≡ Some k → (find p (range_with_len (a + 1) n) ≡ Some k → Found p (a + 1) n k) → Found p a (suc n) k
found_split p a n k true e h later = let same : a ≡ k = cc in record { low = omega arith; high = omega arith; passes = subst (λ (m : ℕ). p m ≡ true) same e }
found_split p a n k false e h later = let f = later h in record { low = omega (arith, f.low); high = omega (arith, f.high); passes = f.passes }

pub find-some : (p : ℕ → Bool) (a n k : ℕ) → find p (range_with_len a n) ≡ Some k → Found p a n k
find-some p a zero k h = cc
find-some p a (suc n) k h = found_split p a n k (p a) refl h (find-some p (a + 1) n k)

missed_split : (p : ℕ → Bool) (a n k : ℕ) (b : Bool) → p a ≡ b → a ≤ k → cond b (Some a) (find p (range_with_len (a + 1) n)) ≡ None → (find p (range_with_len (a + 1) n) ≡ None → a + 1 ≤ k → p k ≡ false) → p k ≡ false
missed_split p a n k true e low h later = cc
missed_split p a n k false e low h later = elim (here a k low) [ inl same ↦ subst (λ (m : ℕ). p m ≡ false) same e | inr l ↦ later h l ]

pub find-missed : (p : ℕ → Bool) (a n : ℕ) → find p (range_with_len a n) ≡ None → (k : ℕ) → a ≤ k → k < a + n → p k ≡ false
find-missed p a zero h k low high = absurd (omega arith)
find-missed p a (suc n) h k low high = missed_split p a n k (p a) refl low h (λ e l. find-missed p (a + 1) n e k l (omega arith))

-- the only number that passes is found
only_split : (p : ℕ → Bool) (a n k : ℕ) → a ≤ k → k < a + n → p k ≡ true → ((j : ℕ) → a ≤ j → j < a + n → p j ≡ true → j ≡ k) → (o : Option ℕ) → find p (range_with_len a n) ≡ o → o ≡ Some k
only_split p a n k low high passes only None e = absurd (false≢true (sym (find-missed p a n e k low high) ∙ passes))
only_split p a n k low high passes only (Some j) e = let f = find-some p a n j e in ap Some (only j f.low f.high f.passes)

pub find-only : (p : ℕ → Bool) (a n k : ℕ) → a ≤ k → k < a + n → p k ≡ true → ((j : ℕ) → a ≤ j → j < a + n → p j ≡ true → j ≡ k) → find p (range_with_len a n) ≡ Some k
find-only p a n k low high passes only = only_split p a n k low high passes only (find p (range_with_len a n)) refl

-- the slots of a sector
pub first_slot-high : (s : ℕ) → 16 * s ≤ first_slot s
first_slot-high s = cond_both (s == 0) 1 (16 * s) (λ v. 16 * s ≤ v) (λ e. let is : s ≡ 0 = eqb-true s 0 e in omega arith) (λ e. omega arith)

pub first_slot-le : (s k : ℕ) → 1 ≤ k → 16 * s ≤ k → first_slot s ≤ k
first_slot-le s k low from = cond_both (s == 0) 1 (16 * s) (λ v. v ≤ k) (λ e. low) (λ e. from)

pub first_slot-some : (s : ℕ) → 1 ≤ first_slot s
first_slot-some s = cond_both (s == 0) 1 (16 * s) (λ v. 1 ≤ v) (λ e. omega arith) (λ e. let is : s ≢ 0 = eqb-false s 0 e in omega arith)

-- what holding a name says
pub record Holds (name slot : List ℕ) : Type 0 where
  pub entry : is_entry slot ≡ true
  pub same : slot_name slot ≡ name

pub Holds-from : (name slot : List ℕ) → has_name name slot ≡ true → Holds name slot
unfolding has_name
Holds-from name slot h = let parts = and_parts _ _ h in record { entry = parts.0; same = (bytes_eq-Decides (slot_name slot) name).0 parts.1 }

pub has_name-from : (name slot : List ℕ) → is_entry slot ≡ true → slot_name slot ≡ name → has_name name slot ≡ true
unfolding has_name
has_name-from name slot e same = and_from _ _ e ((bytes_eq-Decides (slot_name slot) name).1 same)

-- two slots that differ in name
names_apart : (slot other : List ℕ) → differ_in_name slot other ≡ true → is_entry slot ≡ true → is_entry other ≡ true → slot_name slot ≡ slot_name other → ⊥
unfolding differ_in_name
names_apart slot other h e f same =
    false≢true (sym (not-true _ h) ∙ and_from _ _ (and_from _ _ e f) ((bytes_eq-Decides (slot_name slot) (slot_name other)).1 same))

-- what is found along sectors of which none has the name, and along some of which one has
sector_misses : (slot : ℕ → Option ℕ) (free : ℕ → Bool) (s : ℕ) (rest : List ℕ) → slot s ≡ None → free s ≡ false → found_along slot free (s ∷ rest) ≡ found_along slot free rest
sector_misses slot free s rest e f =
    ap (λ (o : Option ℕ). cond (is_some o) o (cond (free s) None (found_along slot free rest))) e ∙ ap (λ (b : Bool). cond b None (found_along slot free rest)) f

sector_hits : (slot : ℕ → Option ℕ) (free : ℕ → Bool) (s k : ℕ) (rest : List ℕ) → slot s ≡ Some k → found_along slot free (s ∷ rest) ≡ Some k
sector_hits slot free s k rest e = ap (λ (o : Option ℕ). cond (is_some o) o (cond (free s) None (found_along slot free rest))) e

either_none : (b : Bool) (o : Option ℕ) → o ≡ None → cond b None o ≡ None
either_none true o e = refl
either_none false o e = e

pub found-nowhere : (slot : ℕ → Option ℕ) (free : ℕ → Bool) (first index j n : ℕ) → 1 ≤ index → ((s : ℕ) → s < index → slot s ≡ None) → found_along slot free (map (λ (j : ℕ). (first + j) % index) (range_with_len j n)) ≡ None
found-nowhere slot free first index j zero some none = refl
found-nowhere slot free first index j (suc n) some none =
    let s = (first + j) % index in
    ap (λ (o : Option ℕ). cond (is_some o) o (cond (free ((first + j) % index)) None (found_along slot free (map (λ (j : ℕ). (first + j) % index) (range_with_len (j + 1) n))))) (none ((first + j) % index) (omega arith))
    ∙ either_none (free ((first + j) % index)) _ (found-nowhere slot free first index (j + 1) n some none)

clear_parts : (o f rest : Bool) → (o || (not f && rest)) ≡ true → o ≡ false → (f ≡ false) × (rest ≡ true)
clear_parts true f rest h e = cc
clear_parts false true rest h e = cc
clear_parts false false rest h e = (refl, h)

pub found-there : (slot : ℕ → Option ℕ) (free : ℕ → Bool) (own k first index j n i : ℕ) → 1 ≤ index → slot own ≡ Some k → ((s : ℕ) → s < index → s ≢ own → slot s ≡ None) → is_clear_to free own (map (λ (j : ℕ). (first + j) % index) (range_with_len j n)) ≡ true → j ≤ i → i < j + n → (first + i) % index ≡ own → found_along slot free (map (λ (j : ℕ). (first + j) % index) (range_with_len j n)) ≡ Some k
found-there slot free own k first index j zero i some hit others clear low high at = absurd (omega arith)
found-there slot free own k first index j (suc n) i some hit others clear low high at =
    elim (cases_eq ((first + j) % index) own) [
      | inl same ↦ sector_hits slot free ((first + j) % index) k _ (ap slot same ∙ hit)
      | inr other ↦ (
          let parts = clear_parts _ _ _ clear (ne_eqb _ _ other) in
          let later : (j ≡ i → ⊥) = λ e. other (ap (λ (q : ℕ). (first + q) % index) e ∙ at) in
          sector_misses slot free ((first + j) % index) _ (others ((first + j) % index) (omega arith) other) parts.0
          ∙ found-there slot free own k first index (j + 1) n i some hit others parts.1 (elim (here j i low) [ inl e ↦ absurd (later e) | inr l ↦ l ]) (omega arith) at
          )
    ]

-- each sector is met on the way around
pub met : (first index own : ℕ) → first < index → own < index → (i : ℕ) × (i < index) × ((first + i) % index ≡ own)
met first index own f o =
    elim (cases_lt own first) as (λ _. (i : ℕ) × (i < index) × ((first + i) % index ≡ own)) [
      | inl before ↦ (own + index - first, omega arith, ap (λ (q : ℕ). q % index) (omega arith) ∙ add-mod_right own index ∙ mod-eq_of_lt o)
      | inr after ↦ (own - first, omega arith, ap (λ (q : ℕ). q % index) (omega arith) ∙ mod-eq_of_lt o)
    ]

pub clear_of : (e rest : Bool) → (not e || rest) ≡ true → e ≡ true → rest ≡ true
clear_of true rest h e = h
clear_of false rest h e = cc

module _ (image : List ℕ) (good : IsGood image) (name : List ℕ) where
  some : 1 ≤ index_of image
  some = (Parts-of (layout_of image) image good).some

  -- no other slot has the name
  pub one_slot : (j k : ℕ) → 1 ≤ j → j < 16 * index_of image → 1 ≤ k → k < 16 * index_of image → has_name name (row image j) ≡ true → has_name name (row image k) ≡ true → j ≡ k
  one_slot j k j_low j_high k_low k_high hj hk =
      let s = Sound-from_Good (layout_of image) image good in
      let a = Holds-from name (row image j) hj in
      let b = Holds-from name (row image k) hk in
      elim (cases_order j k) [
        | inl same ↦ same
        | inr unequal ↦ elim unequal [
          | inl less ↦ absurd (names_apart (row image j) (row image k) (s.names j k j_low less k_high) a.entry b.entry (a.same ∙ sym b.same))
          | inr more ↦ absurd (names_apart (row image k) (row image j) (s.names k j k_low more j_high) b.entry a.entry (b.same ∙ sym a.same))
        ]
      ]

  pub in_slots : (s j : ℕ) → s < index_of image → first_slot s ≤ j → j < first_slot s + (16 * s + 16 - first_slot s) → (1 ≤ j) × (j < 16 * index_of image) × (16 * s ≤ j) × (j < 16 * s + 16)
  in_slots s j below low high =
      let least = first_slot-some s in
      let from = first_slot-high s in
      let most = first_slot-low s in
      (omega arith, omega arith, omega arith, omega arith)

  pub absent : slot_found image name ≡ None → (s : ℕ) → s < index_of image → slot_in image name s ≡ None
  unfolding slot_found slot_in
  absent none s below =
      find-none _ (first_slot s) (16 * s + 16 - first_slot s) (λ j low high. let at = in_slots s j below low high in find-missed _ 1 (16 * index_of image - 1) none j at.0 (omega (arith, at.1)))

  module _ (k : ℕ) (is : slot_found image name ≡ Some k) where
    found : Found (λ (k : ℕ). has_name name (row image k)) 1 (16 * index_of image - 1) k
    unfolding slot_found
    found = find-some _ 1 (16 * index_of image - 1) k is

    k_high : k < 16 * index_of image
    k_high = let f = found in omega (arith, f.low, f.high)

    own_hits : slot_in image name (k / 16) ≡ Some k
    unfolding slot_in
    own_hits =
        let f = found in
        let least = first_slot-le (k / 16) k f.low (omega arith) in
        find-only _ (first_slot (k / 16)) (16 * (k / 16) + 16 - first_slot (k / 16)) k least (omega arith) f.passes
        (λ j low high h. let at = in_slots (k / 16) j (let top = k_high in omega arith) low high in one_slot j k at.0 at.1 f.low k_high h f.passes)

    others_miss : (s : ℕ) → s < index_of image → s ≢ k / 16 → slot_in image name s ≡ None
    unfolding slot_in
    others_miss s below other =
        let f = found in
        find-none _ (first_slot s) (16 * s + 16 - first_slot s)
        (λ j low high. let at = in_slots s j below low high in false_from_ne_true _ (λ h. let same : j ≡ k = one_slot j k at.0 at.1 f.low k_high h f.passes in other (omega (arith, at.2, at.3))))

    present : found_along (slot_in image name) (has_free image) (way_of image name) ≡ Some k
    unfolding is_reachable
    present =
        let f = found in
        let h = Holds-from name (row image k) f.passes in
        let s = Sound-from_Good (layout_of image) image good in
        let was : is_reachable image k ≡ true = s.reached k f.low k_high in
        let clear = clear_of (is_entry (row image k)) _ was h.entry in
        let clear' : is_clear_to (has_free image) (k / 16) (way_of image name) ≡ true = subst (λ (n : List ℕ). is_clear_to (has_free image) (k / 16) (way_of image n) ≡ true) h.same clear in
        let m = met (hash (index_of image) name) (index_of image) (k / 16) (omega (arith, some)) (omega (arith, k_high)) in
        found-there (slot_in image name) (has_free image) (k / 16) k (hash (index_of image) name) (index_of image) 0 (index_of image) m.0 some own_hits others_miss clear' (omega arith) (omega (arith, m.1)) m.2

  by_slot : (o : Option ℕ) → slot_found image name ≡ o → found_along (slot_in image name) (has_free image) (way_of image name) ≡ o
  by_slot None e = found-nowhere (slot_in image name) (has_free image) (hash (index_of image) name) (index_of image) 0 (index_of image) some (absent e)
  by_slot (Some k) e = present k e

  pub found_is_slot : found_along (slot_in image name) (has_free image) (way_of image name) ≡ slot_found image name
  found_is_slot = by_slot (slot_found image name) refl

-- the slot that is found is one of the index, and has the name
pub IsSlotOf-from : (image name : List ℕ) (k : ℕ) → slot_found image name ≡ Some k → IsSlotOf image name k
unfolding slot_found
IsSlotOf-from image name k is =
    let f = find-some (λ (k : ℕ). has_name name (row image k)) 1 (16 * index_of image - 1) k is in
    record { low = f.low; high = omega (arith, f.low, f.high); held = f.passes }

pub held-from_found : (image name : List ℕ) (o : Option ℕ) → o ≡ slot_found image name → IfSome o (IsSlotOf image name)
held-from_found image name None e = tt
held-from_found image name (Some k) e = IsSlotOf-from image name k (sym e)

-- what a good image says of the slot of a file
pub record FileSlot (image : List ℕ) (k : ℕ) : Type 0 where
  pub room : 16 * k + 16 ≤ length image
  pub low : index_of image ≤ slot_start (layout_of image) (row image k)
  pub order : slot_start (layout_of image) (row image k) < slot_end (layout_of image) (row image k)
  pub high : slot_end (layout_of image) (row image k) < next_free (layout_of image) image
  pub within : slot_end (layout_of image) (row image k) < total_of (layout_of image) image
  pub inside : 256 * slot_end (layout_of image) (row image k) + 256 ≤ length image

pub FileSlot-from : (image name : List ℕ) (k : ℕ) → IsGood image → IsSlotOf image name k → FileSlot image k
FileSlot-from image name k good at =
    let parts = Parts-of (layout_of image) image good in
    let s = Sound-from_Good (layout_of image) image good in
    let lies = LiesIn-from (layout_of image) (index_of image) (next_free (layout_of image) image) (row image k) (s.lies k at.low at.high) (Holds-from name (row image k) at.held).entry in
    record {
      room = omega (arith, parts.whole, parts.files, parts.free, parts.rest, at.high);
      low = lies.low;
      order = lies.order;
      high = lies.high;
      within = omega (arith, lies.high, parts.free, parts.rest);
      inside = omega (arith, lies.high, parts.free, parts.rest, parts.whole);
    }
