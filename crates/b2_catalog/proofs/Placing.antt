-- The slot that a new name takes: it is free, and no sector before its own has a free slot.
use Rattle.std.proofs.Common.{◌≡◌, ℕ, zero, suc, ◌+◌, ◌-◌, ◌*◌, ◌/◌, ◌%◌, ◌<◌, ◌≤◌, true, false, ◌==◌, not, cond, List, [], ◌∷◌, map, Option, Some, None, refl, sym, ap, ◌∙◌, arith}
use Rattle.std.specs.Prelude.{is_some}
use Rattle.std.specs.List.{range_with_len}
use Rattle.std.proofs.lemmas.Bool.{eq-eqb, or_left, or_right, and_from}
use Rattle.b2_platter.specs.Layout.{layout_of}
use Rattle.b2_platter.specs.Slot.{is_free}
use Rattle.b2_platter.specs.Image.{row, index_of, first_slot, has_free, hash, is_clear_to}
use Rattle.b2_platter.specs.Checks.{IsGood}
use Rattle.b2_platter.proofs.Ranges.{list_any-none}
use Rattle.b2_platter.proofs.Goodness.{Parts-of}
use Rattle.b2_catalog.specs.Ways.{lowest_free, place, place_along, way_of}
use Rattle.b2_catalog.proofs.Looking.{find-some, find-missed, in_slots}

pub record Placed (a : List ℕ) (way : List ℕ) (k : ℕ) : Type 0 where
  pub low : 1 ≤ k
  pub high : k < 16 * index_of a
  pub free : is_free (row a k) ≡ true
  pub clear : is_clear_to (has_free a) (k / 16) way ≡ true

module _ (a : List ℕ) (good : IsGood a) (first : ℕ) where
  some : 1 ≤ index_of a
  some = (Parts-of (layout_of a) a good).some

  full : (s : ℕ) → lowest_free a s ≡ None → has_free a s ≡ false
  unfolding lowest_free has_free
  full s none = list_any-none (λ (k : ℕ). is_free (row a k)) (first_slot s) (16 * s + 16 - first_slot s) (find-missed (λ (k : ℕ). is_free (row a k)) (first_slot s) (16 * s + 16 - first_slot s) none)

  lowest_is : (s k : ℕ) → s < index_of a → lowest_free a s ≡ Some k → (1 ≤ k) × (k < 16 * index_of a) × (k / 16 ≡ s) × (is_free (row a k) ≡ true)
  unfolding lowest_free
  lowest_is s k below is =
      let f = find-some (λ (k : ℕ). is_free (row a k)) (first_slot s) (16 * s + 16 - first_slot s) k is in
      let at = in_slots a good [] s k below f.low f.high in
      (at.0, at.1, omega (arith, at.2, at.3), f.passes)

  here_or_later : (s k : ℕ) (o : Option ℕ) (rest : List ℕ) → s < index_of a → lowest_free a s ≡ o → cond (is_some o) o (place_along (lowest_free a) rest) ≡ Some k → (place_along (lowest_free a) rest ≡ Some k → Placed a rest k) → Placed a (s ∷ rest) k
  here_or_later s k (Some j) rest below is h later =
      let same : j ≡ k = cc in
      let w = lowest_is s k below (is ∙ ap Some same) in
      record { low = w.0; high = w.1; free = w.3; clear = or_left (s == k / 16) _ (eq-eqb s (k / 16) (sym w.2)) }
  here_or_later s k None rest below is h later =
      let w = later h in
      record { low = w.low; high = w.high; free = w.free; clear = or_right (s == k / 16) _ (and_from (not (has_free a s)) _ (ap not (full s is)) w.clear) }

  placed_along : (j n k : ℕ) → place_along (lowest_free a) (map (λ (j : ℕ). (first + j) % index_of a) (range_with_len j n)) ≡ Some k → Placed a (map (λ (j : ℕ). (first + j) % index_of a) (range_with_len j n)) k
  placed_along j zero k h = cc
  placed_along j (suc n) k h =
      here_or_later ((first + j) % index_of a) k (lowest_free a ((first + j) % index_of a)) _ (let s = some in omega arith) refl h (placed_along (j + 1) n k)

pub Placed-from : (a : List ℕ) → IsGood a → (name : List ℕ) (k : ℕ) → place a name ≡ Some k → Placed a (way_of a name) k
unfolding place
Placed-from a good name k is = placed_along a good (hash (index_of a) name) 0 (index_of a) k is
