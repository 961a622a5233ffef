-- How the catalogue changes with one slot.
use Rattle.std.proofs.Common.{◌≡◌, ◌≢◌, ℕ, zero, suc, ◌+◌, ◌-◌, ◌*◌, ◌<◌, ◌≤◌, Bool, true, false, cond, List, Option, Some, None, refl, sym, ap, ◌∙◌, subst, inl, inr, arith}
use Rattle.std.specs.Option.{option_map}
use Rattle.std.specs.List.{find, range_with_len}
use Rattle.std.specs.Str.{bytes_eq}
use Rattle.std.specs.Cmp.Lexicographic.{nat_list_cmp_total}
use Rattle.std.specs.FinMap.{get, insert, remove, get-insert, get-remove, same_map, slice_cmp-IsAntisymmetric, nat_cmp-IsAntisymmetric}
use Rattle.std.proofs.lemmas.Bool.{cases_eq, cases_Bool, false≢true, false_from_ne_true}
use Rattle.std.proofs.lemmas.Slice.Eq.{bytes_eq-Decides}
use Rattle.b2_platter.specs.Slot.{is_entry, slot_name}
use Rattle.b2_platter.specs.Image.{row, index_of}
use Rattle.b2_platter.specs.Checks.{IsGood}
use Rattle.b2_catalog.specs.Catalogue.{entry_at, catalogue}
use Rattle.b2_catalog.specs.Ways.{has_name, slot_found, IsSlotOf}
use Rattle.b2_catalog.proofs.Looking.{find-none, find-only, Holds-from, one_slot, IsSlotOf-from}
use Rattle.b2_catalog.proofs.Mapping.{tie-eq, get-catalogue}
use Rattle.b2_catalog.proofs.Changed.{Changes, changed_own, changed_layout}

find-same : (p q : ℕ → Bool) (a n : ℕ) → ((k : ℕ) → a ≤ k → k < a + n → p k ≡ q k) → find p (range_with_len a n) ≡ find q (range_with_len a n)
find-same p q a zero h = refl
find-same p q a (suc n) h =
    ap (λ (b : Bool). cond b (Some a) (find p (range_with_len (a + 1) n))) (h a (omega arith) (omega arith))
    ∙ ap (λ (o : Option ℕ). cond (q a) (Some a) o) (find-same p q (a + 1) n (λ k low high. h k (omega arith) (omega arith)))

-- the only slot with a name is found
pub slot_found-only : (image : List ℕ) (good : IsGood image) (name : List ℕ) (k : ℕ) → IsSlotOf image name k → slot_found image name ≡ Some k
unfolding slot_found
slot_found-only image good name k at =
    find-only (λ (k : ℕ). has_name name (row image k)) 1 (16 * index_of image - 1) k at.low (omega (arith, at.low, at.high)) at.held
    (λ j low high h. one_slot image good name j k low (omega arith) at.low at.high h at.held)

pub get-at : (image : List ℕ) (good : IsGood image) (name : List ℕ) (k : ℕ) → IsSlotOf image name k → get (catalogue image) name ≡ Some (entry_at image k)
get-at image good name k at = get-catalogue image name ∙ ap (option_map (entry_at image)) (slot_found-only image good name k at)

other_name : (name other slot : List ℕ) → slot_name slot ≡ other → bytes_eq other name ≡ false → has_name name slot ≡ false
other_name name other slot same differ =
    false_from_ne_true _ (λ h. false≢true (sym differ ∙ (bytes_eq-Decides other name).1 (sym same ∙ (Holds-from name slot h).same)))

no_file : (name slot : List ℕ) → is_entry slot ≡ false → has_name name slot ≡ false
no_file name slot e = false_from_ne_true _ (λ h. false≢true (sym e ∙ (Holds-from name slot h).entry))

module _ (a b : List ℕ) (k : ℕ) (good : IsGood a) (changes : Changes a b k) (low : 1 ≤ k) (high : k < 16 * index_of a) where
  good' : IsGood b
  good' = changed_own a b k good changes

  entry-same : (j : ℕ) → 1 ≤ j → j < 16 * index_of a → j ≢ k → is_entry (row a j) ≡ true → entry_at b j ≡ entry_at a j
  unfolding entry_at
  entry-same j j_low j_high other e = rw (changed_layout a b k good changes, changes.rows j j_low j_high other, changes.ends j j_low j_high other e) refl

  slots-same : (q : List ℕ) → has_name q (row b k) ≡ false → has_name q (row a k) ≡ false → slot_found b q ≡ slot_found a q
  unfolding slot_found
  slots-same q miss' miss =
      rw changes.index
      (find-same (λ (j : ℕ). has_name q (row b j)) (λ (j : ℕ). has_name q (row a j)) 1 (16 * index_of a - 1)
      (λ j j_low j_high. elim (cases_eq j k) [
        | inl same ↦ subst (λ (j : ℕ). has_name q (row b j) ≡ has_name q (row a j)) (sym same) (miss' ∙ sym miss)
        | inr other ↦ ap (has_name q) (changes.rows j j_low (omega arith) other)
      ]))

  found-same : (q : List ℕ) (o : Option ℕ) → has_name q (row a k) ≡ false → slot_found a q ≡ o → option_map (entry_at b) o ≡ option_map (entry_at a) o
  found-same q None miss is = refl
  found-same q (Some j) miss is =
      let at = IsSlotOf-from a q j is in
      ap Some (entry-same j at.low at.high (λ same. false≢true (sym miss ∙ subst (λ (j : ℕ). has_name q (row a j) ≡ true) same at.held)) (Holds-from q (row a j) at.held).entry)

  elsewhere : (q : List ℕ) → has_name q (row b k) ≡ false → has_name q (row a k) ≡ false → get (catalogue b) q ≡ get (catalogue a) q
  elsewhere q miss' miss =
      get-catalogue b q ∙ ap (option_map (entry_at b)) (slots-same q miss' miss) ∙ found-same q (slot_found a q) miss refl ∙ sym (get-catalogue a q)

  module _ (name : List ℕ) (held : has_name name (row b k) ≡ true) (was : is_entry (row a k) ≡ true → slot_name (row a k) ≡ name) where
    inserted_at : (q : List ℕ) (t : Bool) → bytes_eq name q ≡ t → get (catalogue b) q ≡ cond t (Some (entry_at b k)) (get (catalogue a) q)
    inserted_at q true e =
        let same = (bytes_eq-Decides name q).0 e in
        subst (λ (n : List ℕ). get (catalogue b) n ≡ Some (entry_at b k)) same (get-at b good' name k (record { low = low; high = omega (arith, changes.index); held = held }))
    inserted_at q false e =
        elsewhere q (other_name q name (row b k) (Holds-from name (row b k) held).same e)
        (elim (cases_Bool (is_entry (row a k))) [
          | inl entry ↦ other_name q name (row a k) (was entry) e
          | inr none ↦ no_file q (row a k) none
        ])

    -- the slot is that of a file with a name that no other file had
    pub catalogue-inserted : catalogue b ≡ insert (catalogue a) name (entry_at b k)
    catalogue-inserted =
        same_map nat_list_cmp_total (slice_cmp-IsAntisymmetric nat_cmp-IsAntisymmetric) (catalogue b) (insert (catalogue a) name (entry_at b k))
        (λ q. inserted_at q (bytes_eq name q) refl ∙ sym (get-insert nat_list_cmp_total (catalogue a) name (entry_at b k) q ∙ ap (λ (t : Bool). cond t (Some (entry_at b k)) (get (catalogue a) q)) (tie-eq q name)))

  module _ (name : List ℕ) (gone : is_entry (row b k) ≡ false) (was : has_name name (row a k) ≡ true) where
    nowhere : slot_found b name ≡ None
    unfolding slot_found
    nowhere =
        find-none (λ (j : ℕ). has_name name (row b j)) 1 (16 * index_of b - 1)
        (λ j j_low j_high. (let j_high' : j < 16 * index_of a = omega (arith, changes.index) in elim (cases_eq j k) [
          | inl same ↦ subst (λ (j : ℕ). has_name name (row b j) ≡ false) (sym same) (no_file name (row b k) gone)
          | inr other ↦ false_from_ne_true _ (λ h. other (one_slot a good name j k j_low j_high' low high (subst (λ (r : List ℕ). has_name name r ≡ true) (changes.rows j j_low j_high' other) h) was))
        ]))

    removed_at : (q : List ℕ) (t : Bool) → bytes_eq name q ≡ t → get (catalogue b) q ≡ cond t None (get (catalogue a) q)
    removed_at q true e =
        let same = (bytes_eq-Decides name q).0 e in
        subst (λ (n : List ℕ). get (catalogue b) n ≡ None) same (get-catalogue b name ∙ ap (option_map (entry_at b)) nowhere)
    removed_at q false e = elsewhere q (no_file q (row b k) gone) (other_name q name (row a k) (Holds-from name (row a k) was).same e)

    -- the slot is that of a file no more
    pub catalogue-removed : catalogue b ≡ remove (catalogue a) name
    catalogue-removed =
        same_map nat_list_cmp_total (slice_cmp-IsAntisymmetric nat_cmp-IsAntisymmetric) (catalogue b) (remove (catalogue a) name)
        (λ q. removed_at q (bytes_eq name q) refl ∙ sym (get-remove nat_list_cmp_total (catalogue a) name q ∙ ap (λ (t : Bool). cond t None (get (catalogue a) q)) (tie-eq q name)))
