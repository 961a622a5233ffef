-- An image of which one slot changed, and maybe its head and the sectors of no other file, stays good.
use Rattle.std.proofs.Common.{◌≡◌, ◌≢◌, ℕ, ◌+◌, ◌-◌, ◌*◌, ◌/◌, ◌<◌, ◌≤◌, Bool, true, false, ◌&&◌, not, List, [], length, refl, sym, ap, ◌∙◌, subst, inl, inr, arith}
use Rattle.std.specs.Prelude.{nat_le}
use Rattle.std.specs.Str.{bytes_eq}
use Rattle.std.proofs.lemmas.Bool.{and_parts, and_from, cases_eq, ltb-true, lt-ltb}
use Rattle.std.proofs.lemmas.Slice.Eq.{bytes_eq-Decides}
use Rattle.std.proofs.lemmas.Bool.Decides.{same_from_decides}
use Rattle.b2_platter.specs.declared.layout.Layout.{Layout}
use Rattle.b2_platter.specs.Layout.{layout_of}
use Rattle.b2_platter.specs.Slot.{is_free, is_entry, is_spelled, slot_start, slot_end, slot_name}
use Rattle.b2_platter.specs.Image.{row, sector, index_of, next_free, first_slot, has_free, hash, cyclic_from, is_clear_to}
use Rattle.b2_platter.specs.Checks.{has_head, is_ordered, lies_in, differ_in_name, is_reachable, lie_apart, is_controlled, Good, IsGood}
use Rattle.b2_platter.proofs.Ranges.{list_any-found, list_any-at}
use Rattle.b2_platter.proofs.Goodness.{Parts-of}
use Rattle.b2_platter.proofs.Soundness.{Sound-from_Good, Good-from_Sound}
use Rattle.b2_platter.proofs.Kept.{clear_fewer, sized-same, guard_step, controlled-same}
use Rattle.b2_platter.proofs.Layouts.{own_good, same_layout}
use Rattle.b2_catalog.proofs.Looking.{in_slots}

same_bytes : (xs ys : List ℕ) → bytes_eq xs ys ≡ bytes_eq ys xs
same_bytes xs ys = same_from_decides {P = xs ≡ ys} _ _ (bytes_eq-Decides xs ys) (λ e. sym ((bytes_eq-Decides ys xs).0 e), λ e. (bytes_eq-Decides ys xs).1 (sym e))

turned_two : (a b c : Bool) → (a && b && c) ≡ (b && a && c)
turned_two true true c = refl
turned_two true false c = refl
turned_two false true c = refl
turned_two false false c = refl

turned_four : (a b c d : Bool) → (a && b && c && d) ≡ (b && a && d && c)
turned_four true true true true = refl
turned_four true true true false = refl
turned_four true true false true = refl
turned_four true true false false = refl
turned_four true false c d = refl
turned_four false true c d = refl
turned_four false false c d = refl

-- both tests of two slots go either way
pub differ_turned : (slot other : List ℕ) → differ_in_name slot other ≡ differ_in_name other slot
unfolding differ_in_name
differ_turned slot other =
    ap (λ (b : Bool). not (is_entry slot && is_entry other && b)) (same_bytes (slot_name slot) (slot_name other)) ∙ ap not (turned_two (is_entry slot) (is_entry other) (bytes_eq (slot_name other) (slot_name slot)))

pub apart_turned : (layout : Layout) (slot other : List ℕ) → lie_apart layout slot other ≡ lie_apart layout other slot
unfolding lie_apart
apart_turned layout slot other =
    ap not (turned_four (is_entry slot) (is_entry other) (nat_le (slot_start layout slot) (slot_end layout other)) (nat_le (slot_start layout other) (slot_end layout slot)))

-- more free sectors
pub lies_more : (layout : Layout) (index next next' : ℕ) (slot : List ℕ) → next ≤ next' → lies_in layout index next slot ≡ true → lies_in layout index next' slot ≡ true
unfolding lies_in
lies_more layout index next next' slot more h =
    guard_step (is_entry slot) _ _ (λ inner. let parts = and_parts _ _ inner in let high : slot_end layout slot < next = ltb-true _ _ parts.1 in and_from _ _ parts.0 (lt-ltb _ _ (omega arith))) h

-- what changed
pub record Changes (a b : List ℕ) (k : ℕ) : Type 0 where
  pub long : length b ≡ length a
  pub head : has_head (layout_of a) b ≡ true
  pub ordered : is_ordered (layout_of a) b ≡ true
  pub index : index_of b ≡ index_of a
  pub next : next_free (layout_of a) a ≤ next_free (layout_of a) b
  pub rows : (j : ℕ) → 1 ≤ j → j < 16 * index_of a → j ≢ k → row b j ≡ row a j
  pub spelled : is_spelled (layout_of a) (row b k) ≡ true
  pub lies : lies_in (layout_of a) (index_of b) (next_free (layout_of a) b) (row b k) ≡ true
  pub names : (j : ℕ) → 1 ≤ j → j < 16 * index_of a → j ≢ k → differ_in_name (row b k) (row a j) ≡ true
  pub apart : (j : ℕ) → 1 ≤ j → j < 16 * index_of a → j ≢ k → lie_apart (layout_of a) (row b k) (row a j) ≡ true
  pub free : is_free (row b k) ≡ true → is_free (row a k) ≡ true
  pub reached : is_reachable b k ≡ true
  pub controlled : is_controlled (layout_of a) b (row b k) ≡ true
  pub ends : (j : ℕ) → 1 ≤ j → j < 16 * index_of a → j ≢ k → is_entry (row a j) ≡ true → sector b (slot_end (layout_of a) (row a j)) ≡ sector a (slot_end (layout_of a) (row a j))

-- no sector gets a free slot where the changed slot doesn't become free
module _ (a b : List ℕ) (k : ℕ) (good : IsGood a) (index : index_of b ≡ index_of a) (rows : (j : ℕ) → 1 ≤ j → j < 16 * index_of a → j ≢ k → row b j ≡ row a j) (free : is_free (row b k) ≡ true → is_free (row a k) ≡ true) where
  some : 1 ≤ index_of a
  some = (Parts-of (layout_of a) a good).some

  pub fewer_free : (s : ℕ) → s < index_of a → has_free b s ≡ true → has_free a s ≡ true
  unfolding has_free
  fewer_free s below h =
      let w = list_any-found (λ (j : ℕ). is_free (row b j)) (first_slot s) (16 * s + 16 - first_slot s) h in
      let at = in_slots a good [] s w.0 below w.1 w.2 in
      list_any-at (λ (j : ℕ). is_free (row a j)) (first_slot s) (16 * s + 16 - first_slot s) w.0 w.1 w.2
      (elim (cases_eq w.0 k) [
        | inl same ↦ subst (λ (j : ℕ). is_free (row a j) ≡ true) (sym same) (free (subst (λ (j : ℕ). is_free (row b j) ≡ true) same w.3))
        | inr other ↦ subst (λ (r : List ℕ). is_free r ≡ true) (rows w.0 at.0 at.1 other) w.3
      ])

  pub clear_still : (own first : ℕ) → is_clear_to (has_free a) own (cyclic_from (index_of a) first) ≡ true → is_clear_to (has_free b) own (cyclic_from (index_of a) first) ≡ true
  clear_still own first h = clear_fewer (has_free b) (has_free a) own first (index_of a) 0 (index_of a) some fewer_free h

  -- a file whose name and slot stay is reached still
  pub reached_still : (j : ℕ) → is_entry (row b j) ≡ is_entry (row a j) → slot_name (row b j) ≡ slot_name (row a j) → is_reachable a j ≡ true → is_reachable b j ≡ true
  unfolding is_reachable
  reached_still j entry name was =
      rw (entry, name, index)
      (guard_step (is_entry (row a j)) _ _ (clear_still (j / 16) (hash (index_of a) (slot_name (row a j)))) was)

module _ (a b : List ℕ) (k : ℕ) (good : IsGood a) (changes : Changes a b k) where
  pub changed_good : Good (layout_of a) b
  changed_good =
      let s = Sound-from_Good (layout_of a) a good in
      let i = changes.index in
      Good-from_Sound (layout_of a) b (record {
        sized = sized-same a b changes.long s.sized;
        head = changes.head;
        ordered = changes.ordered;
        lies = λ j low high. elim (cases_eq j k) [
          | inl same ↦ subst (λ (j : ℕ). lies_in (layout_of a) (index_of b) (next_free (layout_of a) b) (row b j) ≡ true) (sym same) changes.lies
          | inr other ↦ (let high' : j < 16 * index_of a = omega (arith, i) in rw (changes.rows j low high' other, i) (lies_more (layout_of a) (index_of a) (next_free (layout_of a) a) (next_free (layout_of a) b) (row a j) changes.next (s.lies j low high')))
        ];
        spelled = λ j low high. elim (cases_eq j k) [
          | inl same ↦ subst (λ (j : ℕ). is_spelled (layout_of a) (row b j) ≡ true) (sym same) changes.spelled
          | inr other ↦ (let high' : j < 16 * index_of a = omega (arith, i) in rw (changes.rows j low high' other) (s.spelled j low high'))
        ];
        names = λ j m low order high. (let high' : m < 16 * index_of a = omega (arith, i) in elim (cases_eq j k) [
          | inl same ↦ (let other : m ≢ k = λ e. omega (arith, same, e) in subst (λ (q : ℕ). differ_in_name (row b q) (row b m) ≡ true) (sym same) (rw (changes.rows m (omega arith) high' other) (changes.names m (omega arith) high' other)))
          | inr other ↦ elim (cases_eq m k) [
            | inl same ↦ subst (λ (q : ℕ). differ_in_name (row b j) (row b q) ≡ true) (sym same) (differ_turned (row b j) (row b k) ∙ rw (changes.rows j low (omega arith) other) (changes.names j low (omega arith) other))
            | inr other' ↦ rw (changes.rows j low (omega arith) other, changes.rows m (omega arith) high' other') (s.names j m low order high')
          ]
        ]);
        reached = λ j low high. elim (cases_eq j k) [
          | inl same ↦ subst (λ (j : ℕ). is_reachable b j ≡ true) (sym same) changes.reached
          | inr other ↦ (let high' : j < 16 * index_of a = omega (arith, i) in (let same = changes.rows j low high' other in reached_still a b k good changes.index changes.rows changes.free j (ap is_entry same) (ap slot_name same) (s.reached j low high')))
        ];
        apart = λ j m low order high. (let high' : m < 16 * index_of a = omega (arith, i) in elim (cases_eq j k) [
          | inl same ↦ (let other : m ≢ k = λ e. omega (arith, same, e) in subst (λ (q : ℕ). lie_apart (layout_of a) (row b q) (row b m) ≡ true) (sym same) (rw (changes.rows m (omega arith) high' other) (changes.apart m (omega arith) high' other)))
          | inr other ↦ elim (cases_eq m k) [
            | inl same ↦ subst (λ (q : ℕ). lie_apart (layout_of a) (row b j) (row b q) ≡ true) (sym same) (apart_turned (layout_of a) (row b j) (row b k) ∙ rw (changes.rows j low (omega arith) other) (changes.apart j low (omega arith) other))
            | inr other' ↦ rw (changes.rows j low (omega arith) other, changes.rows m (omega arith) high' other') (s.apart j m low order high')
          ]
        ]);
        controls = λ j low high. elim (cases_eq j k) [
          | inl same ↦ subst (λ (j : ℕ). is_controlled (layout_of a) b (row b j) ≡ true) (sym same) changes.controlled
          | inr other ↦ (let high' : j < 16 * index_of a = omega (arith, i) in rw (changes.rows j low high' other) (controlled-same (layout_of a) a b (row a j) (changes.ends j low high' other) (s.controls j low high')))
        ];
      })

  -- in its own layout, which is that of the image before
  pub changed_own : IsGood b
  changed_own = own_good (layout_of a) b changed_good

  pub changed_layout : layout_of b ≡ layout_of a
  changed_layout = same_layout a b changed_good
