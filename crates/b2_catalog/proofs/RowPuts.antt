-- An image with one slot's row put in place.
use Rattle.std.proofs.Common.{◌≡◌, ◌≢◌, ℕ, ◌+◌, ◌*◌, ◌<◌, ◌≤◌, true, false, List, length, drop, refl, sym, ap, ◌∙◌, subst, inl, inr, arith, length-take, length-drop}
use Rattle.std.proofs.lemmas.Bool.{cases_order, false≢true}
use Rattle.b2_platter.specs.declared.layout.Layout.{Layout}
use Rattle.b2_platter.specs.Layout.{layout_of}
use Rattle.b2_platter.specs.Slot.{is_free, is_entry, is_spelled, slot_start, slot_end, slot_name}
use Rattle.b2_platter.specs.Image.{row, sector, index_of, next_free}
use Rattle.b2_platter.specs.Checks.{lies_in, differ_in_name, is_reachable, lie_apart, is_controlled, IsGood}
use Rattle.b2_platter.proofs.Rooms.{Parts, LiesIn-from}
use Rattle.b2_platter.proofs.Goodness.{Parts-of}
use Rattle.b2_platter.proofs.Soundness.{Sound-from_Good}
use Rattle.b2_platter.proofs.Kept.{index-same, next-same, image_head-same, ordered-same}
use Rattle.b2_catalog.specs.Changes.{put_row}
use Rattle.b2_catalog.proofs.Rows.{length-put_row, row_same, row_below, row_above, sector_above}
use Rattle.b2_catalog.proofs.Changed.{Changes, reached_still, differ_turned, apart_turned}

pub length-row : (image : List ℕ) (k : ℕ) → 16 * k + 16 ≤ length image → length (row image k) ≡ 16
unfolding row
length-row image k room = omega (arith, length-take 16 (drop (16 * k) image), length-drop (16 * k) image)

-- tests that look at the status, the name and the sectors alone
differ_like : (slot was other : List ℕ) → is_entry slot ≡ is_entry was → slot_name slot ≡ slot_name was → differ_in_name slot other ≡ differ_in_name was other
unfolding differ_in_name
differ_like slot was other entry name = rw (entry, name) refl

pub apart_like : (layout : Layout) (slot was other : List ℕ) → is_entry slot ≡ is_entry was → slot_start layout slot ≡ slot_start layout was → slot_end layout slot ≡ slot_end layout was → lie_apart layout slot other ≡ lie_apart layout was other
unfolding lie_apart
apart_like layout slot was other entry start end = rw (entry, start, end) refl

lies_like : (layout : Layout) (index next : ℕ) (slot was : List ℕ) → is_entry slot ≡ is_entry was → slot_start layout slot ≡ slot_start layout was → slot_end layout slot ≡ slot_end layout was → lies_in layout index next slot ≡ lies_in layout index next was
unfolding lies_in
lies_like layout index next slot was entry start end = rw (entry, start, end) refl

controlled_like : (layout : Layout) (image image' slot was : List ℕ) → is_entry slot ≡ is_entry was → slot_start layout slot ≡ slot_start layout was → slot_end layout slot ≡ slot_end layout was → sector image (slot_end layout was) ≡ sector image' (slot_end layout was) → is_controlled layout image slot ≡ is_controlled layout image' was
unfolding is_controlled
controlled_like layout image image' slot was entry start end same = rw (entry, start, end, same) refl

-- tests that pass where there is no file
pub differ_free : (slot other : List ℕ) → is_entry slot ≡ false → differ_in_name slot other ≡ true
unfolding differ_in_name
differ_free slot other e = rw e refl

pub apart_free : (layout : Layout) (slot other : List ℕ) → is_entry slot ≡ false → lie_apart layout slot other ≡ true
unfolding lie_apart
apart_free layout slot other e = rw e refl

pub lies_free : (layout : Layout) (index next : ℕ) (slot : List ℕ) → is_entry slot ≡ false → lies_in layout index next slot ≡ true
unfolding lies_in
lies_free layout index next slot e = rw e refl

pub controlled_free : (layout : Layout) (image slot : List ℕ) → is_entry slot ≡ false → is_controlled layout image slot ≡ true
unfolding is_controlled
controlled_free layout image slot e = rw e refl

pub reached_free : (image : List ℕ) (k : ℕ) → is_entry (row image k) ≡ false → is_reachable image k ≡ true
unfolding is_reachable
reached_free image k e = rw e refl

module _ (a : List ℕ) (good : IsGood a) (k : ℕ) (low : 1 ≤ k) (high : k < 16 * index_of a) (r : List ℕ) (long : length r ≡ 16) where
  parts : Parts (layout_of a) a
  parts = Parts-of (layout_of a) a good

  pub row_room : 16 * k + 16 ≤ length a
  row_room = let p = parts in omega arith

  pub put_head : row (put_row a k r) 0 ≡ row a 0
  put_head = row_below a k r long row_room 0 (omega arith)

  pub put_rows : (j : ℕ) → j ≢ k → row (put_row a k r) j ≡ row a j
  put_rows j other =
      elim (cases_order j k) [
        | inl same ↦ absurd (other same)
        | inr unequal ↦ elim unequal [ inl less ↦ row_below a k r long row_room j less | inr more ↦ row_above a k r long row_room j more ]
      ]

  pub put_sectors_above : (n : ℕ) → index_of a ≤ n → sector (put_row a k r) n ≡ sector a n
  put_sectors_above n h = sector_above a k r long row_room n (omega arith)

  pub put_index_same : index_of (put_row a k r) ≡ index_of a
  put_index_same = index-same (layout_of a) a (put_row a k r) put_head

  ends_above : (j : ℕ) → 1 ≤ j → j < 16 * index_of a → is_entry (row a j) ≡ true → index_of a ≤ slot_end (layout_of a) (row a j)
  ends_above j j_low j_high e =
      let s = Sound-from_Good (layout_of a) a good in
      let lies = LiesIn-from (layout_of a) (index_of a) (next_free (layout_of a) a) (row a j) (s.lies j j_low j_high) e in
      omega (arith, lies.low, lies.order)

  -- what is left to show of the new row
  pub row_changes : (b : List ℕ) → b ≡ put_row a k r → is_spelled (layout_of a) r ≡ true → lies_in (layout_of a) (index_of a) (next_free (layout_of a) a) r ≡ true → ((j : ℕ) → 1 ≤ j → j < 16 * index_of a → j ≢ k → differ_in_name r (row a j) ≡ true) → ((j : ℕ) → 1 ≤ j → j < 16 * index_of a → j ≢ k → lie_apart (layout_of a) r (row a j) ≡ true) → (is_free r ≡ true → is_free (row a k) ≡ true) → is_reachable (put_row a k r) k ≡ true → is_controlled (layout_of a) (put_row a k r) r ≡ true → Changes a (put_row a k r) k
  row_changes b is spelled lies names apart free reached controlled =
      let s = Sound-from_Good (layout_of a) a good in
      let same = row_same a k r long row_room in
      record {
        long = length-put_row a k r long row_room;
        head = image_head-same (layout_of a) a (put_row a k r) (length-put_row a k r long row_room) put_head s.head;
        ordered = ordered-same (layout_of a) a (put_row a k r) put_head s.ordered;
        index = put_index_same;
        next = omega (arith, next-same (layout_of a) a (put_row a k r) put_head);
        rows = λ j j_low j_high other. put_rows j other;
        spelled = ap (is_spelled (layout_of a)) same ∙ spelled;
        lies = rw (put_index_same, next-same (layout_of a) a (put_row a k r) put_head, same) lies;
        names = λ j j_low j_high other. rw same (names j j_low j_high other);
        apart = λ j j_low j_high other. rw same (apart j j_low j_high other);
        free = λ e. free (subst (λ (x : List ℕ). is_free x ≡ true) same e);
        reached = reached;
        controlled = rw same controlled;
        ends = λ j j_low j_high other e. put_sectors_above (slot_end (layout_of a) (row a j)) (ends_above j j_low j_high e);
      }

  -- a row of the same file: its status may change from live to scratched
  pub like_changes : is_entry r ≡ true → is_entry (row a k) ≡ true → slot_name r ≡ slot_name (row a k) → slot_start (layout_of a) r ≡ slot_start (layout_of a) (row a k) → slot_end (layout_of a) r ≡ slot_end (layout_of a) (row a k) → is_spelled (layout_of a) r ≡ true → is_free r ≡ false → Changes a (put_row a k r) k
  like_changes entry was name start end spelled taken =
      let s = Sound-from_Good (layout_of a) a good in
      let same = row_same a k r long row_room in
      let both = entry ∙ sym was in
      let free : (is_free r ≡ true → is_free (row a k) ≡ true) = λ e. absurd (false≢true (sym taken ∙ e)) in
      row_changes (put_row a k r) refl spelled
      (lies_like (layout_of a) (index_of a) (next_free (layout_of a) a) r (row a k) both start end ∙ s.lies k low high)
      (λ j j_low j_high other. differ_like r (row a k) (row a j) both name ∙ elim (cases_order k j) [
        | inl is ↦ absurd (other (sym is))
        | inr unequal ↦ elim unequal [ inl less ↦ s.names k j low less j_high | inr more ↦ differ_turned (row a k) (row a j) ∙ s.names j k j_low more high ]
      ])
      (λ j j_low j_high other. apart_like (layout_of a) r (row a k) (row a j) both start end ∙ elim (cases_order k j) [
        | inl is ↦ absurd (other (sym is))
        | inr unequal ↦ elim unequal [ inl less ↦ s.apart k j low less j_high | inr more ↦ apart_turned (layout_of a) (row a k) (row a j) ∙ s.apart j k j_low more high ]
      ])
      free
      (reached_still a (put_row a k r) k good put_index_same (λ j j_low j_high other. put_rows j other) (λ e. free (subst (λ (x : List ℕ). is_free x ≡ true) same e)) k (ap is_entry same ∙ both) (ap slot_name same ∙ name) (s.reached k low high))
      (controlled_like (layout_of a) (put_row a k r) a r (row a k) both start end (put_sectors_above (slot_end (layout_of a) (row a k)) (ends_above k low high was)) ∙ s.controls k low high)

  -- a row of no file
  pub gone_changes : is_entry r ≡ false → is_spelled (layout_of a) r ≡ true → is_free r ≡ false → Changes a (put_row a k r) k
  gone_changes entry spelled taken =
      let same = row_same a k r long row_room in
      row_changes (put_row a k r) refl spelled (lies_free (layout_of a) (index_of a) (next_free (layout_of a) a) r entry)
      (λ j j_low j_high other. differ_free r (row a j) entry)
      (λ j j_low j_high other. apart_free (layout_of a) r (row a j) entry)
      (λ e. absurd (false≢true (sym taken ∙ e)))
      (reached_free (put_row a k r) k (ap is_entry same ∙ entry))
      (controlled_free (layout_of a) (put_row a k r) r entry)
