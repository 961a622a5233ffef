-- A new file: the image stays good, and the catalogue gains its entry.
use Rattle.std.proofs.Common.{◌≡◌, ◌≢◌, ℕ, zero, suc, ◌+◌, ◌-◌, ◌*◌, ◌/◌, ◌%◌, ◌<◌, ◌≤◌, Bool, true, false, not, List, [], ◌∷◌, get_or, None, length, refl, sym, ap, ◌∙◌, inl, inr, arith}
use Rattle.std.specs.FinMap.{insert}
use Rattle.std.proofs.lemmas.Bool.{and_from, le-leb, lt-ltb, false≢true, false_from_ne_true, cases_order, not_from_false, and_parts, or_right, leb-true, eqb-true}
use Rattle.std.proofs.lemmas.Slice.Eq.{bytes_eq-Decides}
use Rattle.b2_base.specs.Names.{is_name8}
use Rattle.b2_platter.specs.declared.layout.Layout.{Layout}
use Rattle.b2_platter.specs.Layout.{layout_of, most_sectors, number_limit}
use Rattle.b2_platter.specs.Slot.{is_free, is_entry, is_spelled, slot_start, slot_end, slot_name}
use Rattle.b2_platter.specs.Image.{row, sector, index_of, total_of, catalogue_end, next_free, has_free, hash, cyclic_from, is_clear_to}
use Rattle.b2_platter.specs.Checks.{has_head, is_ordered, lies_in, differ_in_name, is_reachable, lie_apart, is_controlled, is_control, IsGood}
use Rattle.b2_platter.specs.Edits.{put_sector}
use Rattle.b2_platter.proofs.Rooms.{Parts, LiesIn, LiesIn-from}
use Rattle.b2_platter.proofs.Goodness.{Parts-of, most_of_good}
use Rattle.b2_platter.proofs.Layouts.{own_fits}
use Rattle.b2_platter.proofs.Soundness.{Sound-from_Good}
use Rattle.b2_platter.proofs.Puts.{length-put_sector, row_before, sector_before, sector_after, sector_same}
use Rattle.b2_platter.proofs.Fresh.{HeadSays, head_says_row, head_passes, length-head_bytes}
use Rattle.b2_catalog.specs.Catalogue.{entry_at, catalogue}
use Rattle.b2_catalog.specs.Ways.{has_name, slot_found, way_of}
use Rattle.b2_catalog.specs.Changes.{put_row, file_slot, control_sector, head_with_next, entered}
use Rattle.b2_catalog.specs.Calls.{new_entry}
use Rattle.b2_catalog.proofs.Looking.{has_name-from, find-missed}
use Rattle.b2_catalog.proofs.Scratching.{row_in_sector}
use Rattle.b2_catalog.proofs.Rows.{whole_first, length-put_row, row_same, row_below, row_above, sector_above}
use Rattle.b2_catalog.proofs.Spelled.{SaysFile, says_file, control_long, control_used, control_spelled}
use Rattle.b2_catalog.proofs.Changed.{Changes, changed_own, changed_layout, clear_still}
use Rattle.b2_catalog.proofs.Maps.{catalogue-inserted}
use Rattle.b2_catalog.proofs.Placing.{Placed}

-- a name that no slot has
pub slot_missed : (a name : List ℕ) → slot_found a name ≡ None → (j : ℕ) → 1 ≤ j → j < 16 * index_of a → has_name name (row a j) ≡ false
unfolding slot_found
slot_missed a name none j low high = find-missed (λ (k : ℕ). has_name name (row a k)) 1 (16 * index_of a - 1) none j low (omega arith)

-- tests of a slot against another file
pub differ_from_missed : (slot other name : List ℕ) → slot_name slot ≡ name → has_name name other ≡ false → differ_in_name slot other ≡ true
unfolding differ_in_name
differ_from_missed slot other name is miss =
    not_from_false _ (false_from_ne_true _ (λ h. let parts = and_parts _ _ h in let entries = and_parts _ _ parts.0 in false≢true (sym miss ∙ has_name-from name other entries.1 (sym ((bytes_eq-Decides (slot_name slot) (slot_name other)).0 parts.1) ∙ is))))

pub apart_from_after : (layout : Layout) (slot other : List ℕ) → (is_entry other ≡ true → slot_end layout other < slot_start layout slot) → lie_apart layout slot other ≡ true
unfolding lie_apart
apart_from_after layout slot other after =
    not_from_false _ (false_from_ne_true _ (λ h. (let outer = and_parts _ _ h in let inner = and_parts _ _ outer.0 in let entries = and_parts _ _ inner.0 in let meets : slot_start layout slot ≤ slot_end layout other = leb-true _ _ inner.1 in omega (arith, meets, after entries.1))))

pub lies_from : (layout : Layout) (index next : ℕ) (slot : List ℕ) → index ≤ slot_start layout slot → slot_start layout slot < slot_end layout slot → slot_end layout slot < next → lies_in layout index next slot ≡ true
unfolding lies_in
lies_from layout index next slot low order high = or_right (not (is_entry slot)) _ (and_from _ _ (and_from _ _ (le-leb _ _ low) (lt-ltb _ _ order)) (lt-ltb _ _ high))

pub reached_from : (image : List ℕ) (k : ℕ) → is_clear_to (has_free image) (k / 16) (cyclic_from (index_of image) (hash (index_of image) (slot_name (row image k)))) ≡ true → is_reachable image k ≡ true
unfolding is_reachable
reached_from image k h = or_right (not (is_entry (row image k))) _ h

pub controlled_from : (layout : Layout) (image slot : List ℕ) → is_control layout (slot_end layout slot - slot_start layout slot) (sector image (slot_end layout slot)) ≡ true → is_controlled layout image slot ≡ true
unfolding is_controlled
controlled_from layout image slot h = or_right (not (is_entry slot)) _ h

-- a free slot is no file's
pub free_is_none : (slot : List ℕ) → is_free slot ≡ true → is_entry slot ≡ false
unfolding is_free is_entry
free_is_none slot e = (let zero_is = eqb-true _ _ e in rw zero_is refl)

module _ (a : List ℕ) (good : IsGood a) (name : List ℕ) (legal : is_name8 name ≡ true) (eight : length name ≡ 8) (k : ℕ) (placed : Placed a (way_of a name) k) (none : slot_found a name ≡ None) (program : Bool) (sectors : ℕ) (some : 2 ≤ sectors) (room : next_free (layout_of a) a + sectors ≤ catalogue_end (layout_of a) a) where
  abbrev start : ℕ
  start = next_free (layout_of a) a

  abbrev last : ℕ
  last = next_free (layout_of a) a + sectors - 1

  abbrev front : List ℕ
  front = head_with_next a (next_free (layout_of a) a + sectors)

  abbrev slot : List ℕ
  slot = file_slot (layout_of a) program (next_free (layout_of a) a) (next_free (layout_of a) a + sectors - 1) name

  abbrev one : List ℕ
  one = put_row a 0 front

  abbrev two : List ℕ
  two = put_row one k slot

  abbrev b : List ℕ
  b = put_sector two last (control_sector (layout_of a) 1)

  parts : Parts (layout_of a) a
  parts = Parts-of (layout_of a) a good

  most : total_of (layout_of a) a ≤ most_sectors (layout_of a)
  most = most_of_good (layout_of a) a good

  says : SaysFile (layout_of a) slot program start last name
  says = let p = parts in says_file (layout_of a) program start last name (own_fits a good _ (omega arith)) (own_fits a good _ (omega arith)) eight legal

  long_front : length front ≡ 16
  unfolding head_with_next
  long_front = length-head_bytes (layout_of a) (index_of a) (total_of (layout_of a) a) (catalogue_end (layout_of a) a) (next_free (layout_of a) a + sectors)

  room_front : 16 * 0 + 16 ≤ length a
  room_front = let p = parts in omega arith

  long_one : length one ≡ length a
  long_one = length-put_row a 0 front long_front room_front

  room_slot : 16 * k + 16 ≤ length one
  room_slot = let p = parts in let l = long_one in omega (arith, placed.high)

  long_two : length two ≡ length a
  long_two = length-put_row one k slot says.long room_slot ∙ long_one

  room_last : 256 * last + 256 ≤ length two
  room_last = let p = parts in let l = long_two in omega arith

  long_b : length b ≡ length a
  long_b = length-put_sector two last (control_sector (layout_of a) 1) (control_long (layout_of a) 1) room_last ∙ long_two

  rows_before : (j : ℕ) → j < 16 * index_of a → row b j ≡ row two j
  rows_before j high = let p = parts in row_before two last (control_sector (layout_of a) 1) (control_long (layout_of a) 1) room_last j (omega arith)

  front_now : row b 0 ≡ front
  front_now =
      let p = parts in
      rows_before 0 (omega arith) ∙ row_below one k slot says.long room_slot 0 (omega (arith, placed.low)) ∙ row_same a 0 front long_front room_front

  slot_now : row b k ≡ slot
  slot_now = rows_before k placed.high ∙ row_same one k slot says.long room_slot

  others_now : (j : ℕ) → 1 ≤ j → j < 16 * index_of a → j ≢ k → row b j ≡ row a j
  others_now j low high other =
      rows_before j high
      ∙ elim (cases_order j k) as (λ _. row two j ≡ row one j) [
        | inl same ↦ absurd (other same)
        | inr unequal ↦ elim unequal as (λ _. row two j ≡ row one j) [ inl less ↦ row_below one k slot says.long room_slot j less | inr more ↦ row_above one k slot says.long room_slot j more ]
      ]
      ∙ row_above a 0 front long_front room_front j (omega arith)

  sectors_now : (n : ℕ) → index_of a ≤ n → n < last → sector b n ≡ sector a n
  sectors_now n low below =
      let p = parts in
      sector_before two last (control_sector (layout_of a) 1) (control_long (layout_of a) 1) room_last n below
      ∙ sector_above one k slot says.long room_slot n (omega (arith, placed.high))
      ∙ sector_above a 0 front long_front room_front n (omega arith)

  last_now : sector b last ≡ control_sector (layout_of a) 1
  last_now = sector_same two last (control_sector (layout_of a) 1) (control_long (layout_of a) 1) room_last

  head_now : HeadSays (layout_of a) b (index_of a) (total_of (layout_of a) a) (catalogue_end (layout_of a) a) (next_free (layout_of a) a + sectors)
  unfolding head_with_next
  head_now =
      let p = parts in
      head_says_row (layout_of a) b (index_of a) (total_of (layout_of a) a) (catalogue_end (layout_of a) a) (next_free (layout_of a) a + sectors) (own_fits a good _ (omega arith)) (own_fits a good _ (omega arith)) (own_fits a good _ (omega arith)) front_now

  passes : (has_head (layout_of a) b ≡ true) × (is_ordered (layout_of a) b ≡ true)
  passes =
      let p = parts in
      head_passes (layout_of a) b (index_of a) (total_of (layout_of a) a) (catalogue_end (layout_of a) a) (next_free (layout_of a) a + sectors) head_now (omega (arith, long_b)) most p.some (omega arith) room p.rest

  lies_of : (j : ℕ) → 1 ≤ j → j < 16 * index_of a → is_entry (row a j) ≡ true → LiesIn (layout_of a) (index_of a) (next_free (layout_of a) a) (row a j)
  lies_of j low high e = let s = Sound-from_Good (layout_of a) a good in LiesIn-from (layout_of a) (index_of a) (next_free (layout_of a) a) (row a j) (s.lies j low high) e

  taken : is_free (row b k) ≡ true → is_free (row a k) ≡ true
  taken e = placed.free

  reached_now : is_reachable b k ≡ true
  reached_now =
      let same : slot_name (row b k) ≡ name = ap slot_name slot_now ∙ says.name in
      reached_from b k (rw (head_now.index, same) (clear_still a b k good head_now.index others_now taken (k / 16) (hash (index_of a) name) placed.clear))

  one_fits : 1 < number_limit (layout_of a)
  one_fits = let p = parts in own_fits a good 1 (omega arith)

  controlled_now : is_controlled (layout_of a) b (row b k) ≡ true
  controlled_now =
      let end : slot_end (layout_of a) (row b k) ≡ last = ap (slot_end (layout_of a)) slot_now ∙ says.end in
      let begin : slot_start (layout_of a) (row b k) ≡ start = ap (slot_start (layout_of a)) slot_now ∙ says.start in
      controlled_from (layout_of a) b (row b k) (rw (end, begin, last_now) (control_spelled (layout_of a) 1 (last - start) one_fits (omega arith) (omega arith)))

  entered_changes : Changes a b k
  entered_changes =
      let p = parts in
      let i = head_now.index in
      let n = head_now.next in
      let start_is = says.start in
      let end_is = says.end in
      record {
        long = long_b;
        head = passes.0;
        ordered = passes.1;
        index = i;
        next = omega (arith, n);
        rows = others_now;
        spelled = ap (is_spelled (layout_of a)) slot_now ∙ says.spelled;
        lies = rw (i, n, slot_now) (lies_from (layout_of a) (index_of a) (next_free (layout_of a) a + sectors) slot (omega (arith, start_is)) (omega (arith, start_is, end_is)) (omega (arith, end_is)));
        names = λ j low high other. rw slot_now (differ_from_missed slot (row a j) name says.name (slot_missed a name none j low high));
        apart = λ j low high other. rw slot_now (apart_from_after (layout_of a) slot (row a j) (λ e. omega (arith, start_is, (lies_of j low high e).high)));
        free = taken;
        reached = reached_now;
        controlled = controlled_now;
        ends = λ j low high other e. (let l = lies_of j low high e in sectors_now (slot_end (layout_of a) (row a j)) (omega (arith, l.low, l.order)) (omega (arith, l.high)));
      }

  entry_entered : entry_at b k ≡ new_entry a name program sectors
  unfolding entry_at
  entry_entered = rw (changed_layout a b k good entered_changes, slot_now, says.name, says.live, says.program, says.start, says.end, last_now, control_used (layout_of a) 1 one_fits) refl

  free_no_entry : is_entry (row a k) ≡ true → slot_name (row a k) ≡ name
  free_no_entry e = absurd (false≢true (sym (free_is_none (row a k) placed.free) ∙ e))

  pub entered_good : IsGood (entered a k name program sectors)
  unfolding entered
  entered_good = changed_own a b k good entered_changes

  pub entered_layout : layout_of (entered a k name program sectors) ≡ layout_of a
  unfolding entered
  entered_layout = changed_layout a b k good entered_changes

  pub catalogue-entered : catalogue (entered a k name program sectors) ≡ insert (catalogue a) name (new_entry a name program sectors)
  unfolding entered
  catalogue-entered =
      catalogue-inserted a b k good entered_changes placed.low placed.high name (ap (has_name name) slot_now ∙ has_name-from name slot says.entry says.name) free_no_entry
      ∙ ap (insert (catalogue a) name) entry_entered

  pub entered_head : HeadSays (layout_of a) (entered a k name program sectors) (index_of a) (total_of (layout_of a) a) (catalogue_end (layout_of a) a) (next_free (layout_of a) a + sectors)
  unfolding entered
  entered_head = head_now

  -- the sectors after the index and before the new control sector stay
  pub entered_sectors : (n : ℕ) → index_of a ≤ n → n < next_free (layout_of a) a + sectors - 1 → sector (entered a k name program sectors) n ≡ sector a n
  unfolding entered
  entered_sectors n low below = sectors_now n low below

  -- and those after it
  pub entered_after : (n : ℕ) → next_free (layout_of a) a + sectors ≤ n → sector (entered a k name program sectors) n ≡ sector a n
  unfolding entered
  entered_after n above =
      let p = parts in
      sector_after two last (control_sector (layout_of a) 1) (control_long (layout_of a) 1) room_last n (omega arith)
      ∙ sector_above one k slot says.long room_slot n (omega (arith, placed.high))
      ∙ sector_above a 0 front long_front room_front n (omega arith)

  pub entered_others : (j : ℕ) → 1 ≤ j → j < 16 * index_of a → j ≢ k → row (entered a k name program sectors) j ≡ row a j
  unfolding entered
  entered_others j low high other = others_now j low high other

  pub entered_slot : is_entry (row (entered a k name program sectors) k) ≡ true
  unfolding entered
  entered_slot = ap is_entry slot_now ∙ says.entry

-- three sectors put in place make that image
pub entered_made : (a first own control front slot name : List ℕ) (k start sectors : ℕ) (program : Bool) → start ≡ next_free (layout_of a) a → front ≡ head_with_next a (start + sectors) → first ≡ sector (put_row a 0 front) 0 → slot ≡ file_slot (layout_of a) program start (start + sectors - 1) name → own ≡ put_row (sector (put_row a 0 front) (k / 16)) (k % 16) slot → control ≡ control_sector (layout_of a) 1 → length front ≡ 16 → 256 * (k / 16) + 256 ≤ length a → put_sector (put_sector (put_sector a 0 first) (k / 16) own) (start + sectors - 1) control ≡ entered a k name program sectors
unfolding entered
entered_made a first own control front slot name k start sectors program start_is front_is first_is slot_is own_is control_is long room =
    let step1 : put_sector a 0 first ≡ put_row a 0 front = ap (put_sector a 0) first_is ∙ whole_first a front long (omega arith) in
    let room' : 256 * (k / 16) + 256 ≤ length (put_row a 0 front) = omega (arith, length-put_row a 0 front long (omega arith)) in
    let step2 : put_sector (put_sector a 0 first) (k / 16) own ≡ put_row (put_row a 0 front) k slot = ap (λ (xs : List ℕ). put_sector xs (k / 16) own) step1 ∙ row_in_sector (put_row a 0 front) own slot k room' own_is in
    ap (λ (xs : List ℕ). put_sector xs (start + sectors - 1) control) step2 ∙ rw (control_is, slot_is, front_is, start_is) refl

-- the three edits are in range
pub three_edits : (l m n total : ℕ) (x y z : List ℕ) → l < total → m < total → n < total → (k : ℕ) (d : ℕ × List ℕ) → k < 3 → (get_or ((l, x) ∷ (m, y) ∷ (n, z) ∷ []) k d).0 < total
three_edits l m n total x y z hl hm hn zero d h = hl
three_edits l m n total x y z hl hm hn (suc zero) d h = hm
three_edits l m n total x y z hl hm hn (suc (suc zero)) d h = hn
three_edits l m n total x y z hl hm hn (suc (suc (suc k))) d h = absurd (omega arith)

pub length-head_with_next : (a : List ℕ) (next : ℕ) → length (head_with_next a next) ≡ 16
unfolding head_with_next
length-head_with_next a next = length-head_bytes (layout_of a) (index_of a) (total_of (layout_of a) a) (catalogue_end (layout_of a) a) next
