-- A scratched file under another name, or under its own again.
use Rattle.std.proofs.Common.{◌≡◌, ◌≢◌, ℕ, ◌-◌, ◌*◌, ◌/◌, ◌<◌, ◌≤◌, Bool, true, false, ◌&&◌, ◌||◌, not, cond, List, Some, None, length, refl, sym, ap, ◌∙◌, subst, inl, inr, arith}
use Rattle.std.specs.FinMap.{insert, remove}
use Rattle.std.specs.Prelude.{is_some}
use Rattle.std.specs.Str.{bytes_eq}
use Rattle.std.proofs.lemmas.Slice.Eq.{bytes_eq-Decides}
use Rattle.std.proofs.lemmas.Bool.{cases_eq, cases_order, false≢true, false_from_ne_true}
use Rattle.b2_base.specs.Names.{is_name8}
use Rattle.b2_platter.specs.declared.layout.Layout.{Layout}
use Rattle.b2_platter.specs.Layout.{layout_of}
use Rattle.b2_platter.specs.Slot.{is_free, is_entry, slot_start, slot_end, slot_name}
use Rattle.b2_platter.specs.Image.{row, sector, index_of, next_free, has_free, hash, cyclic_from, is_clear_to}
use Rattle.b2_platter.specs.Checks.{differ_in_name, is_reachable, lie_apart, is_controlled, is_control, IsGood}
use Rattle.b2_platter.proofs.Layouts.{own_fits}
use Rattle.b2_platter.proofs.Soundness.{Sound-from_Good}
use Rattle.b2_platter.proofs.Kept.{next-same}
use Rattle.b2_catalog.specs.Catalogue.{entry_at, catalogue}
use Rattle.b2_catalog.specs.Ways.{has_name, way_of, slot_found, place, IsSlotOf}
use Rattle.b2_catalog.specs.Calls.{reused_place}
use Rattle.b2_catalog.specs.Changes.{put_row, file_slot, gone_slot, reused}
use Rattle.b2_catalog.proofs.Looking.{Holds, Holds-from, has_name-from, FileSlot, FileSlot-from, IsSlotOf-from, one_slot, clear_of}
use Rattle.b2_catalog.proofs.Placing.{Placed-from}
use Rattle.b2_catalog.proofs.Refusals.{slot_none}
use Rattle.b2_catalog.proofs.Rows.{row_same}
use Rattle.b2_catalog.proofs.Spelled.{SaysFile, says_file, gone_no_entry, gone_taken, gone_spelled, gone_long}
use Rattle.b2_catalog.proofs.Changed.{Changes, changed_own, changed_layout, clear_still, differ_turned, apart_turned}
use Rattle.b2_catalog.proofs.RowPuts.{gone_changes, row_changes, row_room, put_head, put_rows, put_sectors_above, put_index_same, differ_free, apart_free, apart_like}
use Rattle.b2_catalog.proofs.Maps.{catalogue-inserted, catalogue-removed}
use Rattle.b2_catalog.proofs.Entering.{free_is_none, slot_missed, differ_from_missed, lies_from, reached_from, controlled_from}

control_of : (layout : Layout) (image slot : List ℕ) → is_controlled layout image slot ≡ true → is_entry slot ≡ true → is_control layout (slot_end layout slot - slot_start layout slot) (sector image (slot_end layout slot)) ≡ true
unfolding is_controlled
control_of layout image slot h e = subst (λ (b : Bool). (not b || is_control layout (slot_end layout slot - slot_start layout slot) (sector image (slot_end layout slot))) ≡ true) e h

module _ (a : List ℕ) (good : IsGood a) (old : List ℕ) (k : ℕ) (at : IsSlotOf a old k) (name : List ℕ) (legal : is_name8 name ≡ true) (eight : length name ≡ 8) (alone : (j : ℕ) → 1 ≤ j → j < 16 * index_of a → j ≢ k → has_name name (row a j) ≡ false) (to : ℕ) (low : 1 ≤ to) (high : to < 16 * index_of a) (vacant : to ≢ k → is_entry (row a to) ≡ false) (clear : is_clear_to (has_free a) (to / 16) (way_of a name) ≡ true) (program : Bool) where
  abbrev gone : List ℕ
  gone = put_row a k gone_slot

  abbrev slot : List ℕ
  slot = file_slot (layout_of a) program (slot_start (layout_of a) (row a k)) (slot_end (layout_of a) (row a k)) name

  held : Holds old (row a k)
  held = Holds-from old (row a k) at.held

  file : FileSlot a k
  file = FileSlot-from a old k good at

  changes : Changes a gone k
  changes = gone_changes a good k at.low at.high gone_slot gone_long gone_no_entry (gone_spelled (layout_of a)) gone_taken

  pub gone_good : IsGood gone
  gone_good = changed_own a gone k good changes

  gone_layout : layout_of gone ≡ layout_of a
  gone_layout = changed_layout a gone k good changes

  gone_now : row gone k ≡ gone_slot
  gone_now = row_same a k gone_slot gone_long (row_room a good k at.low at.high gone_slot gone_long)

  gone_index : index_of gone ≡ index_of a
  gone_index = put_index_same a good k at.low at.high gone_slot gone_long

  gone_rows : (j : ℕ) → j ≢ k → row gone j ≡ row a j
  gone_rows j other = put_rows a good k at.low at.high gone_slot gone_long j other

  high' : to < 16 * index_of gone
  high' = omega (arith, gone_index)

  says : SaysFile (layout_of a) slot program (slot_start (layout_of a) (row a k)) (slot_end (layout_of a) (row a k)) name
  says = let f = file in says_file (layout_of a) program _ _ name (own_fits a good _ (omega (arith, f.order, f.within))) (own_fits a good _ (omega (arith, f.within))) eight legal

  abbrev after : List ℕ
  after = put_row gone to slot

  slot_now : row after to ≡ slot
  slot_now = row_same gone to slot says.long (row_room gone gone_good to low high' slot says.long)

  vacant_now : is_entry (row gone to) ≡ false
  vacant_now = elim (cases_eq to k) [
    | inl same ↦ ap (λ (j : ℕ). is_entry (row gone j)) same ∙ ap is_entry gone_now ∙ gone_no_entry
    | inr other ↦ ap is_entry (gone_rows to other) ∙ vacant other
  ]

  free_never : is_free (row gone k) ≡ true → is_free (row a k) ≡ true
  free_never e = absurd (false≢true (sym (ap is_free gone_now ∙ gone_taken) ∙ e))

  taken : is_free (row after to) ≡ true → is_free (row gone to) ≡ true
  taken e = absurd (false≢true (sym (ap is_free slot_now ∙ says.taken) ∙ e))

  after_index : index_of after ≡ index_of gone
  after_index = put_index_same gone gone_good to low high' slot says.long

  after_rows : (j : ℕ) → j ≢ to → row after j ≡ row gone j
  after_rows j other = put_rows gone gone_good to low high' slot says.long j other

  reached_now : is_reachable after to ≡ true
  reached_now =
      let same : slot_name (row after to) ≡ name = ap slot_name slot_now ∙ says.name in
      let gone_clear = clear_still a gone k good gone_index (λ j j_low j_high other. gone_rows j other) free_never (to / 16) (hash (index_of a) name) clear in
      let now_clear : is_clear_to (has_free gone) (to / 16) (cyclic_from (index_of gone) (hash (index_of gone) name)) ≡ true = rw gone_index gone_clear in
      reached_from after to (rw (after_index, same) (clear_still gone after to gone_good after_index (λ j j_low j_high other. after_rows j other) taken (to / 16) (hash (index_of gone) name) now_clear))

  own_sector : sector after (slot_end (layout_of a) (row a k)) ≡ sector a (slot_end (layout_of a) (row a k))
  own_sector =
      let f = file in
      put_sectors_above gone gone_good to low high' slot says.long (slot_end (layout_of a) (row a k)) (omega (arith, gone_index, f.low, f.order))
      ∙ put_sectors_above a good k at.low at.high gone_slot gone_long (slot_end (layout_of a) (row a k)) (omega (arith, f.low, f.order))

  controlled_now : is_controlled (layout_of a) after slot ≡ true
  controlled_now =
      let s = Sound-from_Good (layout_of a) a good in
      controlled_from (layout_of a) after slot (rw (says.start, says.end, own_sector) (control_of (layout_of a) a (row a k) (s.controls k at.low at.high) held.entry))

  names_now : (j : ℕ) → 1 ≤ j → j < 16 * index_of gone → j ≢ to → differ_in_name slot (row gone j) ≡ true
  names_now j j_low j_high other = elim (cases_eq j k) [
    | inl same ↦ subst (λ (j : ℕ). differ_in_name slot (row gone j) ≡ true) (sym same) (differ_turned slot (row gone k) ∙ differ_free (row gone k) slot (ap is_entry gone_now ∙ gone_no_entry))
    | inr apart ↦ rw (gone_rows j apart) (differ_from_missed slot (row a j) name says.name (alone j j_low (omega (arith, gone_index)) apart))
  ]

  apart_now : (j : ℕ) → 1 ≤ j → j < 16 * index_of gone → j ≢ to → lie_apart (layout_of a) slot (row gone j) ≡ true
  apart_now j j_low j_high other = elim (cases_order j k) [
    | inl same ↦ subst (λ (j : ℕ). lie_apart (layout_of a) slot (row gone j) ≡ true) (sym same) (apart_turned (layout_of a) slot (row gone k) ∙ apart_free (layout_of a) (row gone k) slot (ap is_entry gone_now ∙ gone_no_entry))
    | inr unequal ↦ (
        let s = Sound-from_Good (layout_of a) a good in
        let differ : j ≢ k = elim unequal [ inl less ↦ λ e. omega (arith, less, e) | inr more ↦ λ e. omega (arith, more, e) ] in
        rw (gone_rows j differ) (apart_like (layout_of a) slot (row a k) (row a j) (says.entry ∙ sym held.entry) says.start says.end ∙ elim unequal [
          | inl less ↦ apart_turned (layout_of a) (row a k) (row a j) ∙ s.apart j k j_low less at.high
          | inr more ↦ s.apart k j at.low more (omega (arith, gone_index))
        ])
        )
  ]

  again : Changes gone after to
  again =
      let f = file in
      let next = next-same (layout_of a) a gone (put_head a good k at.low at.high gone_slot gone_long) in
      row_changes gone gone_good to low high' slot says.long after refl (rw gone_layout says.spelled)
      (rw gone_layout (lies_from (layout_of a) (index_of gone) (next_free (layout_of a) gone) slot (omega (arith, gone_index, says.start, f.low)) (omega (arith, says.start, says.end, f.order)) (omega (arith, next, says.end, f.high))))
      names_now (λ j j_low j_high other. rw gone_layout (apart_now j j_low j_high other)) (λ e. absurd (false≢true (sym says.taken ∙ e))) reached_now (rw gone_layout controlled_now)

  pub reused_good : IsGood (reused a k to name program)
  unfolding reused
  reused_good = changed_own gone after to gone_good again

  pub reused_index : index_of (reused a k to name program) ≡ index_of a
  unfolding reused
  reused_index = after_index ∙ gone_index

  -- the sectors after the index stay
  pub reused_sectors : (n : ℕ) → index_of a ≤ n → sector (reused a k to name program) n ≡ sector a n
  unfolding reused
  reused_sectors n h =
      put_sectors_above gone gone_good to low high' slot says.long n (omega (arith, gone_index, h))
      ∙ put_sectors_above a good k at.low at.high gone_slot gone_long n h

  entry_now : entry_at after to ≡ record (entry_at a k) { name = name; live = true; program = program }
  unfolding entry_at
  entry_now = rw (changed_layout gone after to gone_good again, gone_layout, slot_now, says.name, says.live, says.program, says.start, says.end, own_sector) refl

  pub catalogue-reused : catalogue (reused a k to name program) ≡ insert (remove (catalogue a) old) name (record (entry_at a k) { name = name; live = true; program = program })
  unfolding reused
  catalogue-reused =
      catalogue-inserted gone after to gone_good again low high' name (ap (has_name name) slot_now ∙ has_name-from name slot says.entry says.name) (λ e. absurd (false≢true (sym vacant_now ∙ e)))
      ∙ ap (insert (catalogue gone) name) entry_now
      ∙ ap (λ m. insert m name (record (entry_at a k) { name = name; live = true; program = program })) (catalogue-removed a gone k good changes at.low at.high old (ap is_entry gone_now ∙ gone_no_entry) at.held)

-- what the second slot needs, by where the name goes
pub record Ready (a name : List ℕ) (k to : ℕ) : Type 0 where
  pub low : 1 ≤ to
  pub high : to < 16 * index_of a
  pub alone : (j : ℕ) → 1 ≤ j → j < 16 * index_of a → j ≢ k → has_name name (row a j) ≡ false
  pub vacant : to ≢ k → is_entry (row a to) ≡ false
  pub clear : is_clear_to (has_free a) (to / 16) (way_of a name) ≡ true

clear_way : (a : List ℕ) (good : IsGood a) (name : List ℕ) (k : ℕ) → IsSlotOf a name k → is_clear_to (has_free a) (k / 16) (way_of a name) ≡ true
unfolding is_reachable
clear_way a good name k at =
    let s = Sound-from_Good (layout_of a) a good in
    let h = Holds-from name (row a k) at.held in
    let was : is_reachable a k ≡ true = s.reached k at.low at.high in
    subst (λ (n : List ℕ). is_clear_to (has_free a) (k / 16) (way_of a n) ≡ true) h.same (clear_of (is_entry (row a k)) _ was h.entry)

ready_same : (a : List ℕ) (good : IsGood a) (name : List ℕ) (k to : ℕ) → IsSlotOf a name k → to ≡ k → Ready a name k to
ready_same a good name k to at same =
    record {
      low = subst (λ (j : ℕ). 1 ≤ j) (sym same) at.low;
      high = subst (λ (j : ℕ). j < 16 * index_of a) (sym same) at.high;
      alone = λ j low high other. false_from_ne_true _ (λ h. other (one_slot a good name j k low high at.low at.high h at.held));
      vacant = λ other. absurd (other same);
      clear = subst (λ (j : ℕ). is_clear_to (has_free a) (j / 16) (way_of a name) ≡ true) (sym same) (clear_way a good name k at);
    }

ready_other : (a : List ℕ) (good : IsGood a) (name : List ℕ) (k to : ℕ) → slot_found a name ≡ None → place a name ≡ Some to → Ready a name k to
ready_other a good name k to none free =
    let w = Placed-from a good name to free in
    record {
      low = w.low;
      high = w.high;
      alone = λ j low high other. slot_missed a name none j low high;
      vacant = λ other. free_is_none (row a to) w.free;
      clear = w.clear;
    }

by_name : (a : List ℕ) (good : IsGood a) (old name : List ℕ) (k to : ℕ) (same : Bool) → bytes_eq old name ≡ same → slot_found a old ≡ Some k → (not same && is_some (slot_found a name)) ≡ false → cond same (slot_found a old) (place a name) ≡ Some to → Ready a name k to
by_name a good old name k to true e is taken goes =
    let one : old ≡ name = (bytes_eq-Decides old name).0 e in
    let kept : to ≡ k = (let w : Some to ≡ Some k = sym goes ∙ is in cc) in
    ready_same a good name k to (subst (λ (n : List ℕ). IsSlotOf a n k) one (IsSlotOf-from a old k is)) kept
by_name a good old name k to false e is taken goes = ready_other a good name k to (slot_none a name taken) goes

pub Ready-from : (a : List ℕ) (good : IsGood a) (old name : List ℕ) (k to : ℕ) → slot_found a old ≡ Some k → (not (bytes_eq old name) && is_some (slot_found a name)) ≡ false → reused_place a old name ≡ Some to → Ready a name k to
Ready-from a good old name k to is taken goes = by_name a good old name k to (bytes_eq old name) refl is taken goes

-- the two rows put in place make that image
pub reused_made : (a gone slot name : List ℕ) (k to start end : ℕ) (program : Bool) → gone ≡ gone_slot → slot ≡ file_slot (layout_of a) program start end name → start ≡ slot_start (layout_of a) (row a k) → end ≡ slot_end (layout_of a) (row a k) → put_row (put_row a k gone) to slot ≡ reused a k to name program
unfolding reused
reused_made a gone slot name k to start end program gone_is slot_is start_is end_is = rw (slot_is, gone_is, start_is, end_is) refl

pub gone_index-same : (a : List ℕ) (good : IsGood a) (old : List ℕ) (k : ℕ) → IsSlotOf a old k → index_of (put_row a k gone_slot) ≡ index_of a
gone_index-same a good old k at = put_index_same a good k at.low at.high gone_slot gone_long
