-- A file that is scratched, and one of which another number of sectors is used.
use Rattle.std.proofs.Common.{◌≡◌, ◌≢◌, ℕ, zero, suc, ◌+◌, ◌-◌, ◌*◌, ◌/◌, ◌%◌, ◌<◌, ◌≤◌, true, false, List, [], ◌∷◌, Option, Some, None, length, get_or, refl, sym, ap, ◌∙◌, subst, inl, inr, arith}
use Rattle.std.specs.Option.{option_map}
use Rattle.std.specs.FinMap.{get, insert}
use Rattle.std.proofs.lemmas.Bool.{cases_order}
use Rattle.b2_platter.specs.Layout.{layout_of, number_limit}
use Rattle.b2_platter.specs.Slot.{is_free, is_entry, slot_start, slot_end, slot_name}
use Rattle.b2_platter.specs.Image.{row, sector, index_of, next_free}
use Rattle.b2_platter.specs.Checks.{is_controlled, IsGood}
use Rattle.b2_platter.specs.Edits.{put_sector}
use Rattle.b2_platter.proofs.Layouts.{own_fits}
use Rattle.b2_platter.proofs.Rooms.{LiesIn-from}
use Rattle.b2_platter.proofs.Soundness.{Sound-from_Good}
use Rattle.b2_platter.proofs.Puts.{length-put_sector, row_before, sector_before, sector_after, sector_same}
use Rattle.b2_platter.proofs.Kept.{index-same, next-same, image_head-same, ordered-same, shared}
use Rattle.b2_catalog.proofs.Mapping.{get-catalogue}
use Rattle.b2_catalog.specs.declared.entry.Entry.{Entry}
use Rattle.b2_catalog.specs.Catalogue.{entry_at, catalogue}
use Rattle.b2_catalog.specs.Ways.{has_name, slot_found, IsSlotOf}
use Rattle.b2_catalog.specs.Changes.{put_row, scratched_slot, control_sector}
use Rattle.b2_catalog.specs.Calls.{with_scratched, catalogue_scratched}
use Rattle.b2_catalog.proofs.Looking.{IsSlotOf-from, Holds, Holds-from, has_name-from, FileSlot, FileSlot-from}
use Rattle.b2_catalog.proofs.Rows.{row_same, put_sector-put_row}
use Rattle.b2_catalog.proofs.Spelled.{SaysScratched, says_scratched, control_long, control_used, control_spelled}
use Rattle.b2_catalog.proofs.Changed.{Changes, changed_own, changed_layout, reached_still, differ_turned, apart_turned}
use Rattle.b2_catalog.proofs.RowPuts.{length-row, row_room, like_changes, put_sectors_above}
use Rattle.b2_catalog.proofs.Maps.{get-at, catalogue-inserted}

-- the one edit of a list
pub one_edit : (n total : ℕ) (bytes : List ℕ) → n < total → (k : ℕ) (d : ℕ × List ℕ) → k < 1 → (get_or ((n, bytes) ∷ []) k d).0 < total
one_edit n total bytes h zero d low = h
one_edit n total bytes h (suc k) d low = absurd (omega arith)

-- a row put into its sector
pub row_in_sector : (image own r : List ℕ) (k : ℕ) → 256 * (k / 16) + 256 ≤ length image → own ≡ put_row (sector image (k / 16)) (k % 16) r → put_sector image (k / 16) own ≡ put_row image k r
row_in_sector image own r k room is =
    ap (put_sector image (k / 16)) is ∙ put_sector-put_row image (k / 16) (k % 16) r (omega arith) room ∙ ap (λ (n : ℕ). put_row image n r) (omega arith)

module _ (a : List ℕ) (good : IsGood a) (name : List ℕ) (k : ℕ) (at : IsSlotOf a name k) where
  held : Holds name (row a k)
  held = Holds-from name (row a k) at.held

  says : SaysScratched (layout_of a) (scratched_slot (row a k)) (row a k)
  says = says_scratched (layout_of a) (row a k) (length-row a k (FileSlot-from a name k good at).room)

  pub scratched_changes : Changes a (put_row a k (scratched_slot (row a k))) k
  scratched_changes =
      let s = Sound-from_Good (layout_of a) a good in
      like_changes a good k at.low at.high (scratched_slot (row a k)) says.long says.entry held.entry says.name says.start says.end (says.spelled held.entry (s.spelled k at.low at.high)) says.taken

  pub scratched_good : IsGood (put_row a k (scratched_slot (row a k)))
  scratched_good = changed_own a _ k good scratched_changes

  now_row : row (put_row a k (scratched_slot (row a k))) k ≡ scratched_slot (row a k)
  now_row = row_same a k (scratched_slot (row a k)) says.long (row_room a good k at.low at.high (scratched_slot (row a k)) says.long)

  entry_scratched : entry_at (put_row a k (scratched_slot (row a k))) k ≡ record (entry_at a k) { live = false }
  unfolding entry_at
  entry_scratched =
      let f = FileSlot-from a name k good at in
      let same = put_sectors_above a good k at.low at.high (scratched_slot (row a k)) says.long (slot_end (layout_of a) (row a k)) (omega (arith, f.low, f.order)) in
      rw (changed_layout a _ k good scratched_changes, now_row, says.name, says.dead, says.program, says.start, says.end, same) refl

  pub catalogue-scratched : catalogue (put_row a k (scratched_slot (row a k))) ≡ catalogue_scratched (catalogue a) name
  catalogue-scratched =
      catalogue-inserted a _ k good scratched_changes at.low at.high name (ap (has_name name) now_row ∙ has_name-from name (scratched_slot (row a k)) says.entry (says.name ∙ held.same)) (λ e. held.same)
      ∙ ap (insert (catalogue a) name) entry_scratched
      ∙ sym (ap (with_scratched (catalogue a) name) (get-at a good name k at))

-- a file that the catalogue has stands in a slot
pub record StandsAt (a name : List ℕ) (e : Entry) (k : ℕ) : Type 0 where
  pub at : IsSlotOf a name k
  pub is : e ≡ entry_at a k

stands_by : (a name : List ℕ) (e : Entry) (o : Option ℕ) → slot_found a name ≡ o → option_map (entry_at a) o ≡ Some e → (k : ℕ) × StandsAt a name e k
stands_by a name e None is h = cc
stands_by a name e (Some k) is h = (k, record { at = IsSlotOf-from a name k is; is = (let same : entry_at a k ≡ e = cc in sym same) })

pub stands : (a name : List ℕ) (e : Entry) → get (catalogue a) name ≡ Some e → (k : ℕ) × StandsAt a name e k
stands a name e h = stands_by a name e (slot_found a name) refl (sym (get-catalogue a name) ∙ h)

pub entry_end : (a : List ℕ) (k : ℕ) → (entry_at a k).end ≡ slot_end (layout_of a) (row a k)
unfolding entry_at
entry_end a k = refl

pub entry_start : (a : List ℕ) (k : ℕ) → (entry_at a k).start ≡ slot_start (layout_of a) (row a k)
unfolding entry_at
entry_start a k = refl

module _ (a : List ℕ) (good : IsGood a) (name : List ℕ) (k : ℕ) (at : IsSlotOf a name k) (used : ℕ) (some : 1 ≤ used) (few : used ≤ slot_end (layout_of a) (row a k) - slot_start (layout_of a) (row a k)) where
  file : FileSlot a k
  file = FileSlot-from a name k good at

  holds_at : Holds name (row a k)
  holds_at = Holds-from name (row a k) at.held

  small : used < number_limit (layout_of a)
  small = let f = file in own_fits a good used (omega (arith, few, f.within))

  rows_stay : (j : ℕ) → j < 16 * index_of a → row (put_sector a (slot_end (layout_of a) (row a k)) (control_sector (layout_of a) used)) j ≡ row a j
  rows_stay j h = let f = file in row_before a (slot_end (layout_of a) (row a k)) (control_sector (layout_of a) used) (control_long (layout_of a) used) f.inside j (omega arith)

  -- no other file ends there
  apart_end : (j : ℕ) → 1 ≤ j → j < 16 * index_of a → j ≢ k → is_entry (row a j) ≡ true → slot_end (layout_of a) (row a j) ≡ slot_end (layout_of a) (row a k) → ⊥
  apart_end j low high other e same =
      let s = Sound-from_Good (layout_of a) a good in
      let f = file in
      let lies = LiesIn-from (layout_of a) (index_of a) (next_free (layout_of a) a) (row a j) (s.lies j low high) e in
      elim (cases_order j k) [
        | inl is ↦ other is
        | inr unequal ↦ elim unequal [
          | inl less ↦ shared (layout_of a) (row a j) (row a k) (s.apart j k low less at.high) e holds_at.entry (omega (arith, lies.order, same)) (omega (arith, f.order, same))
          | inr more ↦ shared (layout_of a) (row a k) (row a j) (s.apart k j at.low more high) holds_at.entry e (omega (arith, f.order, same)) (omega (arith, lies.order, same))
        ]
      ]

  other_ends : (j : ℕ) → 1 ≤ j → j < 16 * index_of a → j ≢ k → is_entry (row a j) ≡ true → sector (put_sector a (slot_end (layout_of a) (row a k)) (control_sector (layout_of a) used)) (slot_end (layout_of a) (row a j)) ≡ sector a (slot_end (layout_of a) (row a j))
  other_ends j low high other e =
      let f = file in
      elim (cases_order (slot_end (layout_of a) (row a j)) (slot_end (layout_of a) (row a k))) [
        | inl same ↦ absurd (apart_end j low high other e same)
        | inr unequal ↦ elim unequal [
          | inl less ↦ sector_before a (slot_end (layout_of a) (row a k)) (control_sector (layout_of a) used) (control_long (layout_of a) used) f.inside (slot_end (layout_of a) (row a j)) less
          | inr more ↦ sector_after a (slot_end (layout_of a) (row a k)) (control_sector (layout_of a) used) (control_long (layout_of a) used) f.inside (slot_end (layout_of a) (row a j)) more
        ]
      ]

  own_end : sector (put_sector a (slot_end (layout_of a) (row a k)) (control_sector (layout_of a) used)) (slot_end (layout_of a) (row a k)) ≡ control_sector (layout_of a) used
  own_end = let f = file in sector_same a (slot_end (layout_of a) (row a k)) (control_sector (layout_of a) used) (control_long (layout_of a) used) f.inside

  controlled_now : is_controlled (layout_of a) (put_sector a (slot_end (layout_of a) (row a k)) (control_sector (layout_of a) used)) (row a k) ≡ true
  unfolding is_controlled
  controlled_now = rw (holds_at.entry, own_end) (control_spelled (layout_of a) used (slot_end (layout_of a) (row a k) - slot_start (layout_of a) (row a k)) small some few)

  pub used_changes : Changes a (put_sector a (slot_end (layout_of a) (row a k)) (control_sector (layout_of a) used)) k
  used_changes =
      let s = Sound-from_Good (layout_of a) a good in
      let f = file in
      let b = put_sector a (slot_end (layout_of a) (row a k)) (control_sector (layout_of a) used) in
      let long = length-put_sector a (slot_end (layout_of a) (row a k)) (control_sector (layout_of a) used) (control_long (layout_of a) used) f.inside in
      let front = rows_stay 0 (omega (arith, at.low, at.high)) in
      let i = index-same (layout_of a) a b front in
      let n = next-same (layout_of a) a b front in
      let own = rows_stay k at.high in
      record {
        long = long;
        head = image_head-same (layout_of a) a b long front s.head;
        ordered = ordered-same (layout_of a) a b front s.ordered;
        index = i;
        next = omega (arith, n);
        rows = λ j low high other. rows_stay j high;
        spelled = rw own (s.spelled k at.low at.high);
        lies = rw (i, n, own) (s.lies k at.low at.high);
        names = λ j low high other. rw own (elim (cases_order k j) [
          | inl is ↦ absurd (other (sym is))
          | inr unequal ↦ elim unequal [ inl less ↦ s.names k j at.low less high | inr more ↦ differ_turned (row a k) (row a j) ∙ s.names j k low more at.high ]
        ]);
        apart = λ j low high other. rw own (elim (cases_order k j) [
          | inl is ↦ absurd (other (sym is))
          | inr unequal ↦ elim unequal [ inl less ↦ s.apart k j at.low less high | inr more ↦ apart_turned (layout_of a) (row a k) (row a j) ∙ s.apart j k low more at.high ]
        ]);
        free = λ e. subst (λ (r : List ℕ). is_free r ≡ true) own e;
        reached = reached_still a b k good i (λ j low high other. rows_stay j high) (λ e. subst (λ (r : List ℕ). is_free r ≡ true) own e) k (ap is_entry own) (ap slot_name own) (s.reached k at.low at.high);
        controlled = rw own controlled_now;
        ends = other_ends;
      }

  entry_used : entry_at (put_sector a (slot_end (layout_of a) (row a k)) (control_sector (layout_of a) used)) k ≡ record (entry_at a k) { used = used }
  unfolding entry_at
  entry_used = rw (changed_layout a _ k good used_changes, rows_stay k at.high, own_end, control_used (layout_of a) used small) refl

  pub catalogue-used : catalogue (put_sector a (slot_end (layout_of a) (row a k)) (control_sector (layout_of a) used)) ≡ insert (catalogue a) name (record (entry_at a k) { used = used })
  catalogue-used =
      catalogue-inserted a _ k good used_changes at.low at.high name (ap (has_name name) (rows_stay k at.high) ∙ at.held) (λ e. holds_at.same)
      ∙ ap (insert (catalogue a) name) entry_used
