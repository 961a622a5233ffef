-- What the first checks say of the places that the later ones read.
use Rattle.std.proofs.Common.{◌≡◌, ℕ, ◌*◌, ◌/◌, ◌%◌, ◌<◌, ◌≤◌, Bool, true, false, ◌||◌, not, List, length, arith}
use Rattle.std.proofs.lemmas.Bool.{and_parts, ltb-true, leb-true, eqb-true}
use Rattle.b2_platter.specs.declared.layout.Layout.{Layout}
use Rattle.b2_platter.specs.Slot.{is_entry, slot_start, slot_end}
use Rattle.b2_platter.specs.Image.{row, index_of, total_of, catalogue_end, next_free}
use Rattle.b2_platter.specs.Checks.{is_sized, has_head, is_ordered, lies_in, all_lie_in}
use Rattle.b2_platter.proofs.Ranges.{list_all-at}

-- what the fourth check says of a file
pub record LiesIn (layout : Layout) (index next : ℕ) (slot : List ℕ) : Type 0 where
  pub low : index ≤ slot_start layout slot
  pub order : slot_start layout slot < slot_end layout slot
  pub high : slot_end layout slot < next

guarded : (e rest : Bool) → (not e || rest) ≡ true → e ≡ true → rest ≡ true
guarded true rest h e = h
guarded false rest h e = cc

pub LiesIn-from : (layout : Layout) (index next : ℕ) (slot : List ℕ) → lies_in layout index next slot ≡ true → is_entry slot ≡ true → LiesIn layout index next slot
unfolding lies_in
LiesIn-from layout index next slot h e =
    let inner = guarded (is_entry slot) _ h e in
    let outer = and_parts _ _ inner in
    let first = and_parts _ _ outer.0 in
    record { low = leb-true _ _ first.0; order = ltb-true _ _ first.1; high = ltb-true _ _ outer.1 }

module _ (layout : Layout) (image : List ℕ) (all : all_lie_in layout image ≡ true) (k : ℕ) (low : 1 ≤ k) (high : k < 16 * index_of image) where
  pub entry_lies : is_entry (row image k) ≡ true → LiesIn layout (index_of image) (next_free layout image) (row image k)
  entry_lies e =
      LiesIn-from layout _ _ _ (list_all-at (λ (k : ℕ). lies_in layout (index_of image) (next_free layout image) (row image k)) 1 _ all k low (omega arith)) e

  pub entry_order : is_entry (row image k) ≡ true → slot_start layout (row image k) < slot_end layout (row image k)
  entry_order e = (entry_lies e).order

  pub entry_end : is_entry (row image k) ≡ true → slot_end layout (row image k) < next_free layout image
  entry_end e = (entry_lies e).high

-- what the first three checks say of the image's parts
pub record Parts (layout : Layout) (image : List ℕ) : Type 0 where
  pub least : 4096 ≤ length image
  pub whole : length image ≡ 256 * total_of layout image
  pub some : 1 ≤ index_of image
  pub files : index_of image ≤ next_free layout image
  pub free : next_free layout image ≤ catalogue_end layout image
  pub rest : catalogue_end layout image ≤ total_of layout image

pub Parts-from : (layout : Layout) (image : List ℕ) → is_sized image ≡ true → has_head layout image ≡ true → is_ordered layout image ≡ true → Parts layout image
unfolding is_sized has_head is_ordered
Parts-from layout image sized image_head ordered =
    let s = and_parts _ _ sized in
    let s' = and_parts _ _ s.0 in
    let h = and_parts _ _ image_head in
    let h' = and_parts _ _ h.0 in
    let h'' = and_parts _ _ h'.0 in
    let o = and_parts _ _ ordered in
    let o' = and_parts _ _ o.0 in
    let even : length image % 256 ≡ 0 = eqb-true _ _ s'.0 in
    let most : 16 ≤ length image / 256 = leb-true _ _ s'.1 in
    let total : total_of layout image ≡ length image / 256 = eqb-true _ _ h'.1 in
    record {
      least = omega arith;
      whole = omega arith;
      some = leb-true _ _ h''.1;
      files = leb-true _ _ o'.0;
      free = leb-true _ _ o'.1;
      rest = leb-true _ _ o.1;
    }

pub least_length : (image : List ℕ) → is_sized image ≡ true → 16 ≤ length image
unfolding is_sized
least_length image sized =
    let s = and_parts _ _ sized in
    let s' = and_parts _ _ s.0 in
    let most : 16 ≤ length image / 256 = leb-true _ _ s'.1 in
    omega arith

pub some_index : (layout : Layout) (image : List ℕ) → has_head layout image ≡ true → 1 ≤ index_of image
unfolding has_head
some_index layout image image_head =
    let h = and_parts _ _ image_head in
    let h' = and_parts _ _ h.0 in
    let h'' = and_parts _ _ h'.0 in
    leb-true _ _ h''.1

pub room_for_index : (layout : Layout) (image : List ℕ) → is_sized image ≡ true → has_head layout image ≡ true → is_ordered layout image ≡ true → 256 * index_of image ≤ length image
room_for_index layout image sized image_head ordered = let p = Parts-from layout image sized image_head ordered in omega arith

pub room_for_files : (layout : Layout) (image : List ℕ) → is_sized image ≡ true → has_head layout image ≡ true → is_ordered layout image ≡ true → 256 * next_free layout image ≤ length image
room_for_files layout image sized image_head ordered = let p = Parts-from layout image sized image_head ordered in omega arith

pub ruleset rooms = (least_length, some_index, room_for_index, room_for_files)
