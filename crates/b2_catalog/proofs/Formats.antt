-- A formatted image has an empty catalogue.
use Rattle.std.proofs.Common.{◌≡◌, ℕ, zero, suc, ◌+◌, ◌-◌, ◌*◌, ◌<◌, ◌≤◌, Bool, false, cond, List, [], ◌++◌, Option, Some, None, drop, replicate, refl, sym, ap, ◌∙◌, subst, arith, append_assoc}
use Rattle.std.specs.List.{range_with_len, filter_map, cons_option}
use Rattle.std.specs.FinMap.{from_entries, empty}
use Rattle.b2_platter.specs.Layout.{layout_of}
use Rattle.b2_platter.specs.Slot.{is_entry, slot_name}
use Rattle.b2_platter.specs.Image.{row, index_of, total_of}
use Rattle.b2_platter.specs.Checks.{IsGood}
use Rattle.b2_platter.specs.Edits.{head_bytes, formatted, CanFormat}
use Rattle.b2_platter.proofs.Layouts.{own_fits}
use Rattle.b2_platter.proofs.Fresh.{HeadSays, head_says, row-fresh, length-head_bytes}
use Rattle.b2_catalog.specs.declared.entry.Entry.{Entry}
use Rattle.b2_catalog.specs.Catalogue.{entry_at, named_entry, catalogue}

no_entry : is_entry (replicate 16 0) ≡ false
unfolding is_entry
no_entry = refl

unnamed : (image : List ℕ) (k : ℕ) → row image k ≡ replicate 16 0 → named_entry image k ≡ None
unfolding named_entry
unnamed image k is = ap (λ (b : Bool). cond b (Some (slot_name (row image k), entry_at image k)) None) (ap is_entry is ∙ no_entry)

filter_map-none : (f : ℕ → Option (List ℕ × Entry)) (a n : ℕ) → ((k : ℕ) → a ≤ k → k < a + n → f k ≡ None) → filter_map f (range_with_len a n) ≡ []
filter_map-none f a zero h = refl
filter_map-none f a (suc n) h =
    ap (λ (o : Option (List ℕ × Entry)). cons_option o (filter_map f (range_with_len (a + 1) n))) (h a (omega arith) (omega arith)) ∙ filter_map-none f (a + 1) n (λ k low high. h k (omega arith) (omega arith))

module _ (a : List ℕ) (index end : ℕ) (good : IsGood a) (can : CanFormat (layout_of a) a index end) where
  abbrev front : List ℕ
  front = head_bytes (layout_of a) index (total_of (layout_of a) a) (end + 1) index

  whole : formatted (layout_of a) a index end ≡ front ++ (replicate (256 * index - 16) 0 ++ drop (256 * index) a)
  whole = append_assoc front (replicate (256 * index - 16) 0) (drop (256 * index) a)

  pub formatted_head : HeadSays (layout_of a) (formatted (layout_of a) a index end) index (total_of (layout_of a) a) (end + 1) index
  formatted_head =
      let order : index < end + 1 = can.order in
      let inside : end + 1 ≤ total_of (layout_of a) a = can.within in
      subst (λ (xs : List ℕ). HeadSays (layout_of a) xs index (total_of (layout_of a) a) (end + 1) index) (sym whole)
      (head_says (layout_of a) index (total_of (layout_of a) a) (end + 1) index (replicate (256 * index - 16) 0 ++ drop (256 * index) a) (own_fits a good _ (omega arith)) (own_fits a good _ inside) (own_fits a good _ (omega (arith, order, inside))))

  pub formatted_row : (k : ℕ) → 1 ≤ k → k < 16 * index → row (formatted (layout_of a) a index end) k ≡ replicate 16 0
  formatted_row k low high =
      ap (λ (xs : List ℕ). row xs k) whole ∙ row-fresh front (drop (256 * index) a) (256 * index) k (length-head_bytes (layout_of a) index (total_of (layout_of a) a) (end + 1) index) low (omega arith)

  pub catalogue-formatted : catalogue (formatted (layout_of a) a index end) ≡ empty
  unfolding catalogue
  catalogue-formatted =
      let is = formatted_head.index in
      ap from_entries (filter_map-none (named_entry (formatted (layout_of a) a index end)) 1 (16 * index_of (formatted (layout_of a) a index end) - 1)
      (λ k low high. unnamed (formatted (layout_of a) a index end) k (formatted_row k low (omega (arith, is, low, high)))))
