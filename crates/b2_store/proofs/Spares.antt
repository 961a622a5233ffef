-- Rows before a last one, of which one is read or has another content.
use Rattle.std.specs.Prelude.{◌≡◌, ℕ, ◌-◌, ◌<◌, ◌==◌, length, take, set, get_or, Option, Some, None, is_some, IsSome, position, refl}
use Rattle.std.specs.Map.{lookup}
use Rattle.std.proofs.Common.{arith, sym, ap, ◌∙◌}
use Rattle.std.proofs.Math.Seq.{take-set-lt}
use Rattle.std.proofs.lemmas.Bool.{false≢true}
use Rattle.std.proofs.lemmas.List.{get_or-take, length-set, length-take-le, take-set-le}
use Rattle.b2_vars.specs.Tables.{VarsState}
use Rattle.b2_access.specs.Partition.{no_variables}
use Rattle.b2_store.specs.Spares.{GlobalsRows, index_held, row_held, rows_left}
use Rattle.b2_store.proofs.Placed.{found_at, is_row_at, not_found, row_here, row_set}
use Rattle.b2_store.proofs.Same.{with_none}

-- the place of a row, or the last
abbrev pub place : Option ℕ → ℕ → ℕ
place None last = last
place (Some index) last = index

-- the spare is no row
spare_set : (items : GlobalsRows) (x : ℕ × VarsState) → 0 < length items → take (length (set items (length items - 1) x) - 1) (set items (length items - 1) x) ≡ take (length items - 1) items
spare_set items x some =
    ap (λ (n : ℕ). take (n - 1) (set items (length items - 1) x)) (length-set items (length items - 1) x)
    ∙ take-set-le (length items - 1) items (length items - 1) x (omega arith)

module _ (items : GlobalsRows) (some : 0 < length items) where
  abbrev front : GlobalsRows
  front = take (length items - 1) items

  below : (p i : ℕ) (row : ℕ × VarsState) → position (λ (e : ℕ × VarsState). e.0 == p) front ≡ Some i → i < length items - 1
  below p i row is =
      let before = (is_row_at (λ k. k == p) front i row is).below in
      let all : length front ≡ length items - 1 = length-take-le (length items - 1) items (omega arith) in
      omega (arith, before, all)

  in_rows : (p i : ℕ) (row : ℕ × VarsState) → position (λ (e : ℕ × VarsState). e.0 == p) front ≡ Some i → row ≡ get_or items i row → row ≡ get_or front i row
  in_rows p i row is at_i = at_i ∙ sym (get_or-take (length items - 1) items i row (below p i row is))

  -- the rows with other variables at the place of a partition, or at the last
  pub set_at_place : (p o : Option ℕ) (row : ℕ × VarsState) (w : VarsState) → index_held p front ≡ o → row ≡ get_or items (place o (length items - 1)) row
      → take (length (set items (place o (length items - 1)) (row.0, w)) - 1) (set items (place o (length items - 1)) (row.0, w)) ≡ rows_left p front w
  set_at_place None None row w is at_place = spare_set items (row.0, w) some
  set_at_place None (Some i) row w is at_place = absurd (cc)
  set_at_place (Some p) None row w is at_place = spare_set items (row.0, w) some ∙ sym (with_none (λ k. k == p) front w (not_found (λ k. k == p) front is))
  set_at_place (Some p) (Some i) row w is at_place =
      ap (λ (n : ℕ). take (n - 1) (set items i (row.0, w))) (length-set items i (row.0, w))
      ∙ take-set-lt (length items - 1) items i (row.0, w) (below p i row is)
      ∙ row_set (λ k. k == p) front i row w is (in_rows p i row is at_place)

  -- what stands there is a partition's, where it has a row
  pub read_at_place : (p o : Option ℕ) (row : ℕ × VarsState) → index_held p front ≡ o → row ≡ get_or items (place o (length items - 1)) row → IsSome (row_held p front) → Some row.1 ≡ row_held p front
  read_at_place None o row is at_place there = absurd (cc)
  read_at_place (Some p) None row is at_place there = absurd (false≢true (sym (ap is_some (not_found (λ k. k == p) front is)) ∙ there))
  read_at_place (Some p) (Some i) row is at_place there = sym (row_here (λ k. k == p) front i row is (in_rows p i row is at_place))

-- a partition has a row where its row has an index
pub has_row : (p : Option ℕ) (rows : GlobalsRows) → is_some (index_held p rows) ≡ is_some (row_held p rows)
has_row None rows = refl
has_row (Some p) rows = by (position (λ (e : ℕ × VarsState). e.0 == p) rows) refl
  where
    by : (o : Option ℕ) → position (λ (e : ℕ × VarsState). e.0 == p) rows ≡ o → is_some o ≡ is_some (lookup (λ k. k == p) rows)
    by None is = sym (ap is_some (not_found (λ k. k == p) rows is))
    by (Some i) is = let d : ℕ × VarsState = (0, no_variables 0) in sym (ap is_some (found_at (λ k. k == p) rows i d (is_row_at (λ k. k == p) rows i d is)))
