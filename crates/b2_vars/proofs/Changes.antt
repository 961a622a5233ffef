-- The calls that add, shorten, move and drop entries of a block, over its fields with no struct about them.
use Rattle.std.proofs.Common.{◌≡◌, ℕ, ◌+◌, ◌-◌, ◌<◌, ◌≤◌, Bool, true, false, List, [], ◌∷◌, ◌++◌, length, take, drop, set, map, is_some, None, ap, sym, subst, ◌∙◌, arith}
use Rattle.std.specs.List.{copy_within}
use Rattle.std.specs.FinMap.{get}
use Rattle.b2_vars.specs.declared.name.Var.{Var}
use Rattle.b2_vars.specs.declared.shape.Shape.{Shape}
use Rattle.b2_vars.specs.Names.{is_legal_name}
use Rattle.b2_vars.specs.Shapes.{cost, size_of, has_dimensions, has_length}
use Rattle.b2_vars.specs.Variables.{overwritten, fresh, with_bytes, reshaped}
use Rattle.b2_vars.specs.Tables.{Entries, VarsState, table_of, variable_at, shape_at}
use Rattle.b2_vars.specs.Calls.{with_variable, with_change, common_only}
use Rattle.b2_vars.specs.Block.{BlockState, state_of, head_bytes, entry_bytes, entries_in, number_of, lowered, without, stands_in, common_entries, StandsAt, IsLaid}
use Rattle.b2_vars.proofs.Standing.{key-stands}
use Rattle.b2_vars.proofs.Laying.{Shows}
use Rattle.b2_vars.proofs.Steps.{same-area, laid-there, stored-all, found-among, entries-are, laid-around, starts-at}
use Rattle.b2_vars.proofs.Adding.{shows-added, fresh-stored}
use Rattle.b2_vars.proofs.Shortening.{shows-shorter}
use Rattle.b2_vars.proofs.MovingLast.{lent-laid}
use Rattle.b2_vars.proofs.CommonEntries.{table-common}

module _ (block : List ℕ) (used : ℕ) (places : List ℕ) (laid : IsLaid block used places (entries_in used block)) (b : BlockState) (view : record { area = length block; entries = entries_in used block } ≡ b) where
  whole : record { area = length block; table = table_of b.entries } ≡ state_of b
  whole = λ i. record { area = same-area block used places laid b view i; table = table_of b.entries }

  nowhere-there : (v : Var) → get (table_of b.entries) v ≡ None → stands_in v b.entries ≡ false
  nowhere-there v none = sym (key-stands v b.entries) ∙ ap is_some none

  pub add-step : (v : Var) (s : Shape) (common : Bool) → get (table_of b.entries) v ≡ None → is_legal_name v ≡ true → has_dimensions v s ≡ true → has_length v s ≡ true → number_of v < 1144 → used + cost v s ≤ length block
      → Shows (overwritten used (entry_bytes (v, fresh v s common)) block) (used + cost v s) (set places (number_of v) (used + 1)) (with_variable v (fresh v s common) (state_of b))
  add-step v s common none named dimensions value_length below room =
      subst (λ (t : VarsState). Shows (overwritten used (entry_bytes (v, fresh v s common)) block) (used + cost v s) (set places (number_of v) (used + 1)) (with_variable v (fresh v s common) t)) whole
      (shows-added block used places b.entries (laid-there block used places laid b view) v (fresh v s common) (nowhere-there v none) (fresh-stored v s common named dimensions value_length) below room)

  pub common-step : (bytes : List ℕ) (left : ℕ) (spots : List ℕ) → length bytes ≡ length block → IsLaid bytes left spots (common_entries (entries_in used block))
      → Shows bytes left spots (record { area = b.area; table = common_only (table_of b.entries) })
  common-step bytes left spots long kept =
      let es = ap (λ (s : BlockState). s.entries) view in
      record {
        entries = common_entries b.entries;
        laid = subst (λ (fs : Entries). IsLaid bytes left spots (common_entries fs)) es kept;
        state = λ i. record { area = (long ∙ same-area block used places laid b view) i; table = table-common b.entries (stored-all block used places laid b view) i };
      }

  module _ (v : Var) (place : ℕ) (stands : StandsAt v place b.entries) where
    around : record { area = length block; table = table_of ((found-among block used places laid b view v place stands).front ++ (v, variable_at v (table_of b.entries)) ∷ (found-among block used places laid b view v place stands).rest) } ≡ state_of b
    around = λ i. record { area = same-area block used places laid b view i; table = table_of (sym (entries-are block used places laid b view v place stands) i) }

    pub reshape-step : (s : Shape) (at gap : ℕ) → has_dimensions v s ≡ true → has_length v s ≡ true → size_of v s ≤ size_of v (shape_at v (table_of b.entries)) → at ≡ place - 1 → gap + size_of v s ≡ size_of v (shape_at v (table_of b.entries))
        → Shows (copy_within (overwritten at (head_bytes v s (variable_at v (table_of b.entries)).common) block) (at + cost v (shape_at v (table_of b.entries))) used (at + cost v s)) (used - gap) (map (lowered place gap) places)
        (with_change v (reshaped v s) (state_of b))
    reshape-step s at gap dimensions value_length room at_is gap_is =
        let x = variable_at v (table_of b.entries) in
        let a = found-among block used places laid b view v place stands in
        let next : at + 1 ≡ place = omega (arith, at_is, stands.some) in
        subst (λ (n : ℕ). Shows (copy_within (overwritten at (head_bytes v s x.common) block) (at + cost v x.shape) used (at + cost v s)) (used - gap) (map (lowered n gap) places) (with_change v (reshaped v s) (state_of b))) next
        (subst (λ (t : VarsState). Shows (copy_within (overwritten at (head_bytes v s x.common) block) (at + cost v x.shape) used (at + cost v s)) (used - gap) (map (lowered (at + 1) gap) places) (with_variable v (reshaped v s x) t)) around
        (shows-shorter v x a.front a.rest block used places (laid-around block used places laid b view v place stands) a.absent s dimensions value_length room at gap (at_is ∙ starts-at block used places laid b view v place stands) gap_is))

    pub lend-step : (from a : ℕ) (w : List ℕ) → number_of v < 1144 → a + length (variable_at v (table_of b.entries)).bytes ≡ used + from → from ≤ length (variable_at v (table_of b.entries)).bytes
        → IsLaid (overwritten a w (take (place - 1) block ++ (drop (cost v (shape_at v (table_of b.entries))) (take (used - (place - 1)) (drop (place - 1) block)) ++ (take (cost v (shape_at v (table_of b.entries))) (take (used - (place - 1)) (drop (place - 1) block)) ++ drop used block)))) used
        (set (map (lowered place (cost v (shape_at v (table_of b.entries)))) places) (number_of v) (used - cost v (shape_at v (table_of b.entries)) + 1))
        (without v b.entries ++ (v, with_bytes from (variable_at v (table_of b.entries)) w) ∷ [])
    lend-step from a w below a_is low =
        let x = variable_at v (table_of b.entries) in
        let f = found-among block used places laid b view v place stands in
        let at = place - 1 in
        let next : at + 1 ≡ place = omega (arith, stands.some) in
        let bytes = take at block ++ (drop (cost v x.shape) (take (used - at) (drop at block)) ++ (take (cost v x.shape) (take (used - at) (drop at block)) ++ drop used block)) in
        subst (λ (n : ℕ). IsLaid (overwritten a w bytes) used (set (map (lowered n (cost v x.shape)) places) (number_of v) (used - cost v x.shape + 1)) (without v b.entries ++ (v, with_bytes from x w) ∷ [])) next
        (subst (λ (es : Entries). IsLaid (overwritten a w bytes) used (set (map (lowered (at + 1) (cost v x.shape)) places) (number_of v) (used - cost v x.shape + 1)) (without v es ++ (v, with_bytes from x w) ∷ [])) (sym (entries-are block used places laid b view v place stands))
        (lent-laid v x f.front f.rest block used places (laid-around block used places laid b view v place stands) f.absent below at from a w (starts-at block used places laid b view v place stands) a_is low))
