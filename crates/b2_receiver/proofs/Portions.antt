-- The bytes that a receiver names among those of its variable.
use Rattle.std.proofs.Common.{◌≡◌, ◌≤◌, ℕ, ◌+◌, ◌-◌, ◌*◌, List, length, take, drop, slice_range, arith, refl, sym, ap, subst, ◌∙◌, Option, Some, None, IsSome, IfSome, true≢false}
use Rattle.std.proofs.lemmas.List.{length-take, take-take, drop-drop, drop-take}
use Rattle.std.proofs.Common.{length-drop}
use Rattle.std.specs.FinMap as map
use Rattle.b2_vars.specs.declared.name.Var.{Var}
use Rattle.b2_vars.specs.Calls.{part_place}
use Rattle.b2_vars.specs.Shapes.{cell_at}
use Rattle.b2_vars.specs.Tables.{Table, VarsState, IsVariable, shape_at, variable_at}
use Rattle.b2_vars.specs.Variables.{VariableState, alpha_at, bytes_from}
use Rattle.b2_vars.proofs.Cells.{variable_at-Some, part-within}
use Rattle.b2_receiver.specs.Assigning.{IsThere, portion_in}
use Rattle.b2_receiver.specs.declared.receiver.AlphaReceiver.{AlphaReceiver}

-- bytes from a place on within others
less_again : (a l : ℕ) → (a + l) - a ≡ l
less_again a l = omega arith

within_split : (from count l : ℕ) → from + count ≤ l → from + (l - from) ≡ l
within_split from count l h = omega (arith, h)

within_left : (from count l : ℕ) → from + count ≤ l → count ≤ l - from
within_left from count l h = omega (arith, h)

range_in : (xs : List ℕ) (a l from count : ℕ) → from + count ≤ l → take count (drop from (slice_range xs a (a + l))) ≡ slice_range xs (a + from) (a + from + count)
range_in xs a l from count h =
    ap (λ (n : ℕ). take count (drop from (take n (drop a xs)))) (less_again a l ∙ sym (within_split from count l h))
    ∙ ap (take count) (drop-take from (l - from) (drop a xs))
    ∙ take-take count (l - from) (drop from (drop a xs)) (within_left from count l h)
    ∙ ap (take count) (drop-drop from a xs)
    ∙ ap (λ (n : ℕ). take n (drop (a + from) xs)) (sym (less_again (a + from) count))

found_by : (to : AlphaReceiver) (s : VarsState) (o : Option VariableState) → map.get s.table to.element.var ≡ o → IsSome o → IsThere to s
    → take to.portion.count (drop to.portion.from (alpha_at (cell_at (shape_at to.element.var s.table) to.element.row to.element.column) o)) ≡ portion_in to s
found_by to s None is found there = absurd (true≢false (sym found))
found_by to s (Some x) is found there =
    let same = variable_at-Some s.table to.element.var x is in
    let cell = cell_at (shape_at to.element.var s.table) to.element.row to.element.column in
    let fits : to.portion.from + to.portion.count ≤ x.shape.len = subst (λ (y : VariableState). to.portion.from + to.portion.count ≤ y.shape.len) same there.within in
    range_in x.bytes (cell * x.shape.len) x.shape.len to.portion.from to.portion.count fits
    ∙ sym (ap (λ (y : VariableState). bytes_from (cell * y.shape.len + to.portion.from) to.portion.count y.bytes) same)

pub portion_found : (to : AlphaReceiver) (s : VarsState) → IsThere to s
    → take to.portion.count (drop to.portion.from (alpha_at (cell_at (shape_at to.element.var s.table) to.element.row to.element.column) (map.get s.table to.element.var))) ≡ portion_in to s
portion_found to s there = found_by to s (map.get s.table to.element.var) refl there.found there

variable_by : (v : Var) (t : Table) (o : Option VariableState) → map.get t v ≡ o → IsSome o → IfSome o (IsVariable v) → IsVariable v (variable_at v t)
variable_by v t None is found sound = absurd (true≢false (sym found))
variable_by v t (Some x) is found sound = subst (IsVariable v) (sym (variable_at-Some t v x is)) sound

length_within : (xs : List ℕ) (p n : ℕ) → p + n ≤ length xs → length (slice_range xs p (p + n)) ≡ n
length_within xs p n h = omega (arith, length-take ((p + n) - p) (drop p xs), length-drop p xs, h)

pub portion_length : (to : AlphaReceiver) (s : VarsState) → IsThere to s → IfSome (map.get s.table to.element.var) (IsVariable to.element.var) → length (portion_in to s) ≡ to.portion.count
portion_length to s there sound =
    let is = variable_by to.element.var s.table (map.get s.table to.element.var) refl there.found sound in
    length_within (variable_at to.element.var s.table).bytes (part_place to.element.var to.element.row to.element.column to.portion.from s.table) to.portion.count
    (part-within s.table to.element.var to.element.row to.element.column to.portion.from to.portion.count is there)
