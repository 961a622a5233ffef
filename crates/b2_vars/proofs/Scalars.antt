-- A variable that is made where nothing stands: it is found there, and a scalar has the shape that was seen before.
use Rattle.std.proofs.Common.{◌≡◌, Bool, true, false, ℕ, ◌+◌, ◌<◌, ◌≤◌, arith, length, get_or, Option, None, Some, IsSome, IfSome, is_some, not, nat_lt, true≢false, ◌&&◌, ◌==◌, [], ◌∷◌, refl, ap, sym, subst, ◌∙◌}
use Rattle.std.proofs.lemmas.Bool.Decides.{nat_tests}
use Rattle.std.specs.Option.{unwrap_or}
use Rattle.std.specs.FinMap.{get, insert, contains_key}
use Rattle.b2_base.specs.declared.codes.TheConstants.{P57_SUBSCRIPT, P59_NO_ARRAY}
use Rattle.b2_vars.specs.declared.name.Var.{Var}
use Rattle.b2_vars.specs.declared.shape.Shape.{Shape}
use Rattle.b2_vars.specs.Answers.{code_if, first_of}
use Rattle.b2_vars.specs.Shapes.{scalar_shape, has_cell, is_subscript, cell_at, cells}
use Rattle.b2_dec.specs.Number.{zero_number}
use Rattle.b2_vars.specs.Variables.{VariableState, fresh, number_at}
use Rattle.b2_vars.specs.Tables.{Table, VarsState, IsVariable, IsSound, count_of, shape_at, variable_at}
use Rattle.b2_vars.specs.Calls.{made, with_new, with_scalar, no_part, get_code, full, IsCell, IsPart}
use Rattle.b2_vars.proofs.EntriesAsMap.{get_put}
use Rattle.b2_vars.proofs.Cells.{variable_at-Some, cell-lt, number-room}
use Rattle.b2_vars.proofs.Costs.{no_dimensions}
use Rattle.b2_vars.proofs.Soundness.{found-put, found-variable, room-old}

pub found-new : (t : Table) (v : Var) (s : Shape) (common : Bool) → IsSome (get (with_new v s common t) v)
found-new t v s common = by (get t v) refl
  where
    by : (o : Option VariableState) → get t v ≡ o → IsSome (get (made o v (fresh v s common) t) v)
    by None e = found-put t v (fresh v s common)
    by (Some x) e = ap is_some e

pub shape-scalar : (s : VarsState) (v : Var) → shape_at v (with_scalar v s).table ≡ shape_at v s.table
shape-scalar s v = by (get s.table v) refl
  where
    by : (o : Option VariableState) → get s.table v ≡ o → shape_at v (made o v (fresh v (scalar_shape v) false) s.table) ≡ shape_at v s.table
    by None e =
        ap (λ (x : VariableState). x.shape) (variable_at-Some (insert s.table v (fresh v (scalar_shape v) false)) v (fresh v (scalar_shape v) false) (get_put s.table v (fresh v (scalar_shape v) false)))
        ∙ sym (ap (λ (o : Option VariableState). (unwrap_or o (fresh v (scalar_shape v) false)).shape) e)
    by (Some x) e = refl

-- a value that a shape has is one of the variable that is found
pub cell-found : (s : VarsState) (v : Var) (r c : ℕ) → has_cell (shape_at v s.table) r c ≡ true → IsCell v (cell_at (shape_at v s.table) r c) (with_scalar v s).table
cell-found s v r c has =
    let shape = shape-scalar s v in
    record {
      found = found-new s.table v (scalar_shape v) false;
      below = subst (λ (shape : Shape). cell_at (shape_at v s.table) r c < cells shape) (sym shape) (cell-lt (shape_at v s.table) r c has);
    }

pub part-found : (s : VarsState) (v : Var) (r c from n : ℕ) → has_cell (shape_at v s.table) r c ≡ true → no_part v from n s.table ≡ None → IsPart v r c from n (with_scalar v s).table
part-found s v r c from n has part =
    let shape = shape-scalar s v in
    let fits : from + n ≤ (shape_at v s.table).len = grind (arith, nat_tests) in
    record {
      found = found-new s.table v (scalar_shape v) false;
      cell = subst (λ (shape : Shape). has_cell shape r c ≡ true) (sym shape) has;
      within = subst (λ (shape : Shape). from + n ≤ shape.len) (sym shape) fits;
    }

no_size : (rows cols : ℕ) → (rows == 0 && cols == 0) ≡ true → is_subscript rows 0 && is_subscript cols 0 ≡ true
no_size rows cols h =
    let none : (rows ≡ 0) × (cols ≡ 0) = (grind (arith, nat_tests), grind (arith, nat_tests)) in
    (λ i. is_subscript (none.0 i) 0 && is_subscript (none.1 i) 0)

-- a scalar has its one value, whether it is there or not
scalar_has : (v : Var) (o : Option VariableState) → v.array ≡ false → IfSome o (IsVariable v) → has_cell (unwrap_or o (fresh v (scalar_shape v) false)).shape 0 0 ≡ true
scalar_has v None array is = refl
scalar_has v (Some x) array is = no_size x.shape.rows x.shape.cols (no_dimensions v x.shape array is.dimensions)

pub scalar-code : (t : Table) (v : Var) (r c : ℕ) → IfSome (get t v) (IsVariable v) → v.array ≡ false → r ≡ 0 → c ≡ 0 → get_code v r c t ≡ None
scalar-code t v r c sound array row column =
    let has : has_cell (shape_at v t) r c ≡ true = (λ i. has_cell (shape_at v t) (row i) (column i)) ∙ scalar_has v (get t v) array sound in
    (λ i. first_of (code_if (array i && not (contains_key t v)) P59_NO_ARRAY ∷ code_if (not (has i)) P57_SUBSCRIPT ∷ []))

-- a place above 0 is that of a name under which a variable stands
pub some-found : (place : ℕ) (t : Table) (v : Var) → nat_lt 0 place ≡ contains_key t v → 1 ≤ place → IsSome (get t v)
some-found place t v there some = sym there ∙ positive
  where
    positive : nat_lt 0 place ≡ true
    positive = grind (arith, nat_tests)

-- a scalar of numbers has one, which is its first
pub scalar-room : (t : Table) (v : Var) → IfSome (get t v) (IsVariable v) → IsSome (get t v) → v.alpha ≡ false → v.array ≡ false → 0 < length (variable_at v t).numbers
scalar-room t v sound found number array =
    omega (arith, number-room t v 0 0 (found-variable t v sound found) number (scalar_has v (get t v) array sound))

first-cell : (s : Shape) → cell_at s 0 0 ≡ 0
first-cell s = omega arith

pub scalar-number : (t : Table) (v : Var) → IsSome (get t v) → get_or (variable_at v t).numbers 0 zero_number ≡ number_at (cell_at (shape_at v t) 0 0) (get t v)
scalar-number t v found = by (get t v) refl found
  where
    by : (o : Option VariableState) → get t v ≡ o → IsSome o → get_or (variable_at v t).numbers 0 zero_number ≡ number_at (cell_at (shape_at v t) 0 0) (get t v)
    by None e h = absurd (true≢false (sym h))
    by (Some x) e h =
        ap (λ (y : VariableState). get_or y.numbers 0 zero_number) (variable_at-Some t v x e)
        ∙ ap (λ (k : ℕ). get_or x.numbers k zero_number) (sym (first-cell (shape_at v t)))
        ∙ ap (number_at (cell_at (shape_at v t) 0 0)) (sym e)

-- where it stands, nothing more is taken
pub full-there : (area : ℕ) (t : Table) (v : Var) (s : Shape) (common : Bool) → IsSound area (count_of t) t → IsSome (get t v) → full area (with_new v s common t) ≡ None
full-there area t v s common sound found = by (get t v) found
  where
    by : (o : Option VariableState) → IsSome o → full area (made o v (fresh v s common) t) ≡ None
    by None h = absurd (true≢false (sym h))
    by (Some x) h = room-old area (count_of t) t sound
