-- What holds of the variables after one of them is made or changed.
use Rattle.std.proofs.Common.{◌≡◌, ℕ, ◌*◌, ◌==◌, IsSome, ◌-◌, ◌≤◌, ◌<◌, Bool, true, false, cond, List, Option, Some, None, IfSome, is_eq, is_some, refl, ap, sym, subst, ◌∙◌, arith, Ordering, Less, Equal, Greater, true≢false}
use Rattle.std.proofs.lemmas.List.{length-replicate, length-take-le, length-set}
use Rattle.std.proofs.lemmas.Bool.Decides.{nat_tests}
use Rattle.std.specs.FinMap.{get, insert, get-retain_keys}
use Rattle.b2_dec.specs.Number.{Number}
use Rattle.b2_vars.specs.declared.name.Var.{Var}
use Rattle.b2_vars.specs.declared.shape.Shape.{Shape}
use Rattle.b2_vars.specs.Names.{is_legal_name}
use Rattle.b2_vars.specs.Shapes.{has_dimensions, has_length, cost, size_of, cells, number_cells, alpha_bytes, is_up_to}
use Rattle.b2_vars.specs.Variables.{VariableState, fresh, with_number, with_bytes, reshaped}
use Rattle.b2_vars.specs.Tables.{Table, IsSound, IsVariable, count_of, variable_at, shape_at}
use Rattle.b2_vars.specs.Calls.{full, common_only, is_common}
use Rattle.b2_base.specs.declared.codes.TheConstants.{A02_DATA_AREA}
use Rattle.b2_vars.proofs.NamesAsKeys.{names_exact}
use Rattle.b2_vars.proofs.EntriesAsMap.{get_put}
use Rattle.b2_vars.proofs.Cells.{variable_at-Some}
use Rattle.b2_vars.proofs.Overwriting.{length-overwritten}
use Rattle.b2_vars.proofs.Costs.{is_zero}
use Rattle.b2_vars.proofs.Counts.{cost_of, count-insert}

equal : (r : Ordering) → is_eq r ≡ true → r ≡ Equal
equal Less p = absurd (true≢false (sym p))
equal Equal p = refl
equal Greater p = absurd (true≢false (sym p))

times_zero : (n : ℕ) → n * 0 ≡ 0
times_zero n = omega arith

-- what stands under a name that is common, and nothing else
pub get-common : (t : Table) (q : Var) → get (common_only t) q ≡ cond (is_common q t) (get t q) None
get-common t q = get-retain_keys t (λ v. is_common v t) q (λ x tie. ap (λ v. is_common v t) (sym (names_exact q x tie)))

pub fresh-variable : (v : Var) (s : Shape) (common : Bool) → is_legal_name v ≡ true → has_dimensions v s ≡ true → has_length v s ≡ true → IsVariable v (fresh v s common)
fresh-variable v s common named dimensions value_length = record {
  named = named;
  dimensions = dimensions;
  value_length = value_length;
  numbers = length-replicate _ _;
  bytes = length-replicate _ _;
}

-- the area would be passed by a new variable exactly where it has no room for what the variable takes
pub full-new : (area count : ℕ) (t : Table) (v : Var) (x : VariableState) → IsSound area count t → get t v ≡ None → area - count < cost v x.shape → full area (insert t v x) ≡ Some A02_DATA_AREA
full-new area count t v x sound none over =
    let more : area < count_of (insert t v x) = omega (arith, over, count-insert t v x, ap (cost_of v) none, sound.counted, sound.fits) in
    grind (arith, nat_tests)

pub room-new : (area count : ℕ) (t : Table) (v : Var) (x : VariableState) → IsSound area count t → get t v ≡ None → cost v x.shape ≤ area - count → full area (insert t v x) ≡ None
room-new area count t v x sound none fits =
    let more : count_of (insert t v x) ≤ area = omega (arith, fits, count-insert t v x, ap (cost_of v) none, sound.counted, sound.fits) in
    grind (arith, nat_tests)

-- what is there doesn't pass the area
pub room-old : (area count : ℕ) (t : Table) → IsSound area count t → full area t ≡ None
room-old area count t sound =
    let more : count_of t ≤ area = omega (arith, sound.counted, sound.fits) in
    grind (arith, nat_tests)

pub found-put : (t : Table) (v : Var) (x : VariableState) → IsSome (get (insert t v x) v)
found-put t v x = ap is_some (get_put t v x)

-- a variable of its name stands where one is found
pub found-variable : (t : Table) (v : Var) → IfSome (get t v) (IsVariable v) → IsSome (get t v) → IsVariable v (variable_at v t)
found-variable t v sound found = by (get t v) refl sound found
  where
    by : (o : Option VariableState) → get t v ≡ o → IfSome o (IsVariable v) → IsSome o → IsVariable v (variable_at v t)
    by None e is s = absurd (true≢false (sym s))
    by (Some x) e is s = subst (IsVariable v) (sym (variable_at-Some t v x e)) is

pub sound-found : (area count : ℕ) (t : Table) (v : Var) → IsSound area count t → IsSome (get t v) → IsVariable v (variable_at v t)
sound-found area count t v sound found = found-variable t v (sound.each v) found

pub found-cost : (t : Table) (v : Var) → IsSome (get t v) → cost_of v (get t v) ≡ cost v (shape_at v t)
found-cost t v found = by (get t v) refl found
  where
    by : (o : Option VariableState) → get t v ≡ o → IsSome o → cost_of v (get t v) ≡ cost v (shape_at v t)
    by None e s = absurd (true≢false (sym s))
    by (Some x) e s = ap (cost_of v) e ∙ ap (λ (y : VariableState). cost v y.shape) (sym (variable_at-Some t v x e))

pub number-kept : (v : Var) (x : VariableState) (cell : ℕ) (n : Number) → IsVariable v x → IsVariable v (with_number cell n x)
number-kept v x cell n is = record {
  named = is.named;
  dimensions = is.dimensions;
  value_length = is.value_length;
  numbers = length-set x.numbers cell n ∙ is.numbers;
  bytes = is.bytes;
}

pub bytes-kept : (v : Var) (x : VariableState) (from : ℕ) (bytes : List ℕ) → IsVariable v x → IsVariable v (with_bytes from x bytes)
bytes-kept v x from bytes is = record {
  named = is.named;
  dimensions = is.dimensions;
  value_length = is.value_length;
  numbers = is.numbers;
  bytes = length-overwritten from bytes x.bytes ∙ is.bytes;
}

-- a shape that takes no more has no more values
smaller : (v : Var) (s old : Shape) → has_length v s ≡ true → size_of v s ≤ size_of v old → (number_cells v s ≤ number_cells v old) × (alpha_bytes s ≤ alpha_bytes old)
smaller v s old is fits = by v.alpha refl
  where
    by : (b : Bool) → v.alpha ≡ b → (number_cells v s ≤ number_cells v old) × (alpha_bytes s ≤ alpha_bytes old)
    by true e = (omega (arith, ap (λ b. cond b 0 (cells s)) e), omega (arith, fits, ap (λ b. cond b (alpha_bytes s) (cells s * 8)) e, ap (λ b. cond b (alpha_bytes old) (cells old * 8)) e))
    by false e =
        let no_length : s.len ≡ 0 = is_zero s.len (sym (ap (λ b. cond b (is_up_to 124 s.len) (s.len == 0)) e) ∙ is) in
        let none : alpha_bytes s ≡ 0 = ap (λ n. cells s * n) no_length ∙ times_zero (cells s) in (
          omega (arith, fits, ap (λ b. cond b 0 (cells s)) e, ap (λ b. cond b 0 (cells old)) e, ap (λ b. cond b (alpha_bytes s) (cells s * 8)) e, ap (λ b. cond b (alpha_bytes old) (cells old * 8)) e),
          omega (arith, none),
        )

pub reshaped-variable : (v : Var) (s : Shape) (x : VariableState) → IsVariable v x → has_dimensions v s ≡ true → has_length v s ≡ true → size_of v s ≤ size_of v x.shape → IsVariable v (reshaped v s x)
reshaped-variable v s x is dimensions value_length fits =
    let less = smaller v s x.shape value_length fits in
    record {
      named = is.named;
      dimensions = dimensions;
      value_length = value_length;
      numbers = length-take-le (number_cells v s) x.numbers (omega (arith, less.0, is.numbers));
      bytes = length-take-le (alpha_bytes s) x.bytes (omega (arith, less.1, is.bytes));
    }
