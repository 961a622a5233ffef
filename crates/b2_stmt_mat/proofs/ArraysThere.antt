-- An array that is there has a shape and as many values as it says, and reaching them has no code.
use Rattle.std.proofs.Common.{◌≡◌, ◌≤◌, ◌<◌, ℕ, zero, suc, Bool, true, false, true≢false, not, ◌&&◌, if◌then◌else◌, List, [], ◌∷◌, length, take, get_or, Option, Some, None, is_some, Ok, refl, sym, ap, subst, ◌∙◌, arith}
use Rattle.std.specs.Prelude.{IsSome, IfSome, ◌==◌}
use Rattle.std.specs.FinMap as map
use Rattle.std.proofs.lemmas.List.{length-take}
use Rattle.std.proofs.lemmas.Bool.Decides.{nat_tests}
use Rattle.std.specs.Option.{option_map, unwrap_or}
use Rattle.b2_base.specs.declared.codes.TheConstants.{P57_SUBSCRIPT, P59_NO_ARRAY, X77_NO_PARTITION}
use Rattle.b2_dec.specs.Number.{zero_number}
use Rattle.b2_vars.specs.Answers.{code_if, first_of}
use Rattle.b2_vars.specs.Calls.{full, get_code, made, missing_code, no_cell, set_code, with_scalar}
use Rattle.b2_vars.specs.Shapes.{cells, has_cell, has_dimensions, has_length, is_up_to, scalar_shape}
use Rattle.b2_vars.specs.Tables.{IsVariable, Table, VarsState, count_of, shape_at, variable_at}
use Rattle.b2_vars.specs.Variables.{VariableState, fresh, number_at}
use Rattle.b2_vars.proofs.Cells.{variable_at-Some}
use Rattle.b2_vars.specs.declared.name.Var.{Var}
use Rattle.b2_vars.specs.declared.shape.Shape.{Shape}
use Rattle.b2_rows.specs.declared.leaves.Name.{Name}
use Rattle.b2_expr.specs.Answers.{◌>>=◌, or_code, unless}
use Rattle.b2_expr.specs.Named.{variable_of}
use Rattle.b2_expr.specs.Scope.{Surroundings}
use Rattle.b2_receiver.specs.Receivers.{IsArray, array_there}
use Rattle.b2_receiver.specs.declared.receiver.Array.{Array}
use Rattle.b2_stmt_mat.specs.Arrays.{IsArrayIn, families, vars_of}

-- an array that was found by its name is there
record Found (v : Var) (t : Table) (made a : Array) : Type 0 where
  some : IsSome (map.get t v)
  same : made ≡ a

found_by : (v : Var) (t : Table) (made a : Array) (o : Option VariableState) → map.get t v ≡ o → unless (code_if (not (is_some o)) P59_NO_ARRAY) made ≡ Ok a → Found v t made a
found_by v t made a (Some x) is got = record { some = ap is_some is; same = cc }
found_by v t made a None is got = cc

-- among the variables that its name says
abbrev Stands : VarsState → VarsState → Array → Type 0
Stands own lent a = IsSome (map.get (vars_of a.global (record { own = own; lent = lent })).table a.var)

found_among : (g : Bool) (o : Option VarsState) (own : VarsState) (v : Var) (a : Array)
    → ((if g then or_code X77_NO_PARTITION o else Ok own) >>= (λ vars. unless (missing_code v vars.table) (record { global = g; var = v }))) ≡ Ok a → Stands own (unwrap_or o own) a
found_among true None own v a got = cc
found_among true (Some x) own v a got = let f = found_by v x.table (record { global = true; var = v }) a (map.get x.table v) refl got in subst (Stands own x) f.same f.some
found_among false o own v a got = let f = found_by v own.table (record { global = false; var = v }) a (map.get own.table v) refl got in subst (Stands own (unwrap_or o own)) f.same f.some

pub array_there_so : (alpha : Bool) (e : Surroundings) (name : Name) (a : Array) → array_there e name ≡ Ok a → IsArray a.var × (a.var.alpha ≡ alpha) → IsArrayIn alpha a (families e)
array_there_so alpha e name a got is = record { named = is.0.0; kind = is.1; array = is.0.1; there = found_among name.global e.globals e.own (variable_of name true) a got }

-- what stands under its name
pub stands : (t : Table) (v : Var) → IsSome (map.get t v) → map.get t v ≡ Some (variable_at v t)
stands t v some = by (map.get t v) refl some
  where
    by : (o : Option VariableState) → map.get t v ≡ o → IsSome o → map.get t v ≡ Some (variable_at v t)
    by (Some x) is h = is ∙ ap (λ (y : VariableState). Some y) (sym (variable_at-Some t v x is))
    by None is h = absurd (true≢false (sym h))

shape_by : (o : Option VariableState) (x : VariableState) (s : Shape) → o ≡ Some x → Some s ≡ option_map (λ (y : VariableState). y.shape) o → s ≡ x.shape
shape_by (Some y) x s is told = cc
shape_by None x s is told = cc

pub shape_found : (t : Table) (v : Var) (s : Shape) → IsSome (map.get t v) → Some s ≡ option_map (λ (y : VariableState). y.shape) (map.get t v) → s ≡ shape_at v t
shape_found t v s some told = shape_by (map.get t v) (variable_at v t) s (stands t v some) told

pub sound_found : (t : Table) (v : Var) → IsSome (map.get t v) → IfSome (map.get t v) (IsVariable v) → IsVariable v (variable_at v t)
sound_found t v some sound = subst (λ (o : Option VariableState). IfSome o (IsVariable v)) (stands t v some) sound

no_shape_by : (o : Option VariableState) → IsSome o → None ≡ option_map (λ (y : VariableState). y.shape) o → ⊥
no_shape_by (Some y) some told = cc
no_shape_by None some told = true≢false (sym some)

pub no_shape : (t : Table) (v : Var) → IsSome (map.get t v) → None ≡ option_map (λ (y : VariableState). y.shape) (map.get t v) → ⊥
no_shape t v some told = no_shape_by (map.get t v) some told

-- an array of numbers has rows, and as many numbers as cells
rows_by : (a z : Bool) (rows cols : ℕ) → a ≡ true → (if a then (if z then is_up_to 4000 rows else (is_up_to 255 rows && is_up_to 255 cols)) else (rows == 0 && cols == 0)) ≡ true → 0 < rows
rows_by true true (suc rows) cols is h = omega arith
rows_by true false (suc rows) cols is h = omega arith
rows_by true true zero cols is h = cc
rows_by true false zero cols is h = cc
rows_by false z rows cols is h = cc

pub some_rows : (v : Var) (s : Shape) → v.array ≡ true → has_dimensions v s ≡ true → 0 < s.rows
some_rows v s array allowed = rows_by v.array (s.cols == 0) s.rows s.cols array allowed

len_by : (a : Bool) (len : ℕ) → a ≡ true → (if a then is_up_to 124 len else (len == 0)) ≡ true → 0 < len
len_by true (suc len) is h = omega arith
len_by true zero is h = cc
len_by false len is h = cc

pub some_length : (v : Var) (s : Shape) → v.alpha ≡ true → has_length v s ≡ true → 0 < s.len
some_length v s alpha allowed = len_by v.alpha s.len alpha allowed

count_by : (a : Bool) (n k : ℕ) → a ≡ false → n ≡ (if a then 0 else k) → n ≡ k
count_by false n k is h = h
count_by true n k is h = cc

pub number_count : (v : Var) (x : VariableState) → v.alpha ≡ false → IsVariable v x → length x.numbers ≡ cells x.shape
number_count v x number is = count_by v.alpha (length x.numbers) (cells x.shape) number is.numbers

-- no code comes where its values are reached
array_none : (a b : Bool) → b ≡ true → code_if (a && not b) P59_NO_ARRAY ≡ None
array_none true true is = refl
array_none false true is = refl
array_none a false is = cc

cell_none : (b : Bool) → b ≡ true → code_if (not b) P57_SUBSCRIPT ≡ None
cell_none true is = refl
cell_none false is = cc

pub get_none : (v : Var) (r c : ℕ) (t : Table) → IsSome (map.get t v) → has_cell (shape_at v t) r c ≡ true → get_code v r c t ≡ None
get_none v r c t some has = ap (λ (a : Option ℕ). first_of (a ∷ no_cell v r c t ∷ [])) (array_none v.array (map.contains_key t v) some) ∙ ap (λ (a : Option ℕ). first_of (None ∷ a ∷ [])) (cell_none (has_cell (shape_at v t) r c) has)

pub no_get : (v : Var) (r c code : ℕ) (t : Table) → IsSome (map.get t v) → has_cell (shape_at v t) r c ≡ true → get_code v r c t ≡ Some code → ⊥
no_get v r c code t some has told = let none : get_code v r c t ≡ None = get_none v r c t some has in cc

pub number_there : (v : Var) (cell : ℕ) (t : Table) → IsSome (map.get t v) → number_at cell (map.get t v) ≡ get_or (variable_at v t).numbers cell zero_number
number_there v cell t some = ap (λ (o : Option VariableState). number_at cell o) (stands t v some)

pub scalar_kept : (v : Var) (s : VarsState) → IsSome (map.get s.table v) → with_scalar v s ≡ s
scalar_kept v s some = ap (λ (o : Option VariableState). record s { table = made o v (fresh v (scalar_shape v) false) s.table }) (stands s.table v some)

full_none : (area : ℕ) (t : Table) → count_of t ≤ area → full area t ≡ None
full_none area t fits = grind (arith, nat_tests)

pub set_none : (v : Var) (r c : ℕ) (s : VarsState) → IsSome (map.get s.table v) → has_cell (shape_at v s.table) r c ≡ true → count_of s.table ≤ s.area → set_code v r c s ≡ None
set_none v r c s some has fits =
    ap (λ (a : Option ℕ). first_of (a ∷ no_cell v r c s.table ∷ full s.area (with_scalar v s).table ∷ [])) (array_none v.array (map.contains_key s.table v) some)
    ∙ ap (λ (a : Option ℕ). first_of (None ∷ a ∷ full s.area (with_scalar v s).table ∷ [])) (cell_none (has_cell (shape_at v s.table) r c) has)
    ∙ ap (λ (x : VarsState). first_of (None ∷ None ∷ full s.area x.table ∷ [])) (scalar_kept v s some)
    ∙ ap (λ (a : Option ℕ). first_of (None ∷ None ∷ a ∷ [])) (full_none s.area s.table fits)

pub no_set : (v : Var) (r c code : ℕ) (s : VarsState) → IsSome (map.get s.table v) → has_cell (shape_at v s.table) r c ≡ true → count_of s.table ≤ s.area → set_code v r c s ≡ Some code → ⊥
no_set v r c code s some has fits told = let none : set_code v r c s ≡ None = set_none v r c s some has fits in cc

missing_none : (b : Bool) → b ≡ true → code_if (not b) P59_NO_ARRAY ≡ None
missing_none true is = refl
missing_none false is = cc

pub no_missing : (v : Var) (code : ℕ) (t : Table) → IsSome (map.get t v) → missing_code v t ≡ Some code → ⊥
no_missing v code t some told = let none : missing_code v t ≡ None = missing_none (map.contains_key t v) some in cc

-- no more bytes are named than two bytes can count
pub few : (n : ℕ) (bytes : List ℕ) → length (take n bytes) ≤ n
few n bytes = omega (arith, length-take n bytes)
