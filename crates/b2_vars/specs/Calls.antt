-- What each call leaves, and the code with which it refuses.
use Rattle.std.specs.Prelude.{◌≡◌, ℕ, ◌+◌, ◌*◌, Bool, true, false, not, ◌&&◌, nat_lt, List, [], ◌∷◌, length, Option, None, Some, IsSome, ◌≤◌, ◌<◌}
use Rattle.std.specs.FinMap as map
use Rattle.std.specs.Option.{option_map_or}
use Rattle.b2_base.specs.declared.codes.TheConstants.{A02_DATA_AREA, P34_RANGE, P50_DIMENSION, P53_LENGTH, P55_SHAPE_DIFFERS, P56_NOT_COMMON, P57_SUBSCRIPT, P59_NO_ARRAY}
use Rattle.b2_vars.specs.declared.name.Var.{Var}
use Rattle.b2_vars.specs.declared.shape.Shape.{Shape}
use Rattle.b2_vars.specs.Answers.{code_if, first_of}
use Rattle.b2_vars.specs.Shapes.{has_dimensions, has_length, is_same_shape, scalar_shape, size_of, has_cell, cell_at, cells}
use Rattle.b2_vars.specs.Variables.{VariableState, fresh, bytes_from, with_bytes}
use Rattle.b2_vars.specs.Tables.{Table, VarsState, count_of, variable_at, shape_at}

-- a new variable under a name where nothing stands, and else all as before
abbrev pub made : Option VariableState → Var → VariableState → Table → Table
made None v x t = map.insert t v x
made (Some old) v x t = t

-- a variable of a shape under a name, where nothing stands there
abbrev pub with_new : Var → Shape → Bool → Table → Table
with_new v s common t = made (map.get t v) v (fresh v s common) t

-- a scalar under a name, where nothing stands there
abbrev pub with_scalar : Var → VarsState → VarsState
with_scalar v s = record s { table = with_new v (scalar_shape v) false s.table }

-- something else under a name
abbrev pub with_variable : Var → VariableState → VarsState → VarsState
with_variable v x s = record s { table = map.insert s.table v x }

-- with a change of what stands under a name
abbrev pub with_change : Var → (VariableState → VariableState) → VarsState → VarsState
with_change v change s = with_variable v (change (variable_at v s.table)) s

-- with other bytes from a place on of one variable
abbrev pub with_bytes_of : Var → ℕ → VarsState → List ℕ → VarsState
with_bytes_of v from s bytes = with_change v (λ x. with_bytes from x bytes) s

-- n bytes from a place on of one variable are changed to others, which the relation allows
abbrev pub ChangesTable : (List ℕ → List ℕ → Type 0) → Var → ℕ → ℕ → Table → Table → Type 0
ChangesTable gives v from n old new =
    (y : List ℕ) × (length y ≡ n) × gives (bytes_from from n (variable_at v old).bytes) y × (new ≡ map.insert old v (with_bytes from (variable_at v old) y))

-- the same, within an area
abbrev pub ChangesPart : (List ℕ → List ℕ → Type 0) → Var → ℕ → ℕ → VarsState → VarsState → Type 0
ChangesPart gives v from n old new = (new.area ≡ old.area) × ChangesTable gives v from n old.table new.table

-- where the bytes of a value's part stand among those of its variable
abbrev pub part_place : Var → ℕ → ℕ → ℕ → Table → ℕ
part_place v r c from t = cell_at (shape_at v t) r c * (shape_at v t).len + from

-- a value of a variable has this part
pub record IsPart (v : Var) (r c from n : ℕ) (t : Table) : Type 0 where
  pub found : IsSome (map.get t v)
  pub cell : has_cell (shape_at v t) r c ≡ true
  pub within : from + n ≤ (shape_at v t).len

-- a variable has a value at this place along rows
pub record IsCell (v : Var) (cell : ℕ) (t : Table) : Type 0 where
  pub found : IsSome (map.get t v)
  pub below : cell < cells (shape_at v t)

-- whether a name is common
abbrev pub is_common : Var → Table → Bool
is_common v t = option_map_or (λ (x : VariableState). x.common) (map.get t v) false

-- the common variables alone
abbrev pub common_only : Table → Table
common_only t = map.retain_keys t (λ v. is_common v t)

-- P59: nothing stands under the name
abbrev pub missing_code : Var → Table → Option ℕ
missing_code v t = code_if (not (map.contains_key t v)) P59_NO_ARRAY

-- P59: the name is that of an array that wasn't made
abbrev pub no_array : Var → Table → Option ℕ
no_array v t = code_if (v.array && not (map.contains_key t v)) P59_NO_ARRAY

-- P57: the shape has no value at these subscripts
abbrev pub no_cell : Var → ℕ → ℕ → Table → Option ℕ
no_cell v r c t = code_if (not (has_cell (shape_at v t) r c)) P57_SUBSCRIPT

-- P50: the name can't have these dimensions
abbrev pub bad_dimensions : Var → Shape → Option ℕ
bad_dimensions v s = code_if (not (has_dimensions v s)) P50_DIMENSION

-- P53: the values of the name can't have this length
abbrev pub bad_length : Var → Shape → Option ℕ
bad_length v s = code_if (not (has_length v s)) P53_LENGTH

-- P56: the variable is there and not common
abbrev pub not_common : Var → Table → Option ℕ
not_common v t = code_if (option_map_or (λ (x : VariableState). not x.common) (map.get t v) false) P56_NOT_COMMON

-- P55: the variable is there in another shape
abbrev pub other_shape : Var → Shape → Table → Option ℕ
other_shape v s t = code_if (option_map_or (λ (x : VariableState). not (is_same_shape x.shape s)) (map.get t v) false) P55_SHAPE_DIFFERS

-- P55: the shape takes more than the variable has
abbrev pub too_large : Var → Shape → Table → Option ℕ
too_large v s t = code_if (nat_lt (size_of v (shape_at v t)) (size_of v s)) P55_SHAPE_DIFFERS

-- P34: the values have no such part; numbers have no bytes
abbrev pub no_part : Var → ℕ → ℕ → Table → Option ℕ
no_part v from n t = code_if (nat_lt (shape_at v t).len (from + n)) P34_RANGE

-- A02: the variables would take more than the area
abbrev pub full : ℕ → Table → Option ℕ
full area t = code_if (nat_lt area (count_of t)) A02_DATA_AREA

abbrev pub get_code : Var → ℕ → ℕ → Table → Option ℕ
get_code v r c t = first_of (no_array v t ∷ no_cell v r c t ∷ [])

abbrev pub set_code : Var → ℕ → ℕ → VarsState → Option ℕ
set_code v r c s = first_of (no_array v s.table ∷ no_cell v r c s.table ∷ full s.area (with_scalar v s).table ∷ [])

abbrev pub part_code : Var → ℕ → ℕ → ℕ → ℕ → VarsState → Option ℕ
part_code v r c from n s =
    first_of (no_array v s.table ∷ no_cell v r c s.table ∷ no_part v from n s.table ∷ full s.area (with_scalar v s).table ∷ [])

abbrev pub dim_code : Var → Shape → VarsState → Option ℕ
dim_code v shape s =
    first_of (bad_dimensions v shape ∷ bad_length v shape ∷ other_shape v shape s.table ∷ full s.area (with_new v shape false s.table) ∷ [])

abbrev pub com_code : Var → Shape → VarsState → Option ℕ
com_code v shape s =
    first_of (bad_dimensions v shape ∷ bad_length v shape ∷ not_common v s.table ∷ other_shape v shape s.table ∷ full s.area (with_new v shape true s.table) ∷ [])

abbrev pub redim_code : Var → Shape → Table → Option ℕ
redim_code v shape t = first_of (missing_code v t ∷ bad_dimensions v shape ∷ bad_length v shape ∷ too_large v shape t ∷ [])
