-- Variables as contracts see them: a finite map from names, within an area.
use Rattle.std.specs.Prelude.{◌≡◌, ◌≤◌, ℕ, ◌+◌, true, false, List, [], ◌∷◌, length, IfSome, refl}
use Rattle.std.specs.Coded.{Coded, code_by, coded×, coded_ℕ}
use Rattle.std.specs.FinMap as map
use Rattle.std.specs.Option.{unwrap_or}
use Rattle.b2_vars.specs.declared.name.Var.{Var}
use Rattle.b2_vars.specs.declared.shape.Shape.{Shape}
use Rattle.b2_vars.specs.Names.{var_cmp, coded_var, is_legal_name}
use Rattle.b2_vars.specs.Shapes.{has_dimensions, has_length, cost, scalar_shape, number_cells, alpha_bytes}
use Rattle.b2_vars.specs.Variables.{VariableState, coded_variable, fresh}

-- from names to what stands under them
abbrev pub Table : Type 0
Table = map.FinMap var_cmp VariableState

pub record VarsState : Type 0 where
  pub area : ℕ
  pub table : Table

abbrev pub coded_vars : Coded VarsState
coded_vars = code_by (ℕ × Table) (coded× coded_ℕ (map.code coded_var coded_variable)) (λ s. (s.area, s.table)) (λ p. record { area = p.0; table = p.1 }) (λ _. refl)

-- names with what stands under them, in an order
abbrev pub Entries : Type 0
Entries = List (Var × VariableState)

-- what entries take
abbrev pub costs : Entries → ℕ
costs [] = 0
costs (e ∷ es) = cost e.0 e.1.shape + costs es

-- what all variables take
abbrev pub count_of : Table → ℕ
count_of t = costs (map.entries t)

-- what stands under a name, and a new scalar where nothing does
abbrev pub variable_at : Var → Table → VariableState
variable_at v t = unwrap_or (map.get t v) (fresh v (scalar_shape v) false)

-- the shape of a name, that of a new scalar where nothing stands under it
abbrev pub shape_at : Var → Table → Shape
shape_at v t = (variable_at v t).shape

-- the map that entries stand for
abbrev pub table_of : Entries → Table
table_of es = map.from_entries es

-- a variable has a name, a shape that its name allows, and as many values as its shape says
pub record IsVariable (v : Var) (x : VariableState) : Type 0 where
  pub named : is_legal_name v ≡ true
  pub dimensions : has_dimensions v x.shape ≡ true
  pub value_length : has_length v x.shape ≡ true
  pub numbers : length x.numbers ≡ number_cells v x.shape
  pub bytes : length x.bytes ≡ alpha_bytes x.shape

-- the count is what the variables take, and never passes the area
pub record IsSound (area count : ℕ) (t : Table) : Type 0 where
  pub counted : count ≡ count_of t
  pub fits : count ≤ area
  pub each : (v : Var) → IfSome (map.get t v) (IsVariable v)
