-- What stands under a name, as contracts see it, and what each change leaves of it.
use Rattle.std.specs.Prelude.{◌≡◌, ℕ, ◌+◌, ◌*◌, Bool, true, false, List, ◌++◌, length, take, drop, get_or, replicate, slice_range, slice_set, Option, None, Some, if◌then◌else◌, refl}
use Rattle.std.specs.Coded.{Coded, code_by, coded×, coded_ℕ, coded_bool, coded_list}
use Rattle.b2_base.specs.Byte as byte
use Rattle.b2_dec.specs.Number.{Number, zero_number}
use Rattle.b2_dec.specs.declared.values.Value.{Value}
use Rattle.b2_dec.specs.declared.values.Value.TheVariants as value
use Rattle.b2_alpha.specs.Values.{padded}
use Rattle.b2_vars.specs.declared.name.Var.{Var}
use Rattle.b2_vars.specs.declared.shape.Shape.{Shape}
use Rattle.b2_vars.specs.Shapes.{number_cells, alpha_bytes}

-- a shape, whether the variable is common, and its values along rows: numbers, or the bytes of alpha values
pub record VariableState : Type 0 where
  pub shape : Shape
  pub common : Bool
  pub numbers : List Number
  pub bytes : List ℕ

abbrev pub coded_number : Coded Number
coded_number = code_by (Bool × (ℕ × ℕ)) (coded× coded_bool (coded× coded_ℕ coded_ℕ)) (λ x. (x.neg, (x.coef, x.place))) (λ p. record { neg = p.0; coef = p.1.0; place = p.1.1 }) (λ _. refl)

-- as nested pairs
abbrev pub coded_variable : Coded VariableState
coded_variable = code_by ((ℕ × (ℕ × ℕ)) × (Bool × (List Number × List ℕ))) (coded× (coded× coded_ℕ (coded× coded_ℕ coded_ℕ)) (coded× coded_bool (coded× (coded_list coded_number) (coded_list coded_ℕ))))
    (λ x. ((x.shape.rows, (x.shape.cols, x.shape.len)), (x.common, (x.numbers, x.bytes))))
    (λ p. record { shape = record { rows = p.0.0; cols = p.0.1.0; len = p.0.1.1 }; common = p.1.0; numbers = p.1.1.0; bytes = p.1.1.1 }) (λ _. refl)

-- a variable that is made: zeros, or blanks
abbrev pub fresh : Var → Shape → Bool → VariableState
fresh v s common = record { shape = s; common = common; numbers = replicate (number_cells v s) zero_number; bytes = replicate (alpha_bytes s) byte.blank }

-- a number; a scalar that was never set is zero
abbrev pub number_at : ℕ → Option VariableState → Number
number_at cell None = zero_number
number_at cell (Some x) = get_or x.numbers cell zero_number

-- bytes from a place on
abbrev pub bytes_from : ℕ → ℕ → List ℕ → List ℕ
bytes_from from n bytes = slice_range bytes from (from + n)

-- an alpha value; a scalar that was never set is 16 blanks
abbrev pub alpha_at : ℕ → Option VariableState → List ℕ
alpha_at cell None = replicate 16 byte.blank
alpha_at cell (Some x) = bytes_from (cell * x.shape.len) x.shape.len x.bytes

abbrev pub value_at : Var → ℕ → Option VariableState → Value
value_at v cell x = if v.alpha then value.Alpha (alpha_at cell x) else value.Number (number_at cell x)

-- other bytes from a place on, and as many as before in all
abbrev pub overwritten : ℕ → List ℕ → List ℕ → List ℕ
overwritten from bytes old = take (length old) (take from old ++ (bytes ++ drop (length bytes) (drop from old)))

abbrev pub with_number : ℕ → Number → VariableState → VariableState
with_number cell n x = record x { numbers = slice_set x.numbers cell n }

-- with other bytes from a place on
abbrev pub with_bytes : ℕ → VariableState → List ℕ → VariableState
with_bytes from x bytes = record x { bytes = overwritten from bytes x.bytes }

-- an alpha value is cut to its length or padded with blanks
abbrev pub with_alpha : ℕ → List ℕ → VariableState → VariableState
with_alpha cell bytes x = with_bytes (cell * x.shape.len) x (padded x.shape.len bytes)

abbrev pub with_value : ℕ → Value → VariableState → VariableState
with_value cell (value.Number n) x = with_number cell n x
with_value cell (value.Alpha bytes) x = with_alpha cell bytes x

-- in another shape that takes no more: the values along rows stay, and what the shape has no room for goes
abbrev pub reshaped : Var → Shape → VariableState → VariableState
reshaped v s x = record x { shape = s; numbers = take (number_cells v s) x.numbers; bytes = take (alpha_bytes s) x.bytes }

abbrev pub is_alpha : Value → Bool
is_alpha (value.Number n) = false
is_alpha (value.Alpha bytes) = true

-- n bytes from a place on are changed to others, which the relation allows
abbrev pub ChangesBytes : (List ℕ → List ℕ → Type 0) → ℕ → ℕ → VariableState → VariableState → Type 0
ChangesBytes gives from n old new = (y : List ℕ) × (length y ≡ n) × gives (bytes_from from n old.bytes) y × (new ≡ with_bytes from old y)
