-- Where the elements of arrays are, along rows.
use Rattle.std.proofs.Common.{◌≡◌, ◌<◌, ℕ, ◌+◌, ◌*◌, ◌/◌, ◌%◌, max, Bool, if◌then◌else◌, false, true, Option, Some, None, refl, ap, arith}
use Rattle.std.proofs.Math.Nat.{div-lt_iff_lt-mul, mod-lt}
use Rattle.std.specs.FinMap as map
use Rattle.std.specs.Option.{option_map, unwrap_or}
use Rattle.b2_vars.specs.declared.name.Var.{Var}
use Rattle.b2_vars.specs.declared.shape.Shape.{Shape}
use Rattle.b2_vars.specs.Shapes.{scalar_shape}
use Rattle.b2_vars.specs.Tables.{Table, shape_at}
use Rattle.b2_vars.specs.Variables.{VariableState, fresh}
use Rattle.b2_receiver.specs.declared.receiver.Array.{Array}
use Rattle.b2_receiver.specs.declared.receiver.Receiver.{Receiver}
use Rattle.b2_receiver.specs.declared.receiver.Receiver.TheVariants as receiver_kind
use Rattle.b2_stmt_file.specs.Elements.{element_of, receiver_of}

there_by : (v : Var) (o : Option VariableState) (s : Shape) → Some s ≡ option_map (λ (x : VariableState). x.shape) o → s ≡ (unwrap_or o (fresh v (scalar_shape v) false)).shape
there_by v None s is = cc
there_by v (Some x) s is = cc

pub shape_there : (v : Var) (t : Table) (s : Shape) → Some s ≡ option_map (λ (x : VariableState). x.shape) (map.get t v) → s ≡ shape_at v t
shape_there v t s is = there_by v (map.get t v) s is

missing_by : (v : Var) (o : Option VariableState) → None ≡ option_map (λ (x : VariableState). x.shape) o → scalar_shape v ≡ (unwrap_or o (fresh v (scalar_shape v) false)).shape
missing_by v None is = refl
missing_by v (Some x) is = cc

pub shape_missing : (v : Var) (t : Table) → None ≡ option_map (λ (x : VariableState). x.shape) (map.get t v) → scalar_shape v ≡ shape_at v t
shape_missing v t is = missing_by v (map.get t v) is

-- a row and a column are small, as the dimensions are
pub row_within : (rows width k : ℕ) → 0 < width → max 1 rows < 65536 → k < max 1 rows * width → k / width + 1 < 65536
row_within rows width k some small within =
    let low : k / width < max 1 rows = (div-lt_iff_lt-mul {k = width} {x = k} {y = max 1 rows} some).1 within in
    omega (arith, low, small)

pub column_within : (width k : ℕ) → 0 < width → width < 65536 → k % width + 1 < 65536
column_within width k some small = let low : k % width < width = mod-lt k some in omega (arith, low, small)

-- an element as a receiver
abbrev element_by : Bool → Array → Shape → ℕ → Receiver
element_by b a s k = if b then receiver_kind.Alpha (record { element = element_of a s k; portion = record { from = 0; count = s.len } }) else receiver_kind.Number (element_of a s k)

pub alpha_receiver : (a : Array) (s : Shape) (k : ℕ) → a.var.alpha ≡ true → receiver_of a s k ≡ receiver_kind.Alpha (record { element = element_of a s k; portion = record { from = 0; count = s.len } })
alpha_receiver a s k is = ap (λ (b : Bool). element_by b a s k) is

pub number_receiver : (a : Array) (s : Shape) (k : ℕ) → a.var.alpha ≡ false → receiver_of a s k ≡ receiver_kind.Number (element_of a s k)
number_receiver a s k is = ap (λ (b : Bool). element_by b a s k) is
