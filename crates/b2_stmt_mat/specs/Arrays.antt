-- Whole arrays among variables.
use Rattle.std.specs.Prelude.{◌≡◌, ℕ, Bool, true, false, List, take, Result, Ok, Err, IsSome}
use Rattle.std.specs.FinMap as map
use Rattle.std.specs.Option.{unwrap_or}
use Rattle.b2_base.specs.declared.codes.Fault.{Fault}
use Rattle.b2_base.specs.declared.codes.Fault.TheVariants as fault
use Rattle.b2_dec.specs.Number.{Number}
use Rattle.b2_vars.specs.declared.name.Var.{Var}
use Rattle.b2_vars.specs.declared.shape.Shape.{Shape}
use Rattle.b2_vars.specs.Names.{is_legal_name}
use Rattle.b2_vars.specs.Tables.{Table, VarsState, shape_at, variable_at}
use Rattle.b2_vars.specs.Variables.{VariableState}
use Rattle.b2_atom.specs.Words.{Text}
use Rattle.b2_rows.specs.Values.{variable_name}
use Rattle.b2_matrix.specs.declared.array.Mat.{Mat}
use Rattle.b2_expr.specs.Scope.{Surroundings}
use Rattle.b2_receiver.specs.Receivers.{array_there}
use Rattle.b2_receiver.specs.declared.receiver.Array.{Array}

-- the array of a name: P59 where it isn't there
abbrev pub array_of : Surroundings → Bool → Text → Result Array ℕ
array_of e alpha name = array_there e (variable_name alpha name)

-- the variables among which arrays are: a partition's own, and the `@` variables. Where there are none of these no array is among them,
-- and the own stand for them.
pub record Families : Type 0 where
  pub own : VarsState
  pub lent : VarsState

abbrev pub families : Surroundings → Families
families e = record { own = e.own; lent = unwrap_or e.globals e.own }

abbrev pub vars_of : Bool → Families → VarsState
vars_of true f = f.lent
vars_of false f = f.own

abbrev pub only : VarsState → Families
only own = record { own = own; lent = own }

-- an array among the own variables
abbrev pub own_array : Var → Array
own_array v = record { global = false; var = v }

-- an array of numbers, or of alpha values, that is there
pub record IsArrayOf (alpha : Bool) (v : Var) (t : Table) : Type 0 where
  pub named : is_legal_name v ≡ true
  pub kind : v.alpha ≡ alpha
  pub array : v.array ≡ true
  pub there : IsSome (map.get t v)

-- so also where it is
abbrev pub IsArrayIn : Bool → Array → Families → Type 0
IsArrayIn alpha a f = IsArrayOf alpha a.var (vars_of a.global f).table

abbrev pub shape_in : Array → Families → Shape
shape_in a f = shape_at a.var (vars_of a.global f).table

abbrev pub variable_in : Array → Families → VariableState
variable_in a f = variable_at a.var (vars_of a.global f).table

-- an array of numbers as it is lent, wherever it stands
abbrev pub lent_as : Shape → List Number → Mat
lent_as shape numbers = record { rows = shape.rows; cols = shape.cols; cells = record { ref_ptr = (0, 0); now = numbers } }

abbrev pub matrix_of : Var → Table → Mat
matrix_of v t = lent_as (shape_at v t) (variable_at v t).numbers

abbrev pub matrix_in : Array → Families → Mat
matrix_in a f = matrix_of a.var (vars_of a.global f).table

-- other numbers in the place of all
abbrev pub with_numbers : List Number → VariableState → VariableState
with_numbers numbers x = record x { numbers = numbers }

-- the bytes of an array of alpha values, and those of them that a place of two bytes can name
abbrev pub bytes_of : Var → Table → List ℕ
bytes_of v t = (variable_at v t).bytes

abbrev pub all_bytes : Array → Families → List ℕ
all_bytes a f = bytes_of a.var (vars_of a.global f).table

abbrev pub named_bytes : List ℕ → List ℕ
named_bytes bytes = take 65535 bytes

-- a call that takes memory gives what is told, or its code; memory may fail instead
abbrev pub AnswersBy : {A B : Type 0} → (B → A) → Result A ℕ → Result B Fault → Type 0
AnswersBy seen answer (Ok x) = answer ≡ Ok (seen x)
AnswersBy seen answer (Err (fault.Code code)) = answer ≡ Err code
AnswersBy seen answer (Err fault.NoMemory) = Unit {0}

-- what holds of the code of a fault, where memory didn't fail
abbrev pub IfCode : Fault → (ℕ → Type 0) → Type 0
IfCode (fault.Code code) P = P code
IfCode fault.NoMemory P = ⊥
