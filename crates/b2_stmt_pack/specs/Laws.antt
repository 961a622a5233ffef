-- What statements on packed fields are for, in the words of whoever uses them.
use Rattle.std.specs.Prelude.{◌≡◌, ◌≢◌, ℕ, List, [], ◌∷◌, length, Some, None, IsSome, Result, Ok}
use Rattle.std.specs.FinMap as map
use Rattle.b2_dec.specs.Number.{Number}
use Rattle.b2_dec.specs.declared.values.Value.{Value}
use Rattle.b2_atom.specs.Tree.{Trees}
use Rattle.b2_vars.specs.Tables.{VarsState}
use Rattle.b2_vars.specs.declared.name.Var.{Var}
use Rattle.b2_pack.specs.Images.{image_row}
use Rattle.b2_pack.specs.Laws.{AreSpelled}
use Rattle.b2_pack.specs.Unpacking.{numbers_by_rows}
use Rattle.b2_expr.specs.Scope.{Context}
use Rattle.b2_expr.specs.Workspace.{WorkState}
use Rattle.b2_receiver.specs.Receivers.{any_receiver, number_receiver}
use Rattle.b2_receiver.specs.declared.receiver.Array.{Array}
use Rattle.b2_receiver.specs.declared.receiver.Buffer.{Buffer}
use Rattle.b2_receiver.specs.declared.receiver.Buffer.TheVariants as buffer_kind
use Rattle.b2_receiver.specs.declared.receiver.Receiver.{Receiver}
use Rattle.b2_receiver.specs.declared.receiver.Receiver.TheVariants as receiver_kind
use Rattle.b2_stmt_pack.specs.Buffers.{buffer_name, read_in}
use Rattle.b2_stmt_pack.specs.Fields.{values_packed}
use Rattle.b2_stmt_pack.specs.Lists.{each_takes, takes_number, takes_value}
use Rattle.b2_stmt_pack.specs.Numbers.{numbers_packed}

-- After PACK into an array without a code, UNPACK finds each number there that its image spells exactly.
abbrev pub NumbersComeBack : Type 0
NumbersComeBack =
    (image : List ℕ) (row : _) (xs : List Number) (a : Array) (old : VarsState) → image_row image ≡ Some row → AreSpelled row xs → IsSome (map.get old.table a.var)
    → (numbers_packed image xs (buffer_kind.Array a) old).code ≡ None
    → read_in (numbers_by_rows (image_row image) (length xs)) (buffer_kind.Array a) (numbers_packed image xs (buffer_kind.Array a) old).vars ≡ Ok xs

-- what isn't named stays, with a code and without one
abbrev pub receiver_name : Receiver → Var
receiver_name (receiver_kind.Number e) = e.var
receiver_name (receiver_kind.Alpha to) = to.element.var

abbrev pub Stays : Var → VarsState → VarsState → Type 0
Stays v old new = map.get new.table v ≡ map.get old.table v

-- a variable is not the one of any of the receivers, whatever the variables are when these are located
abbrev pub IsNoneOf : {A : Type 0} → (Context → Trees → Result A ℕ) → (A → Var) → Var → List Trees → Type 0
IsNoneOf located name v [] = Unit {0}
IsNoneOf located name v (t ∷ ts) = ((s : Context) (to : _) → located s t ≡ Ok to → v ≢ name to) × IsNoneOf located name v ts

-- PACK and $PACK change the variable of their buffer alone, UNPACK and $UNPACK those of their receivers.
pub record ChangeWhatIsNamed : Type 0 where
  pub numbers_in : (image : List ℕ) (xs : List Number) (to : Buffer) (old : VarsState) (v : Var) → v ≢ buffer_name to → Stays v old (numbers_packed image xs to old).vars
  pub values_in : (spec : List ℕ) (xs : List Value) (to : Buffer) (old : VarsState) (v : Var) → v ≢ buffer_name to → Stays v old (values_packed spec xs to old).vars
  pub numbers_out : (xs : List Number) (ts : List Trees) (w : WorkState) (v : Var) → IsNoneOf number_receiver (λ e. e.var) v ts → Stays v w.own (each_takes takes_number ts xs w).work.own
  pub values_out : (xs : List Value) (ts : List Trees) (w : WorkState) (v : Var) → IsNoneOf any_receiver receiver_name v ts → Stays v w.own (each_takes takes_value ts xs w).work.own
