-- The numbers of a record that is saved.
use Rattle.std.specs.Prelude.{ℕ, List, All, IfSome, IfOk, Result}
use Rattle.std.specs.FinMap as map
use Rattle.b2_dec.specs.Number.{Number, IsNumber}
use Rattle.b2_dec.specs.declared.values.Value.{Value}
use Rattle.b2_dec.specs.declared.values.Value.TheVariants as value_kind
use Rattle.b2_vars.specs.declared.name.Var.{Var}
use Rattle.b2_vars.specs.Tables.{VarsState}
use Rattle.b2_access.specs.Lending.{SeenLent}
use Rattle.b2_access.specs.declared.accesses.Access.TheVariants as access
use Rattle.b2_access.specs.declared.devices.Device.{Device}
use Rattle.b2_access.specs.declared.planned.Planned.{Planned}
use Rattle.b2_access.specs.declared.planned.Planned.TheVariants as planned
use Rattle.b2_access.specs.declared.private.Private.{Private}
use Rattle.b2_stmt_file.specs.Plan.{plan}

-- an answer is a number as the machine has them, where there is one
abbrev pub GivesNumber : Result Number ℕ → Type 0
GivesNumber answer = IfOk answer IsNumber

-- so is each number in some variables
abbrev pub HoldsNumbers : VarsState → Type 0
HoldsNumbers vars = (v : Var) → IfSome (map.get vars.table v) (λ x. All IsNumber x.numbers)

-- and a value, where it is a number
abbrev pub IsAnyNumber : Value → Type 0
IsAnyNumber (value_kind.Number x) = IsNumber x
IsAnyNumber (value_kind.Alpha bytes) = Unit {0}

-- and each number of what is asked to be saved
abbrev pub SavesNumbers : Planned → Type 0
SavesNumbers (planned.Ask (access.DataSave slot values)) = All IsAnyNumber values
SavesNumbers p = Unit {0}

-- Each number that a statement asks to be saved is one as the machine has them, where those are that its variables hold, and those of the
-- `@` variables that it is lent.
abbrev pub SavedNumbersAreNumbers : Type 0
SavedNumbersAreNumbers =
    (devices : List Device) (me : Private) (s : SeenLent) → HoldsNumbers me.vars → IfSome s.globals.vars HoldsNumbers → SavesNumbers (plan devices me s).planned
