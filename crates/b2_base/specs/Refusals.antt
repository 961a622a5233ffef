-- What a refusal says.
use Rattle.std.specs.Prelude.{◌≡◌, ℕ, Result, Err}
use Rattle.b2_base.specs.declared.codes.Fault.{Fault}
use Rattle.b2_base.specs.declared.codes.Fault.TheVariants as fault

-- a refusal has its code; memory may fail at any time
abbrev pub IsRefused : {A : Type 0} → Result A ℕ → Fault → Type 0
IsRefused outcome (fault.Code code) = outcome ≡ Err code
IsRefused outcome fault.NoMemory = Unit {0}
