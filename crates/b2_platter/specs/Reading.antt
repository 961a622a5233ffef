-- Why nothing is read from sectors.
use Rattle.std.specs.Prelude.{◌≡◌}
use Rattle.b2_base.specs.declared.codes.Fault.{Fault}
use Rattle.b2_base.specs.declared.codes.Fault.TheVariants as fault
use Rattle.b2_base.specs.declared.codes.TheConstants.{D88_FORMAT}

-- D88 where nothing is spelled there, or memory failed
abbrev pub Unspelled : Type 0 → Fault → Type 0
Unspelled nothing (fault.Code code) = (code ≡ D88_FORMAT) × nothing
Unspelled nothing fault.NoMemory = Unit {0}
