-- Faults as outcomes.
use Rattle.std.specs.Prelude.{◌≡◌}
use Rattle.b2_base.specs.declared.codes.Fault.{Fault}
use Rattle.b2_base.specs.declared.codes.Fault.TheVariants as fault
use Rattle.b2_access.specs.declared.planned.Outcome.{Outcome}
use Rattle.b2_access.specs.declared.planned.Outcome.TheVariants as outcome

-- a fault's code; where memory failed there is no outcome
abbrev pub FailsWith : Fault → Outcome → Type 0
FailsWith (fault.Code code) o = o ≡ outcome.Failed code
FailsWith fault.NoMemory o = ⊥
