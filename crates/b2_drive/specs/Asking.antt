-- What statements on disks ask for, and how a change of a disk ends.
use Rattle.std.specs.Prelude.{ℕ, Result, Ok, Err}
use Rattle.b2_access.specs.Views.{ChangeCame, DiskChanged, ChangeRefused, ChangeLater}
use Rattle.b2_access.specs.declared.accesses.Access.{Access}
use Rattle.b2_access.specs.declared.planned.Outcome.{Outcome}
use Rattle.b2_access.specs.declared.planned.Outcome.TheVariants as outcome
use Rattle.b2_access.specs.declared.planned.Planned.{Planned}
use Rattle.b2_access.specs.declared.planned.Planned.TheVariants as planned

-- an access is asked for, or it is a fault
abbrev pub asks_or_fails : Result Access ℕ → Planned
asks_or_fails (Ok a) = planned.Ask a
asks_or_fails (Err code) = planned.Done (outcome.Failed code)

-- it was done, or refused with a code, or it is asked for again
abbrev pub change_ends : ChangeCame → Outcome
change_ends DiskChanged = outcome.Next
change_ends (ChangeRefused code) = outcome.Failed code
change_ends ChangeLater = outcome.Repeat
