-- `$CLOSE`: of the devices that are named those are freed that the partition holds; all that it holds, where none is named.
use Rattle.std.specs.Prelude.{ℕ, ◌==◌, List, [], ◌∷◌, Option, Some, None, Result, Ok, Err, if◌then◌else◌}
use Rattle.b2_base.specs.declared.codes.TheConstants.{P48_DEVICE}
use Rattle.b2_atom.specs.Tree.{Trees}
use Rattle.b2_atom.specs.Tree.Trees.{Put, In}
use Rattle.b2_access.specs.declared.accesses.Access.{Access}
use Rattle.b2_access.specs.declared.accesses.Access.TheVariants as access
use Rattle.b2_access.specs.declared.devices.Device.{Device}
use Rattle.b2_access.specs.declared.planned.Outcome.{Outcome}
use Rattle.b2_access.specs.declared.planned.Outcome.TheVariants as outcome
use Rattle.b2_access.specs.declared.planned.Planned.{Planned}
use Rattle.b2_access.specs.declared.planned.Planned.TheVariants as planned
use Rattle.b2_access.specs.declared.private.Private.{Private}
use Rattle.b2_drive.specs.Asking.{asks_or_fails}
use Rattle.b2_stmt_disk.specs.devices.Held.{are_listed, those_listed}
use Rattle.b2_stmt_disk.specs.devices.Lists.{devices_in}

-- the devices that are named, None where none is
abbrev pub devices_to_free : Trees → Option (List (List ℕ))
devices_to_free (Put word (In n devices end)) = if n == 1 then Some (devices_in devices) else None
devices_to_free t = None

-- P48 where the table doesn't list one of them for the partition
abbrev pub asks_to_free : List Device → ℕ → List (List ℕ) → Result Access ℕ
asks_to_free devices who addrs = if are_listed devices who addrs then Ok (access.CloseDevices addrs) else Err P48_DEVICE

-- where nothing is held nothing is asked for
abbrev pub frees_held : List (List ℕ) → Planned
frees_held [] = planned.Done outcome.Next
frees_held (a ∷ held) = planned.Ask (access.CloseDevices (a ∷ held))

abbrev pub plans_to_free : List Device → Private → Option (List (List ℕ)) → Planned
plans_to_free devices me None = frees_held (those_listed devices me.part me.held)
plans_to_free devices me (Some addrs) = asks_or_fails (asks_to_free devices me.part addrs)

-- where the step goes on then
abbrev pub goes_freed : Option (List (List ℕ)) → Outcome
goes_freed None = outcome.Repeat
goes_freed (Some addrs) = outcome.Next
