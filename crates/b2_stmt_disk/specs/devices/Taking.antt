-- `$OPEN`: devices are taken, all or none. Where another holds one, the program goes to the line that is named, or waits.
use Rattle.std.specs.Prelude.{ℕ, ◌==◌, List, [], Option, Some, None, Result, Ok, Err, if◌then◌else◌}
use Rattle.b2_base.specs.declared.codes.TheConstants.{P48_DEVICE}
use Rattle.b2_atom.specs.Tree.{Trees}
use Rattle.b2_atom.specs.Tree.Trees.{Put, In}
use Rattle.b2_flow.specs.declared.frame.Place.{Place}
use Rattle.b2_rows.specs.LineNumbers.{line_in}
use Rattle.b2_text.specs.Program.{Lines}
use Rattle.b2_access.specs.Jumps.{to_line}
use Rattle.b2_access.specs.Views.{TakingCame, DevicesTaken, DeviceBusy, TakingLater}
use Rattle.b2_access.specs.declared.accesses.Access.{Access}
use Rattle.b2_access.specs.declared.accesses.Access.TheVariants as access
use Rattle.b2_access.specs.declared.devices.Device.{Device}
use Rattle.b2_access.specs.declared.planned.Outcome.{Outcome}
use Rattle.b2_access.specs.declared.planned.Outcome.TheVariants as outcome
use Rattle.b2_stmt_disk.specs.devices.Held.{are_listed}
use Rattle.b2_stmt_disk.specs.devices.Lists.{devices_in}

-- the devices, and the line that may be named before them
abbrev pub devices_to_take : Trees → List (List ℕ)
devices_to_take (Put word (In n line (In m devices end))) = devices_in devices
devices_to_take t = []

abbrev pub line_if_busy : Trees → Option ℕ
line_if_busy (Put word (In n line devices)) = if n == 1 then Some (line_in line) else None
line_if_busy t = None

-- P48 where the table doesn't list one of them for the partition
abbrev pub asks_to_take : List Device → ℕ → Trees → Result Access ℕ
asks_to_take devices who t = if are_listed devices who (devices_to_take t) then Ok (access.OpenDevices (devices_to_take t)) else Err P48_DEVICE

-- where a step goes on that met a device which another holds: P36 where the line isn't there
abbrev pub goes_where_busy : Option ℕ → Lines → Place → Outcome
goes_where_busy None lines p = outcome.Repeat
goes_where_busy (Some n) lines p = to_line lines p n

-- and by what came of taking
abbrev pub goes_taken : TakingCame → Option ℕ → Lines → Place → Outcome
goes_taken (DevicesTaken addrs) line lines p = outcome.Next
goes_taken DeviceBusy line lines p = goes_where_busy line lines p
goes_taken TakingLater line lines p = outcome.Repeat
