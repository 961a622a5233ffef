-- Statements at the terminal ask for no device but a printer that the table lists for their partition.
use Rattle.std.proofs.Common.{ℕ, ap, subst, sym, List}
use Rattle.b2_access.specs.OwnDevices.{AreListed, PlannedListed, ReachesListed}
use Rattle.b2_access.specs.OwnTerminal.{IsAtTerminal}
use Rattle.b2_access.specs.Reach.{DeviceReach, Reach}
use Rattle.b2_access.specs.declared.accesses.Access.{Access}
use Rattle.b2_access.specs.declared.devices.Device.{Device}
use Rattle.b2_access.proofs.Working.{as_it_comes}
use Rattle.b2_stmt_io.specs.Laws.{AskedDevicesAreListed}
use Rattle.b2_stmt_io.specs.Plan.{works}
use Rattle.b2_stmt_io.proofs.Planned.{each_planned}

-- an access that reaches a terminal and nothing else
at_terminal_listed : (devices : List Device) (who t : ℕ) (a : Access) → IsAtTerminal t a → ReachesListed devices who a
at_terminal_listed devices who t a is = subst (λ (ds : List DeviceReach). AreListed devices who ds) (sym (ap (λ (r : Reach). r.devices) is)) tt

pub asked_are_listed : AskedDevicesAreListed
asked_are_listed devices me s =
    as_it_comes (PlannedListed devices me.part) me s (works devices me s)
    (each_planned devices me s (PlannedListed devices me.part) tt tt (λ code. tt) (λ a is. at_terminal_listed devices me.part me.term a is) (λ addr bytes after is. (is, tt)))
