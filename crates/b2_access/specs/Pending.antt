-- What waits to be shown, and the device that it is for. A statement makes nothing wait but what is for the terminal.
use Rattle.std.specs.Prelude.{◌≡◌, ◌⊎◌, ℕ, true, List, Option, Some, None}
use Rattle.b2_access.specs.Devices.{is_printer_for}
use Rattle.b2_access.specs.Lending.{SeenLent}
use Rattle.b2_access.specs.Partition.{terminal_address}
use Rattle.b2_access.specs.Planning.{Finishing, Planning}
use Rattle.b2_access.specs.declared.accesses.Access.{Access}
use Rattle.b2_access.specs.declared.accesses.Answer.{Answer}
use Rattle.b2_access.specs.declared.devices.Device.{Device}
use Rattle.b2_access.specs.declared.private.Private.{Private}

-- the device with its address and what is to be shown there, where anything waits
abbrev pub PendingOutput : Type 0
PendingOutput = Option (List ℕ × List ℕ)

-- nothing waits, or it is for the terminal
abbrev pub IsForTerminal : PendingOutput → Type 0
IsForTerminal None = Unit {0}
IsForTerminal (Some shown) = shown.0 ≡ terminal_address

-- nothing waits, or it is for the terminal or for a printer that the table lists for the partition
abbrev pub IsForListed : List Device → ℕ → PendingOutput → Type 0
IsForListed devices who None = Unit {0}
IsForListed devices who (Some shown) = (shown.0 ≡ terminal_address) ⊎ (is_printer_for who shown.0 devices ≡ true)

-- what waits then waited before, or is for the terminal
abbrev pub KeepsOrShows : PendingOutput → PendingOutput → Type 0
KeepsOrShows before after = (after ≡ before) ⊎ IsForTerminal after

-- a way of planning, and one of finishing
abbrev pub PlansToShow : (Private → SeenLent → Planning) → Type 0
PlansToShow plan = (me : Private) (s : SeenLent) → KeepsOrShows me.pending (plan me s).me.pending

abbrev pub FinishesToShow : (Access → Answer → Private → SeenLent → Finishing) → Type 0
FinishesToShow finish = (x : Access) (a : Answer) (me : Private) (s : SeenLent) → KeepsOrShows me.pending (finish x a me s).me.pending
