-- A statement asks for devices that the table lists for its partition, and for no others.
use Rattle.std.specs.Prelude.{◌≡◌, ℕ, ◌||◌, Bool, true, List, [], ◌∷◌}
use Rattle.b2_access.specs.AccessRows.{reach}
use Rattle.b2_access.specs.Devices.{is_platter_for, is_printer_for}
use Rattle.b2_access.specs.Lending.{SeenLent}
use Rattle.b2_access.specs.Planning.{Planning}
use Rattle.b2_access.specs.Reach.{DevicePart, DeviceReach, HoldFreed, HoldTaken, WithPlatter, WithPrinter, at_disk}
use Rattle.b2_access.specs.declared.accesses.Access.{Access}
use Rattle.b2_access.specs.declared.devices.Device.{Device}
use Rattle.b2_access.specs.declared.planned.Planned.{Planned}
use Rattle.b2_access.specs.declared.planned.Planned.TheVariants as planned
use Rattle.b2_access.specs.declared.private.Private.{Private}

-- whether the table lists a device for a partition, as a platter, as a printer, or as either where its holder alone is reached
abbrev pub is_device_for : ℕ → List ℕ → List Device → Bool
is_device_for who a devices = is_platter_for who a devices || is_printer_for who a devices

abbrev pub is_listed_for : ℕ → List ℕ → DevicePart → List Device → Bool
is_listed_for who a HoldTaken devices = is_device_for who a devices
is_listed_for who a HoldFreed devices = is_device_for who a devices
is_listed_for who a WithPlatter devices = is_platter_for who a devices
is_listed_for who a WithPrinter devices = is_printer_for who a devices

abbrev pub AreListed : List Device → ℕ → List DeviceReach → Type 0
AreListed devices who [] = Unit {0}
AreListed devices who (d ∷ ds) = (is_listed_for who d.address d.part devices ≡ true) × AreListed devices who ds

-- each device that an access reaches is listed so
abbrev pub ReachesListed : List Device → ℕ → Access → Type 0
ReachesListed devices who a = AreListed devices who (reach a).devices

abbrev pub PlannedListed : List Device → ℕ → Planned → Type 0
PlannedListed devices who (planned.Done o) = Unit {0}
PlannedListed devices who (planned.Ask a) = ReachesListed devices who a

-- A way of planning by the table, and by it alone.
abbrev pub PlansListed : (List Device → Private → SeenLent → Planning) → Type 0
PlansListed plan = (devices : List Device) (me : Private) (s : SeenLent) → PlannedListed devices me.part (plan devices me s).planned

-- an access that reaches this disk and nothing else
abbrev pub IsAtDisk : List ℕ → Access → Type 0
IsAtDisk addr a = reach a ≡ at_disk addr
