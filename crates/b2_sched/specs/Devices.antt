-- What the steps of a run touch of devices: of those that the boot lists for their partition, and of no others.
use Rattle.std.specs.Prelude.{◌≡◌, ℕ, true, List, Some, All}
use Rattle.b2_access.specs.Holding.{device_of}
use Rattle.b2_access.specs.OwnDevices.{is_device_for}
use Rattle.b2_access.specs.declared.devices.Device.{Device}
use Rattle.b2_access.specs.declared.objects.Object.{Object}
use Rattle.b2_audit.specs.Steps.{Step}
use Rattle.b2_boot.specs.Boots.{BootState}
use Rattle.b2_boot.specs.declared.log.Event.{Event}
use Rattle.b2_sched.specs.Groups.{steps_of}
use Rattle.b2_sched.specs.Start.{Images, booted, devices_of}

-- an object belongs to a device that is listed for a partition, or to none
abbrev pub IsOfListed : List Device → ℕ → Object → Type 0
IsOfListed devices who o = (a : List ℕ) → device_of o ≡ Some a → is_device_for who a devices ≡ true

abbrev pub TouchesListed : List Device → Step → Type 0
TouchesListed devices x = All (IsOfListed devices x.who) x.touched

-- Whatever was run from a boot, each object of a device that a step touched belongs to one that the boot lists for its partition: for
-- all of them, or for this one alone.
abbrev pub RunsTouchListedDevices : Type 0
RunsTouchListedDevices =
    (b : BootState) (images : Images) (log : List Event) → All (TouchesListed (devices_of b.printers b.platters)) (steps_of log (booted b images))
