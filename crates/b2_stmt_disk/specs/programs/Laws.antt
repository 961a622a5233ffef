-- What holds of statements on programs on disks, whatever they are, over any devices.
use Rattle.std.specs.Prelude.{◌≡◌, ℕ, List}
use Rattle.b2_access.specs.Devices.{is_platter_for}
use Rattle.b2_access.specs.Lending.{SeenLent}
use Rattle.b2_access.specs.LegalPlans.{PlansLegally}
use Rattle.b2_access.specs.LeftAlone.{LeaveTheRest}
use Rattle.b2_access.specs.OwnDevices.{PlansListed}
use Rattle.b2_access.specs.declared.devices.Device.{Device}
use Rattle.b2_access.specs.declared.private.Private.{Private}
use Rattle.b2_stmt_disk.specs.programs.Plan.{finish, plan}

-- what they leave alone
abbrev pub StatementsLeaveTheRest : Type 0
StatementsLeaveTheRest = (devices : List Device) → LeaveTheRest (plan devices) finish

-- they ask for platters that the table lists for their partition, and for no others
abbrev pub AskedDevicesAreListed : Type 0
AskedDevicesAreListed = PlansListed plan

-- and what they ask for may be asked for
abbrev pub StatementsPlanLegally : Type 0
StatementsPlanLegally = (devices : List Device) → PlansLegally (plan devices)

-- and they plan by the platters that the table lists for their partition, and by nothing else of it
abbrev pub StatementsPlanByListed : Type 0
StatementsPlanByListed = (ds es : List Device) (me : Private) (s : SeenLent) → ((a : List ℕ) → is_platter_for me.part a ds ≡ is_platter_for me.part a es) → plan ds me s ≡ plan es me s
