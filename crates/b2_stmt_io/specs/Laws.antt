-- What holds of statements at the terminal, whatever they are, over any devices.
use Rattle.std.specs.Prelude.{List}
use Rattle.b2_access.specs.LegalPlans.{PlansLegally}
use Rattle.b2_access.specs.LeftAlone.{LeaveTheRest}
use Rattle.b2_access.specs.OwnDevices.{PlansListed}
use Rattle.b2_access.specs.declared.devices.Device.{Device}
use Rattle.b2_stmt_io.specs.Plan.{finish, finish_printing, plan}

-- what they leave alone, those also that finish by what they asked for
abbrev pub StatementsLeaveTheRest : Type 0
StatementsLeaveTheRest = (devices : List Device) → LeaveTheRest (plan devices) finish × LeaveTheRest (plan devices) finish_printing

-- they ask for printers that the table lists for their partition, and for no other devices
abbrev pub AskedDevicesAreListed : Type 0
AskedDevicesAreListed = PlansListed plan

-- and what they ask for may be asked for
abbrev pub StatementsPlanLegally : Type 0
StatementsPlanLegally = (devices : List Device) → PlansLegally (plan devices)
