-- What holds of statements that take and free devices, over any devices.
use Rattle.std.specs.Prelude.{◌≡◌, ℕ, true, Bool, List}
use Rattle.b2_access.specs.Devices.{are_distinct, has_device}
use Rattle.b2_access.specs.Lending.{SeenLent}
use Rattle.b2_access.specs.LegalPlans.{PlansLegally}
use Rattle.b2_access.specs.LeftAlone.{LeaveTheRest}
use Rattle.b2_access.specs.OwnDevices.{PlansListed}
use Rattle.b2_access.specs.declared.accesses.Access.{Access}
use Rattle.b2_access.specs.declared.accesses.Answer.{Answer}
use Rattle.b2_access.specs.declared.devices.Device.{Device}
use Rattle.b2_access.specs.declared.private.Private.{Private}
use Rattle.b2_stmt_disk.specs.devices.Plan.{finish, plan}

-- what they leave alone
abbrev pub StatementsLeaveTheRest : Type 0
StatementsLeaveTheRest = (devices : List Device) → LeaveTheRest (plan devices) finish

-- they ask for devices that the table lists for their partition, and for no others
abbrev pub AskedDevicesAreListed : Type 0
AskedDevicesAreListed = PlansListed plan

-- and what they ask for may be asked for
abbrev pub StatementsPlanLegally : Type 0
StatementsPlanLegally = (devices : List Device) → PlansLegally (plan devices)

-- and they plan by the devices that the table lists for their partition, and by nothing else of it
abbrev pub StatementsPlanByListed : Type 0
StatementsPlanByListed =
    (ds es : List Device) (me : Private) (s : SeenLent) → ((printer : Bool) (a : List ℕ) → has_device printer me.part a ds ≡ has_device printer me.part a es) → plan ds me s ≡ plan es me s

-- where a partition holds no device twice, it holds none twice after a statement has planned, and after it has finished
abbrev pub HoldsOnce : Private → Type 0
HoldsOnce me = are_distinct me.held ≡ true

abbrev pub DevicesAreHeldOnce : Type 0
DevicesAreHeldOnce =
    ((devices : List Device) (me : Private) (s : SeenLent) → HoldsOnce me → HoldsOnce (plan devices me s).me)
    × ((x : Access) (a : Answer) (me : Private) (s : SeenLent) → HoldsOnce me → HoldsOnce (finish x a me s).me)
