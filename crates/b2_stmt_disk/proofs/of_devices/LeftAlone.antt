-- What these statements leave alone, whatever they are: by their form, and by where they lead (HomesKept), where they ask, what they leave of the
-- `@` variables (Reached), and that what waits changes nothing (Waits).
use Rattle.b2_access.specs.OwnTerminal.{PlannedAt}
use Rattle.b2_access.specs.Working.{on_devices}
use Rattle.b2_access.proofs.LeftAlone.{finishes_leave, joined, plans_leave, untouched}
use Rattle.b2_access.proofs.Working.{devices_frames, devices_rest}
use Rattle.b2_drive.proofs.Asked.{names_no_terminal}
use Rattle.b2_stmt_disk.specs.devices.Laws.{StatementsLeaveTheRest}
use Rattle.b2_stmt_disk.specs.devices.Plan.{ends, finish, plan, works}
use Rattle.b2_stmt_disk.proofs.of_devices.HomesKept.{leads_within, plans_within}
use Rattle.b2_stmt_disk.proofs.of_devices.Planned.{each_planned}
use Rattle.b2_stmt_disk.proofs.of_devices.Reached.{plans_reach}
use Rattle.b2_stmt_disk.proofs.of_devices.Waits.{after_place}

pub leave_the_rest : StatementsLeaveTheRest
leave_the_rest devices =
    joined (plan devices) finish
    (plans_leave (works devices) (plans_within devices)
    (λ me s. each_planned devices me s (PlannedAt me.term) tt tt (λ code. tt) (λ a fits. names_no_terminal devices me.part me.term a fits)) (plans_reach devices))
    (finishes_leave on_devices devices_rest devices_frames ends leads_within after_place (λ x a me s. untouched s.globals))
