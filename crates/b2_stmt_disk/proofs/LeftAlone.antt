-- What statements on disks leave alone, whatever they are: by their form, and by where they lead (HomesKept), where they ask, what they leave of
-- the `@` variables (Reached), and that what waits changes nothing (Waits).
use Rattle.b2_access.specs.OwnTerminal.{PlannedAt}
use Rattle.b2_access.specs.Working.{plain}
use Rattle.b2_access.proofs.LeftAlone.{finishes_leave, joined, plans_leave}
use Rattle.b2_access.proofs.Working.{plain_frames, plain_rest}
use Rattle.b2_drive.proofs.Asked.{names_no_terminal}
use Rattle.b2_stmt_disk.specs.Laws.{StatementsLeaveTheRest}
use Rattle.b2_stmt_disk.specs.Plan.{ends, finish, plan, works}
use Rattle.b2_stmt_disk.proofs.HomesKept.{leads_within, plans_within}
use Rattle.b2_stmt_disk.proofs.Planned.{each_planned}
use Rattle.b2_stmt_disk.proofs.Reached.{finishes_reach, plans_reach}
use Rattle.b2_stmt_disk.proofs.Waits.{after_place}

pub leave_the_rest : StatementsLeaveTheRest
leave_the_rest devices =
    joined (plan devices) finish
    (plans_leave (works devices) (plans_within devices)
    (λ me s. each_planned devices me s (PlannedAt me.term) tt tt (λ code. tt) (λ a fits stays. names_no_terminal devices me.part me.term a fits)) (plans_reach devices))
    (finishes_leave plain plain_rest plain_frames ends leads_within after_place finishes_reach)
