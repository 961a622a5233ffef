-- What statements on data files leave alone, whatever they are: by their form, and by where they lead (HomesKept), where they ask, what they leave
-- of the `@` variables (Reached), and that what waits changes nothing (Waits).
use Rattle.b2_access.specs.OwnTerminal.{PlannedAt}
use Rattle.b2_access.specs.Working.{on_files}
use Rattle.b2_access.proofs.LeftAlone.{finishes_leave, joined, plans_leave}
use Rattle.b2_access.proofs.Working.{files_frames, files_rest}
use Rattle.b2_access.proofs.OwnDevices.{at_disk_names_none}
use Rattle.b2_stmt_file.specs.Laws.{StatementsLeaveTheRest}
use Rattle.b2_stmt_file.specs.Plan.{ends, finish, plan, works}
use Rattle.b2_stmt_file.proofs.HomesKept.{leads_within, plans_within}
use Rattle.b2_stmt_file.proofs.Planned.{each_planned}
use Rattle.b2_stmt_file.proofs.Reached.{finishes_reach, plans_reach}
use Rattle.b2_stmt_file.proofs.Waits.{after_place}

pub leave_the_rest : StatementsLeaveTheRest
leave_the_rest devices =
    joined (plan devices) finish
    (plans_leave (works devices) (plans_within devices)
    (λ me s. each_planned devices me s (PlannedAt me.term) tt (λ p g is. tt) (λ code. tt) (λ addr a listed is legal. at_disk_names_none me.term addr a is)) (plans_reach devices))
    (finishes_leave on_files files_rest files_frames ends leads_within after_place finishes_reach)
