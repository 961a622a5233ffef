-- What statements on programs on disks leave alone, whatever they are: by their form, and by what they name and where they lead (HomesKept), where
-- they ask, what they keep (KeptPlaces), the `@` variables (Reached), and that what waits changes nothing (Waits).
use Rattle.b2_access.specs.OwnTerminal.{PlannedAt}
use Rattle.b2_access.proofs.LeftAlone.{joined, plans_leave, steering_leaves}
use Rattle.b2_access.proofs.OwnTerminal.{names_none}
use Rattle.b2_stmt_disk.specs.programs.Laws.{StatementsLeaveTheRest}
use Rattle.b2_stmt_disk.specs.programs.Plan.{ends, finish, plan, works}
use Rattle.b2_stmt_disk.proofs.of_programs.HomesKept.{finishes_within, plans_within}
use Rattle.b2_stmt_disk.proofs.of_programs.KeptPlaces.{finishes_keep_none}
use Rattle.b2_stmt_disk.proofs.of_programs.Planned.{FitsHere, each_planned}
use Rattle.b2_stmt_disk.proofs.of_programs.Reached.{plans_reach}
use Rattle.b2_stmt_disk.proofs.of_programs.Waits.{after_place}

pub leave_the_rest : StatementsLeaveTheRest
leave_the_rest devices =
    joined (plan devices) finish
    (plans_leave (works devices) (plans_within devices)
    (λ me s. each_planned devices me s (PlannedAt me.term) tt (λ code. tt) (λ a fits stays. names_none me.term a (FitsHere.terminal fits))) (plans_reach devices))
    (steering_leaves (λ x a me s. ends x a s.own.lines me) finishes_within finishes_keep_none after_place)
