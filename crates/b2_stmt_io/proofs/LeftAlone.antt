-- What statements at the terminal leave alone, whatever they are: by their form, and by where they lead (HomesKept), where they ask, what they leave
-- of the `@` variables (Reached), and that what waits changes nothing (Waits).
use Rattle.std.proofs.Common.{List, refl}
use Rattle.b2_access.specs.LeftAlone.{PlansLeave}
use Rattle.b2_access.specs.OwnTerminal.{PlannedAt}
use Rattle.b2_access.specs.Working.{plain}
use Rattle.b2_access.specs.declared.devices.Device.{Device}
use Rattle.b2_access.specs.declared.accesses.Access.TheVariants as access
use Rattle.b2_access.specs.Views.{column_printed, column_shown}
use Rattle.b2_access.proofs.OwnTerminal.{at_terminal_names_own, names_none}
use Rattle.b2_access.proofs.Shown.{shown_or_printed_leads}
use Rattle.b2_access.proofs.LeftAlone.{finishes_leave, joined, plans_leave}
use Rattle.b2_access.proofs.Working.{plain_frames, plain_rest}
use Rattle.b2_stmt_io.specs.Laws.{StatementsLeaveTheRest}
use Rattle.b2_stmt_io.specs.Plan.{ends, finish, finish_printing, plan, printing_ends, works}
use Rattle.b2_stmt_io.proofs.HomesKept.{leads_within, plans_within}
use Rattle.b2_stmt_io.proofs.Planned.{each_planned}
use Rattle.b2_stmt_io.proofs.Reached.{finishes_reach, plans_reach, printing_reaches}
use Rattle.b2_stmt_io.proofs.Waits.{after_place, after_printing}

planned : (devices : List Device) → PlansLeave (plan devices)
planned devices =
    plans_leave (works devices) (plans_within devices)
    (λ me s. each_planned devices me s (PlannedAt me.term) tt tt (λ code. tt)
    (λ a is. at_terminal_names_own me.term a is) (λ addr bytes after is. names_none me.term (access.PrintTo addr bytes after) refl))
    (plans_reach devices)

pub leave_the_rest : StatementsLeaveTheRest
leave_the_rest devices = (
  joined (plan devices) finish (planned devices) (finishes_leave plain plain_rest plain_frames ends leads_within after_place finishes_reach),
  joined (plan devices) finish_printing (planned devices)
      (finishes_leave plain plain_rest plain_frames printing_ends (λ among x a me s k. shown_or_printed_leads among (column_shown x a) (column_printed x a) me) (λ x a me s h. after_printing x a me h) printing_reaches),
)
