-- What a statement leaves alone, whatever it does: all of it, of a way of planning and one of finishing.
use Rattle.b2_access.specs.Homes.{FinishesWithin, PlansWithin}
use Rattle.b2_access.specs.Keeping.{FinishesInPlace, FinishesKeepNone, PlansInPlace, PlansKeepNone}
use Rattle.b2_access.specs.Lending.{SeenLent}
use Rattle.b2_access.specs.OwnTerminal.{FinishesAtTerminal, PlansAtTerminal}
use Rattle.b2_access.specs.Pending.{FinishesToShow, PlansToShow}
use Rattle.b2_access.specs.Planning.{Finishing, Planning}
use Rattle.b2_access.specs.Reaching.{FinishesReach, PlansReach}
use Rattle.b2_access.specs.Waiting.{FinishesUnchanged, PlansBeforeChanges}
use Rattle.b2_access.specs.declared.accesses.Access.{Access}
use Rattle.b2_access.specs.declared.accesses.Answer.{Answer}
use Rattle.b2_access.specs.declared.private.Private.{Private}

-- They name no partition but the statement's own, those that were named before, and whom the answer leads to; they leave its
-- place, and keep one for CONTINUE only where it ends the program; they leave its terminal, ask there alone, and make nothing wait to
-- be shown but what is for it; where it asks or has to wait, nothing has changed; and the `@` variables change only where a receiver among them is reached.
pub record LeaveTheRest (plan : Private → SeenLent → Planning) (finish : Access → Answer → Private → SeenLent → Finishing) : Type 0 where
  pub plans_within : PlansWithin plan
  pub finishes_within : FinishesWithin finish
  pub plans_in_place : PlansInPlace plan
  pub finishes_in_place : FinishesInPlace finish
  pub plans_keep_none : PlansKeepNone plan
  pub finishes_keep_none : FinishesKeepNone finish
  pub plans_at_terminal : PlansAtTerminal plan
  pub finishes_at_terminal : FinishesAtTerminal finish
  pub plans_to_show : PlansToShow plan
  pub finishes_to_show : FinishesToShow finish
  pub plans_before_changes : PlansBeforeChanges plan
  pub finishes_unchanged : FinishesUnchanged finish
  pub plans_reach : PlansReach plan
  pub finishes_reach : FinishesReach finish

-- IN TWO PARTS: as it plans, and as it finishes
pub record PlansLeave (plan : Private → SeenLent → Planning) : Type 0 where
  pub within : PlansWithin plan
  pub in_place : PlansInPlace plan
  pub keep_none : PlansKeepNone plan
  pub at_terminal : PlansAtTerminal plan
  pub to_show : PlansToShow plan
  pub before_changes : PlansBeforeChanges plan
  pub reach : PlansReach plan

pub record FinishesLeave (finish : Access → Answer → Private → SeenLent → Finishing) : Type 0 where
  pub within : FinishesWithin finish
  pub in_place : FinishesInPlace finish
  pub keep_none : FinishesKeepNone finish
  pub at_terminal : FinishesAtTerminal finish
  pub to_show : FinishesToShow finish
  pub unchanged : FinishesUnchanged finish
  pub reach : FinishesReach finish
