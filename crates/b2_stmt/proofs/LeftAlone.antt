-- What statements of control leave alone, whatever they are: what they plan, by HomesKept, KeptPlaces, Waits and Reached; and how they
-- finish, by the form of what they change and the first three of these.
use Rattle.b2_access.specs.LeftAlone.{LeaveTheRest}
use Rattle.b2_access.proofs.LeftAlone.{joined, steering_leaves}
use Rattle.b2_stmt.specs.Plan.{ends_at, finish, plan}
use Rattle.b2_stmt.proofs.HomesKept.{finishes_within, plans_within}
use Rattle.b2_stmt.proofs.KeptPlaces.{finishes_keep_none, plans_at_terminal, plans_in_place, plans_keep_none, plans_to_show}
use Rattle.b2_stmt.proofs.Reached.{plans_reach}
use Rattle.b2_stmt.proofs.Waits.{after_place, plans_before_changes}

pub leave_the_rest : LeaveTheRest plan finish
leave_the_rest =
    joined plan finish
    (record { within = plans_within; in_place = plans_in_place; keep_none = plans_keep_none; at_terminal = plans_at_terminal; to_show = plans_to_show; before_changes = plans_before_changes; reach = plans_reach })
    (steering_leaves (λ x a me s. ends_at me.place x a me s) finishes_within finishes_keep_none after_place)
