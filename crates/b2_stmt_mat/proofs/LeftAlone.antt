-- What statements on arrays leave alone, whatever they are: each ends at once, and goes on or has a code, so all but the `@` variables it leaves
-- by its form.
use Rattle.b2_expr.specs.Workspace.{work_in}
use Rattle.b2_access.specs.LeftAlone.{LeaveTheRest}
use Rattle.b2_access.specs.Partition.{setting_of}
use Rattle.b2_access.proofs.Homes.{next_or_fails}
use Rattle.b2_access.proofs.LeftAlone.{ends_at_once}
use Rattle.b2_stmt_mat.specs.Plan.{ended_of, finish, is_refused, plan}
use Rattle.b2_stmt_mat.proofs.Reached.{change_reaches}

pub leave_the_rest : LeaveTheRest plan finish
leave_the_rest = ends_at_once is_refused ended_of (λ among u me s. next_or_fails among _) (λ u me s. change_reaches u.row u.tree (work_in (setting_of me) s.home me.vars s.globals))
