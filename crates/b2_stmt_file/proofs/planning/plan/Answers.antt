use Rattle.b2_access.specs.Lending.{globals_lent, seen_lent}
use Rattle.b2_access.specs.Placed.{statement_placed}
use Rattle.b2_stmt_file.proofs.Ended.{asked_is, planned_as}
use Rattle.b2_stmt_file.proofs.planning.plan.Goals as goal

pub returns-clause-planned : goal.returns-clause-planned
returns-clause-planned c =
    let devices = c.args.devices.now in
    let me = c.args.me.now in
    let s = seen_lent c.args.lent.now in
    let p = c.in-Some.place in
    planned_as devices me c.plan_access.new.me s (globals_lent c.plan_access.new.lent) (statement_placed p me.immediate s.home.lines) c.plan_access.result c.plan_access.ensures.same c.plan_access.ensures.same_globals c.plan_access.ensures.planned
    (asked_is devices me s p c.in-Some.is c.in_default-ended_there.ensures)
