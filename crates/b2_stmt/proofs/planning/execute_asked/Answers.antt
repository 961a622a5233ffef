use Rattle.b2_access.specs.Found.{seen_found}
use Rattle.b2_access.specs.Lending.{globals_lent}
use Rattle.b2_stmt.proofs.Executed.{planned_asked}
use Rattle.b2_stmt.proofs.planning.execute_asked.Goals as goal

pub returns-clause-ended : goal.returns-clause-ended
returns-clause-ended c =
    let f = c.args.found.now in
    planned_asked c.do_or_ask.result c.do_or_ask.new.access _ c.args.me.now _ (seen_found f (globals_lent c.args.lent.now)) _ _ _ f.place c.in_ok-asked.ensures.same c.in_ok-asked.ensures.me c.in_ok-asked.ensures.asked c.do_or_ask.ensures.ended
