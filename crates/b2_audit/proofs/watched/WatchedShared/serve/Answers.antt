use Rattle.b2_audit.proofs.Served.{watched}
use Rattle.b2_audit.proofs.watched.WatchedShared.serve.Goals as goal

pub returns-clause-served : goal.returns-clause-served
returns-clause-served g c =
    watched g.S.Shared.store g.S.Shared.serving _ _ _ c.mark_touched.new.seen _ c.args.who c.args.access.now _ c.in_ok-answer.ensures.served c.mark_touched.ensures c.in_ok-mark_written.ensures.written
