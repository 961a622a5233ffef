use Rattle.std.proofs.Common.{sym}
use Rattle.b2_store.proofs.Placed.{row_here, not_found}
use Rattle.b2_store.proofs.rows.Rows.get.Goals as goal

pub returns-in-Some : goal.returns-in-Some
returns-in-Some g c = rw (← c.self.view_is) (sym (row_here (g.K.Key.found_by c.args.key) c.self.inside.rows.items c.in-Some.index c.index.result.now (cc) (cc)))

pub returns-in-None : goal.returns-in-None
returns-in-None g c = rw (← c.self.view_is) (sym (not_found (g.K.Key.found_by c.args.key) c.self.inside.rows.items (cc)))
