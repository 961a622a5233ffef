use Rattle.std.proofs.Common.{sym}
use Rattle.b2_store.specs.Kept.{is_kept}
use Rattle.b2_store.proofs.KeptItems.{here, not_found}
use Rattle.b2_store.proofs.kept_list.KeptList.item.Goals as goal

pub returns-in-Some : goal.returns-in-Some
returns-in-Some c = rw (← c.self.view_is) (sym (here (is_kept c.args.o.now) c.self.inside.items.items c.in-Some.index c.index.result.now (cc) (cc)))

pub returns-in-None : goal.returns-in-None
returns-in-None c = rw (← c.self.view_is) (sym (not_found (is_kept c.args.o.now) c.self.inside.items.items (cc)))
