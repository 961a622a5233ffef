use Rattle.std.proofs.Common.{sym, ap, ◌∙◌}
use Rattle.b2_store.proofs.KeptWork.{given, loaded_as, refused}
use Rattle.b2_store.proofs.plain_lookups.PlainStoresLookups.load_own.Goals as goal

pub returns-in-Ok : goal.returns-in-Ok
returns-in-Ok c =
    let s = c.args.self.now in
    record { loaded = sym (ap (given s.globals s.kept) c.in-Ok.ensures.ok) ∙ loaded_as s.globals s.kept c.args.who c.args.addr c.args.name c.args.replace }

pub returns-in-Err : goal.returns-in-Err
returns-in-Err c =
    let s = c.args.self.now in
    record { loaded = refused s.globals s.kept c.in-Err.fault _ _ _ c.refusal.result c.refusal.ensures.refused c.in-Err.ensures.fails c.in-Err.ensures.kept (loaded_as s.globals s.kept c.args.who c.args.addr c.args.name c.args.replace) }
