use Rattle.std.proofs.Common.{sym, ap, ◌∙◌}
use Rattle.b2_store.proofs.KeptWork.{given, moved_as, not_moved}
use Rattle.b2_store.proofs.plain_lookups.PlainStoresLookups.move_files.Goals as goal

pub returns-in-Ok-clause-done : goal.returns-in-Ok-clause-done
returns-in-Ok-clause-done c who =
    let s = c.args.self.now in
    sym (ap (given s.globals s.kept) c.in-Ok.ensures.ok) ∙ moved_as s.globals s.kept who c.args.from c.args.to c.args.name

pub returns-in-Err-clause-done : goal.returns-in-Err-clause-done
returns-in-Err-clause-done c who =
    let s = c.args.self.now in
    not_moved s.globals s.kept c.args.name c.in-Err.fault _ _ _ c.refusal.result c.refusal.ensures.refused c.in-Err.ensures.fails c.in-Err.ensures.kept (moved_as s.globals s.kept who c.args.from c.args.to c.args.name)
