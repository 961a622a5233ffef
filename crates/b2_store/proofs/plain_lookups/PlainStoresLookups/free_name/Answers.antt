use Rattle.std.proofs.Common.{ap, ◌∙◌}
use Rattle.b2_store.specs.Kept.{store_in}
use Rattle.b2_store.proofs.KeptNames.{freed_as}
use Rattle.b2_store.proofs.plain_lookups.PlainStoresLookups.free_name.Goals as goal

pub returns : goal.returns
returns c =
    let s = c.args.self.now in
    record { freed = ap (store_in s.globals) c.set_known.ensures ∙ freed_as s.globals c.args.name s.kept }
