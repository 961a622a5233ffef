use Rattle.std.proofs.Common.{ap, ◌∙◌}
use Rattle.b2_access.specs.Store.{StoreState}
use Rattle.b2_store.specs.Kept.{store_in}
use Rattle.b2_store.specs.KeptLaws.{named}
use Rattle.b2_store.proofs.plain_lookups.PlainStoresLookups.set_name.Goals as goal

pub returns : goal.returns
returns c =
    let s = c.args.self.now in
    record { set = ap (store_in s.globals) c.in_ok-set_name.ensures ∙ ap (λ (x : StoreState). record x { globals = s.globals }) (named c.args.name s.kept c.args.holder) }
