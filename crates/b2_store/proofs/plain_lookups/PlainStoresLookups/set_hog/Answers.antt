use Rattle.std.proofs.Common.{ap, ◌∙◌}
use Rattle.b2_access.specs.declared.objects.Object.TheVariants as object
use Rattle.b2_access.specs.Store.{StoreState}
use Rattle.b2_store.specs.Kept.{store_in}
use Rattle.b2_store.specs.KeptLaws.{changed}
use Rattle.b2_store.proofs.plain_lookups.PlainStoresLookups.set_hog.Goals as goal

pub returns : goal.returns
returns c =
    let s = c.args.self.now in
    record { set = ap (store_in s.globals) c.set_hog.ensures ∙ ap (λ (x : StoreState). record x { globals = s.globals }) (changed (object.Hog c.args.a) s.kept c.args.holder) }
