use Rattle.std.proofs.Common.{◌∙◌}
use Rattle.b2_access.specs.declared.objects.Object.TheVariants as object
use Rattle.b2_store.specs.KeptLaws.{found}
use Rattle.b2_store.proofs.plain_lookups.PlainStoresLookups.platter_at.Goals as goal

pub returns : goal.returns
returns c = record { found = c.platter.ensures ∙ found (object.Platter c.args.a) c.args.self.now.kept }
