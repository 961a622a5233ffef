use Rattle.std.proofs.Common.{◌∙◌}
use Rattle.b2_access.specs.declared.objects.Object.TheVariants as object
use Rattle.b2_store.specs.KeptLaws.{found}
use Rattle.b2_store.proofs.plain_lookups.PlainStoresLookups.terminal_at.Goals as goal

pub returns : goal.returns
returns c = record { found = c.terminal.ensures ∙ found (object.Terminal c.args.t) c.args.self.now.kept }
