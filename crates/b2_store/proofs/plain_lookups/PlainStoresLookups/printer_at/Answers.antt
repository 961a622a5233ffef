use Rattle.std.proofs.Common.{◌∙◌}
use Rattle.b2_access.specs.declared.objects.Object.TheVariants as object
use Rattle.b2_store.specs.KeptLaws.{found}
use Rattle.b2_store.proofs.plain_lookups.PlainStoresLookups.printer_at.Goals as goal

pub returns : goal.returns
returns c = record { found = c.printer.ensures ∙ found (object.Printer c.args.a) c.args.self.now.kept }
