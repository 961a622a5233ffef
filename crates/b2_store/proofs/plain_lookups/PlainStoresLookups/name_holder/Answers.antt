use Rattle.std.proofs.Common.{Option, ℕ, sym, ap, ◌∙◌}
use Rattle.b2_access.specs.Rows.{holder_in}
use Rattle.b2_access.specs.declared.objects.Object.TheVariants as object
use Rattle.b2_store.specs.KeptLaws.{found}
use Rattle.b2_store.proofs.plain_lookups.PlainStoresLookups.name_holder.Goals as goal

pub returns-in-Some : goal.returns-in-Some
returns-in-Some c = record { held = ap (λ (o : Option (Option ℕ)). holder_in o) (sym c.in-Some.is ∙ c.name.ensures ∙ found (object.Name c.args.name) c.args.self.now.kept) }

pub returns-in-None : goal.returns-in-None
returns-in-None c = record { held = ap (λ (o : Option (Option ℕ)). holder_in o) (sym c.in-None.is ∙ c.name.ensures ∙ found (object.Name c.args.name) c.args.self.now.kept) }
