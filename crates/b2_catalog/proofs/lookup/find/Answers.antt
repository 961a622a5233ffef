use Rattle.std.proofs.Common.{ap, ◌∙◌, sym, Some}
use Rattle.std.specs.Option.{option_map}
use Rattle.b2_catalog.specs.Catalogue.{entry_at}
use Rattle.b2_catalog.proofs.Mapping.{get-catalogue}
use Rattle.b2_catalog.proofs.lookup.find.Goals as goal

pub returns-in_err-k-clause-entry : goal.returns-in_err-k-clause-entry
returns-in_err-k-clause-entry g c =
    c.from_residual.ensures ∙ sym (get-catalogue c.args.p.now c.args.name ∙ ap (option_map (entry_at c.args.p.now)) (sym c.in_err-k.ensures.slot))

pub entry_at-requires : goal.entry_at-requires
entry_at-requires g c = c.in_ok-k.ensures.held

pub returns-clause-entry : goal.returns-clause-entry
returns-clause-entry g c =
    ap Some c.entry_at.ensures.value ∙ sym (get-catalogue c.args.p.now c.args.name ∙ ap (option_map (entry_at c.args.p.now)) (sym c.in_ok-k.ensures.slot))
