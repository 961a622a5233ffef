use Rattle.b2_machine.proofs.NamesKept.{steps_lead_names}
use Rattle.b2_machine.proofs.laws.law_a_step_leads_names.Goals as goal

pub returns : goal.returns
returns g c devices = steps_lead_names (g.L.Language.ways devices) g.S.Shared.store g.S.Shared.serving g.S.Shared.lending g.met.S.Shared.lends_globals g.met.S.Shared.names_lead
