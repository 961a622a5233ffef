use Rattle.b2_machine.proofs.StepHomes.{steps_stay_within}
use Rattle.b2_machine.proofs.laws.law_a_step_stays_within.Goals as goal

pub returns : goal.returns
returns g c devices = steps_stay_within (g.L.Language.ways devices) (g.met.L.Language.lawful devices) g.S.Shared.store g.S.Shared.serving g.S.Shared.lending g.met.S.Shared.lends_globals g.met.S.Shared.answers_lead
