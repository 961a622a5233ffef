use Rattle.b2_machine.proofs.LocalSteps.{steps_are_local}
use Rattle.b2_machine.proofs.laws.law_a_step_is_local.Goals as goal

pub returns : goal.returns
returns g c devices = steps_are_local (g.L.Language.ways devices) (g.met.L.Language.lawful devices) g.S.Shared.store g.S.Shared.serving g.S.Shared.lending g.met.S.Shared.local g.met.S.Shared.lends_globals
