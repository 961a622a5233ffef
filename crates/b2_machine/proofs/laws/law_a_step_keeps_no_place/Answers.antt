use Rattle.b2_machine.proofs.KeptPlace.{step_keeps}
use Rattle.b2_machine.proofs.laws.law_a_step_keeps_no_place.Goals as goal

pub returns : goal.returns
returns g c devices = step_keeps (g.L.Language.ways devices) (g.met.L.Language.lawful devices) g.S.Shared.store g.S.Shared.serving g.S.Shared.lending
