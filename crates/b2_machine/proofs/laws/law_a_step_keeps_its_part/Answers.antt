use Rattle.b2_machine.proofs.StepPart.{steps_keep_part}
use Rattle.b2_machine.proofs.laws.law_a_step_keeps_its_part.Goals as goal

pub returns : goal.returns
returns g c devices = steps_keep_part (g.L.Language.ways devices) (g.met.L.Language.lawful devices) g.S.Shared.store g.S.Shared.serving g.S.Shared.lending
