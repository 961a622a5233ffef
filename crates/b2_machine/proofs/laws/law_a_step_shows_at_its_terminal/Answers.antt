use Rattle.b2_machine.proofs.StepOutput.{step_shows}
use Rattle.b2_machine.proofs.laws.law_a_step_shows_at_its_terminal.Goals as goal

pub returns : goal.returns
returns g c devices = step_shows (g.L.Language.ways devices) (g.met.L.Language.lawful devices) g.S.Shared.store g.S.Shared.serving g.S.Shared.lending
