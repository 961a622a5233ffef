use Rattle.b2_machine.proofs.StepTerminal.{steps_ask_at_terminal}
use Rattle.b2_machine.proofs.laws.law_a_step_asks_at_its_terminal.Goals as goal

pub returns : goal.returns
returns g c devices = steps_ask_at_terminal (g.L.Language.ways devices) (g.met.L.Language.lawful devices) g.S.Shared.store g.S.Shared.serving g.S.Shared.lending
