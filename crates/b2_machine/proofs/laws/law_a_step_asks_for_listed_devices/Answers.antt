use Rattle.b2_machine.proofs.StepDevices.{steps_ask_for_listed}
use Rattle.b2_machine.proofs.laws.law_a_step_asks_for_listed_devices.Goals as goal

pub returns : goal.returns
returns g c = steps_ask_for_listed g.L.Language.ways g.met.L.Language.asks_listed
