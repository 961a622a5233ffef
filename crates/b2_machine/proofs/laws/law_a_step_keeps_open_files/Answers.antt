use Rattle.b2_machine.proofs.StepOpenFiles.{steps_keep_open_files}
use Rattle.b2_machine.proofs.laws.law_a_step_keeps_open_files.Goals as goal

pub returns : goal.returns
returns g c = steps_keep_open_files g.L.Language.ways g.met.L.Language.lawful g.met.L.Language.asks_listed g.met.L.Language.keeps_open g.S.Shared.store g.S.Shared.serving g.S.Shared.lending
