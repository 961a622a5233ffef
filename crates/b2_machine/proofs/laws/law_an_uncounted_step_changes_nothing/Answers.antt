use Rattle.b2_machine.proofs.Unchanged.{uncounted_steps_change_nothing}
use Rattle.b2_machine.proofs.laws.law_an_uncounted_step_changes_nothing.Goals as goal

pub returns : goal.returns
returns g c devices = uncounted_steps_change_nothing (g.L.Language.ways devices) (g.met.L.Language.lawful devices) g.S.Shared.store g.S.Shared.serving g.S.Shared.lending
