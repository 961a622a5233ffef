use Rattle.b2_machine.proofs.ByTable.{steps_go_by_listed, turns_go_by_listed}
use Rattle.b2_machine.proofs.laws.law_a_step_goes_by_what_is_listed.Goals as goal

pub returns-clause-steps : goal.returns-clause-steps
returns-clause-steps g c = steps_go_by_listed g.L.Language.ways g.met.L.Language.goes_by_listed g.met.L.Language.lawful g.S.Shared.store g.S.Shared.serving g.S.Shared.lending

pub returns-clause-turns : goal.returns-clause-turns
returns-clause-turns g c = turns_go_by_listed g.L.Language.ways g.met.L.Language.goes_by_listed g.met.L.Language.lawful g.S.Shared.store g.S.Shared.serving g.S.Shared.lending
