use Rattle.b2_machine.proofs.SeenTurns.{steps_are_seen, turns_are_seen}
use Rattle.b2_machine.proofs.laws.law_a_turn_is_seen_as_over_another.Goals as goal

pub returns : goal.returns
returns g c = record {
  steps = λ devices. steps_are_seen (g.L.Language.ways devices) g.S.Shared.store g.T.Shared.store g.S.Shared.serving g.T.Shared.serving g.S.Shared.lending g.T.Shared.lending;
  turns = λ devices. turns_are_seen (g.L.Language.ways devices) g.S.Shared.store g.T.Shared.store g.S.Shared.serving g.T.Shared.serving g.S.Shared.lending g.T.Shared.lending;
}
