use Rattle.b2_machine.proofs.Counted.{steps_count_or_end}
use Rattle.b2_machine.proofs.laws.law_a_step_counts_or_ends_its_turn.Goals as goal

pub returns : goal.returns
returns g c devices = steps_count_or_end (g.L.Language.ways devices) g.S.Shared.store g.S.Shared.serving g.S.Shared.lending
