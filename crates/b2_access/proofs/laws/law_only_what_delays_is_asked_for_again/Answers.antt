use Rattle.b2_access.proofs.AskedAgain.{only_delays_are_asked_again}
use Rattle.b2_access.proofs.laws.law_only_what_delays_is_asked_for_again.Goals as goal

pub returns : goal.returns
returns g c = only_delays_are_asked_again g.S.Shared.serving g.met.S.Shared.answers_by_row
