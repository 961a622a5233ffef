use Rattle.b2_term.proofs.Rounds.{next_follows, first_follows_last, first_follows_others}
use Rattle.b2_term.proofs.laws.law_a_terminal_goes_round.Goals as goal

pub returns-clause-next : goal.returns-clause-next
returns-clause-next c = next_follows

pub returns-clause-last : goal.returns-clause-last
returns-clause-last c = first_follows_last

pub returns-clause-others : goal.returns-clause-others
returns-clause-others c = first_follows_others
