use Rattle.b2_boot.proofs.PartLaws.{parts_have_no_less, parts_have_no_more}
use Rattle.b2_boot.proofs.PartRounds.{parts_have_each_round}
use Rattle.b2_boot.proofs.laws.law_a_part_is_what_is_own.Goals as goal

pub returns-clause-no_more : goal.returns-clause-no_more
returns-clause-no_more c = parts_have_no_more

pub returns-clause-no_less : goal.returns-clause-no_less
returns-clause-no_less c = parts_have_no_less

pub returns-clause-rounds : goal.returns-clause-rounds
returns-clause-rounds c = parts_have_each_round
