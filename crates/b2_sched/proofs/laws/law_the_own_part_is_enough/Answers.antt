use Rattle.b2_sched.proofs.PartRuns.{parts_are_enough, parts_of_clean_groups_are_enough}
use Rattle.b2_sched.proofs.laws.law_the_own_part_is_enough.Goals as goal

pub returns-clause-alone : goal.returns-clause-alone
returns-clause-alone c = parts_are_enough

pub returns-clause-clean : goal.returns-clause-clean
returns-clause-clean c = parts_of_clean_groups_are_enough
