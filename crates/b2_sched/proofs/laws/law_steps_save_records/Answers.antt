use Rattle.b2_sched.proofs.SavedRecords.{steps_save_records, steps_save_storable}
use Rattle.b2_sched.proofs.laws.law_steps_save_records.Goals as goal

pub returns-clause-storable : goal.returns-clause-storable
returns-clause-storable c = steps_save_storable

pub returns-clause-follow : goal.returns-clause-follow
returns-clause-follow c = steps_save_records
