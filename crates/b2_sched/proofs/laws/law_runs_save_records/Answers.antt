use Rattle.b2_sched.proofs.NumbersOfWorlds.{runs_save_records, runs_save_storable}
use Rattle.b2_sched.proofs.laws.law_runs_save_records.Goals as goal

pub returns-clause-storable : goal.returns-clause-storable
returns-clause-storable c = runs_save_storable

pub returns-clause-follow : goal.returns-clause-follow
returns-clause-follow c = runs_save_records
