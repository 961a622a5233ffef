use Rattle.b2_sched.proofs.KeptPlaces.{no_place_kept}
use Rattle.b2_sched.proofs.laws.law_no_place_is_kept_while_a_program_runs.Goals as goal

pub returns : goal.returns
returns c = no_place_kept
