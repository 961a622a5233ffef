use Rattle.b2_sched.proofs.SoundRuns.{runs_stay_sound}
use Rattle.b2_sched.proofs.laws.law_runs_stay_sound.Goals as goal

pub returns : goal.returns
returns c = runs_stay_sound
