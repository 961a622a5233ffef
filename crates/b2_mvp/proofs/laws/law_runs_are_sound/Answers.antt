use Rattle.b2_mvp.proofs.RunLaws.{runs_are_sound}
use Rattle.b2_mvp.proofs.laws.law_runs_are_sound.Goals as goal

pub returns : goal.returns
returns c = runs_are_sound
