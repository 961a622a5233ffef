use Rattle.b2_store.proofs.Sound.{platters-stay-sound}
use Rattle.b2_store.proofs.laws.law_platters_stay_sound.Goals as goal

pub returns : goal.returns
returns c = platters-stay-sound
