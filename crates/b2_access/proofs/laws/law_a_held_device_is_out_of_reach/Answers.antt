use Rattle.b2_access.proofs.Held.{held_is_out_of_reach}
use Rattle.b2_access.proofs.laws.law_a_held_device_is_out_of_reach.Goals as goal

pub returns : goal.returns
returns c = held_is_out_of_reach
