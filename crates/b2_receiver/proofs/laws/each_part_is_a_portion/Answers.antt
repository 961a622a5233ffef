use Rattle.b2_receiver.proofs.Reaching.{each_part_is_a_portion}
use Rattle.b2_receiver.proofs.laws.each_part_is_a_portion.Goals as goal

pub returns : goal.returns
returns c = each_part_is_a_portion
