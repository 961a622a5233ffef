use Rattle.b2_access.proofs.EnteredHomes.{mask_of_marks}
use Rattle.b2_access.proofs.home_mask.homes_entered.Goals as goal

pub returns : goal.returns
returns c = mask_of_marks c.homes.result c.args.stack.now c.homes.type_inv c.homes.ensures.marks
