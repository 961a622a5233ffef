use Rattle.b2_rows.proofs.Lists.{each_list_steps}
use Rattle.b2_rows.proofs.laws.each_list_steps.Goals as goal

pub returns : goal.returns
returns c = each_list_steps
