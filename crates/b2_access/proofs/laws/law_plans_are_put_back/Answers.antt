use Rattle.b2_access.proofs.Working.{plans_at_terminal, plans_before_changes, plans_in_place, plans_keep_files, plans_keep_held, plans_keep_none, plans_reach, plans_to_show, plans_within}
use Rattle.b2_access.proofs.laws.law_plans_are_put_back.Goals as goal

pub returns : goal.returns
returns c way = (
  plans_in_place way,
  plans_keep_none way,
  plans_before_changes way,
  plans_to_show way,
  plans_within way,
  plans_at_terminal way,
  plans_keep_files way,
  plans_keep_held way,
  plans_reach way,
)
