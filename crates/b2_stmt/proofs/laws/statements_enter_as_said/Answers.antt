use Rattle.b2_stmt.proofs.Standing.{enters_others, finishes_standing, plans_standing}
use Rattle.b2_stmt.proofs.laws.statements_enter_as_said.Goals as goal

pub returns-clause-plans : goal.returns-clause-plans
returns-clause-plans c = plans_standing

pub returns-clause-finishes : goal.returns-clause-finishes
returns-clause-finishes c = finishes_standing

pub returns-clause-others : goal.returns-clause-others
returns-clause-others c = enters_others
