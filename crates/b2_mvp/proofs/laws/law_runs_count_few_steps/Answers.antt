use Rattle.b2_mvp.proofs.RunLaws.{runs_count_few_steps}
use Rattle.b2_mvp.proofs.laws.law_runs_count_few_steps.Goals as goal

pub returns : goal.returns
returns c = runs_count_few_steps
