use Rattle.b2_boot.proofs.DrillLaws.{drills_grant_few}
use Rattle.b2_boot.proofs.laws.law_a_drill_grants_few_steps.Goals as goal

pub returns : goal.returns
returns c = drills_grant_few
