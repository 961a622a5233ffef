use Rattle.b2_boot.proofs.DrillLaws.{drills_are_good}
use Rattle.b2_boot.proofs.laws.law_a_drill_has_a_good_boot.Goals as goal

pub returns : goal.returns
returns c = drills_are_good
