use Rattle.b2_boot.proofs.DrillLaws.{drills_are_of_their_boot}
use Rattle.b2_boot.proofs.laws.law_a_drill_is_of_its_boot.Goals as goal

pub returns : goal.returns
returns c = drills_are_of_their_boot
