use Rattle.b2_boot.proofs.LogBounds.{logs_are_of_their_boot}
use Rattle.b2_boot.proofs.laws.law_a_log_is_of_its_boot.Goals as goal

pub returns : goal.returns
returns c = logs_are_of_their_boot
