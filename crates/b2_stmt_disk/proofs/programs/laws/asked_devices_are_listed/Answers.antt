use Rattle.b2_stmt_disk.proofs.of_programs.Listed.{asked_are_listed}
use Rattle.b2_stmt_disk.proofs.programs.laws.asked_devices_are_listed.Goals as goal

pub returns : goal.returns
returns c = asked_are_listed
