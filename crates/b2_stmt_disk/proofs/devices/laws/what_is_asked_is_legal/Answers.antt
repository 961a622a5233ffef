use Rattle.b2_stmt_disk.proofs.of_devices.Legal.{plans_legally}
use Rattle.b2_stmt_disk.proofs.devices.laws.what_is_asked_is_legal.Goals as goal

pub returns : goal.returns
returns c = plans_legally
