use Rattle.b2_stmt_disk.proofs.of_devices.LeftAlone.{leave_the_rest}
use Rattle.b2_stmt_disk.proofs.devices.laws.statements_leave_the_rest.Goals as goal

pub returns : goal.returns
returns c = leave_the_rest
