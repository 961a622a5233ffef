use Rattle.b2_stmt_disk.proofs.of_devices.HeldOnce.{held_once}
use Rattle.b2_stmt_disk.proofs.devices.laws.devices_are_held_once.Goals as goal

pub returns : goal.returns
returns c = held_once
