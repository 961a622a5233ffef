use Rattle.b2_stmt_disk.proofs.of_devices.ByTable.{by_table}
use Rattle.b2_stmt_disk.proofs.devices.laws.statements_plan_by_what_is_listed.Goals as goal

pub returns : goal.returns
returns c = by_table
