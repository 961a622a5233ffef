use Rattle.std.proofs.Common.{sym}
use Rattle.b2_stmt_disk.proofs.of_devices.ListRows.{as_it_was, no_fourth}
use Rattle.b2_stmt_disk.proofs.devices.lists.add_fourth.Goals as goal

pub returns-else-is_at : goal.returns-else-is_at
returns-else-is_at c = as_it_was _ _ (no_fourth c.args.text.now (sym c.if-is_at.ensures))
