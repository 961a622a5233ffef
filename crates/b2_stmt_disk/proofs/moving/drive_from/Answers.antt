use Rattle.std.proofs.Common.{◌∙◌, sym}
use Rattle.b2_drive.specs.Drives.{drives_seen}
use Rattle.b2_stmt_disk.proofs.MoveRows.{drive_is}
use Rattle.b2_stmt_disk.proofs.moving.drive_from.Goals as goal

pub returns : goal.returns
returns c = c.used_at.ensures ∙ sym (drive_is (drives_seen c.args.d.now) c.args.text.now c.requires.phrase)
