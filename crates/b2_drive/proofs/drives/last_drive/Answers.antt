use Rattle.std.proofs.Common.{◌∙◌, sym}
use Rattle.b2_drive.specs.Drives.{drives_seen}
use Rattle.b2_drive.proofs.DriveRows.{last_is}
use Rattle.b2_drive.proofs.drives.last_drive.Goals as goal

pub returns : goal.returns
returns c = c.used_at.ensures ∙ sym (last_is (drives_seen c.args.d.now) c.args.text.now c.requires.phrase)
