use Rattle.std.proofs.Common.{◌≡◌, drop}
use Rattle.b2_platter.specs.Edits.{put_sectors}
use Rattle.b2_platter.proofs.edits.put_sectors.Given as goal

abbrev pub invariant-loop-n : goal.invariant-loop-n
invariant-loop-n l = put_sectors l.image (drop l.n-index l.edits) ≡ put_sectors l.initial.image l.edits
