use Rattle.std.proofs.Common.{◌≡◌, ◌++◌, drop}
use Rattle.b2_mvp.specs.Outputs.{apart_in}
use Rattle.b2_mvp.proofs.outputs.apart.Given as goal

-- those who are apart so far, and those of the partitions that are left
abbrev pub invariant-loop-p : goal.invariant-loop-p
invariant-loop-p g l = l.parts.items ++ apart_in l.world.marks (drop l.p-index l.partitions) ≡ apart_in l.world.marks l.partitions
