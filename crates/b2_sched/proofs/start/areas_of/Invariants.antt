use Rattle.std.proofs.Common.{◌≡◌, ◌++◌, drop, map}
use Rattle.b2_sched.specs.Start.{areas_of}
use Rattle.b2_sched.proofs.start.areas_of.Given as goal

-- what is there so far, and what is left
abbrev pub invariant-loop-p : goal.invariant-loop-p
invariant-loop-p l = l.areas.items ++ map areas_of (drop l.p-index l.partitions) ≡ map areas_of l.partitions
