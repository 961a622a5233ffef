use Rattle.std.proofs.Common.{◌≡◌, ◌++◌, drop, map}
use Rattle.b2_store.specs.Start.{globals_row}
use Rattle.b2_store.proofs.start.globals_of.Given as goal

-- the rows so far, and those that are left
abbrev pub invariant-loop-partition : goal.invariant-loop-partition
invariant-loop-partition l = l.rows ++ map globals_row (drop l.partition-index l.partitions) ≡ map globals_row l.partitions
