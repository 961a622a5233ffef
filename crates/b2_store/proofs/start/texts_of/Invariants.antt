use Rattle.std.proofs.Common.{◌≡◌, ◌++◌, drop, map}
use Rattle.b2_store.specs.Start.{text_row}
use Rattle.b2_store.proofs.start.texts_of.Given as goal

-- the rows so far, and those that are left
abbrev pub invariant-loop-partition : goal.invariant-loop-partition
invariant-loop-partition l = l.rows ++ map text_row (drop l.partition-index l.partitions) ≡ map text_row l.partitions
