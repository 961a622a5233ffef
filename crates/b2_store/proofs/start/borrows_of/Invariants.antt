use Rattle.std.proofs.Common.{◌≡◌, ◌++◌, drop, map}
use Rattle.b2_store.specs.Start.{borrow_row}
use Rattle.b2_store.proofs.start.borrows_of.Given as goal

-- the rows so far, and those that are left
abbrev pub invariant-loop-partition : goal.invariant-loop-partition
invariant-loop-partition l = l.rows ++ map borrow_row (drop l.partition-index l.partitions) ≡ map borrow_row l.partitions
