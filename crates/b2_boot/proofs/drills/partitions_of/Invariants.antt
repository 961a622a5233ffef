use Rattle.std.proofs.Common.{◌≡◌, ◌++◌, drop, map, true}
use Rattle.std.specs.List.{list_all}
use Rattle.b2_boot.specs.Drills.{is_clerk, partition_of}
use Rattle.b2_boot.proofs.drills.partitions_of.Given as goal

abbrev pub invariant-loop-clerk : goal.invariant-loop-clerk
invariant-loop-clerk l = (list_all is_clerk (drop l.clerk-index l.clerks) ≡ true) × (l.partitions.items ++ map partition_of (drop l.clerk-index l.clerks) ≡ map partition_of l.clerks)
