use Rattle.std.proofs.Common.{◌≡◌, ◌≤◌, ◌++◌, drop, length, true}
use Rattle.std.specs.List.{list_all}
use Rattle.b2_boot.specs.Boots.{is_numbered, partitions_at}
use Rattle.b2_boot.proofs.orders.partitions_at.Given as goal

-- those so far, and those among the rows that are left, which have numbers of partitions
abbrev pub invariant-loop-p : goal.invariant-loop-p
invariant-loop-p l = record {
  numbers : list_all is_numbered (drop l.p-index l.partitions) ≡ true;
  found : l.list ++ partitions_at l.terminal (drop l.p-index l.partitions) ≡ partitions_at l.terminal l.partitions;
  few : length l.list ≤ l.p-index;
}
