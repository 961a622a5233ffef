use Rattle.std.proofs.Common.{◌≡◌, ◌+◌, ◌-◌, ◌^◌, ◌≤◌, drop, map, min}
use Rattle.b2_boot.specs.Quotas.{quota_row, steps_of_round}
use Rattle.b2_boot.proofs.log.steps_granted.Given as goal

abbrev pub invariant-loop-partition : goal.invariant-loop-partition
invariant-loop-partition l = record {
  rest : min (l.steps + steps_of_round (map (quota_row l.quota) (drop l.partition-index l.partitions))) (2 ^ 64 - 1) ≡ min (steps_of_round (map (quota_row l.quota) l.partitions)) (2 ^ 64 - 1);
  few : l.steps ≤ 2 ^ 64 - 1;
}
