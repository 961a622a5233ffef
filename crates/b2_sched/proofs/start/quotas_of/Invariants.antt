use Rattle.std.proofs.Common.{◌≡◌, ◌++◌, drop, map}
use Rattle.b2_boot.specs.Quotas.{quota_row}
use Rattle.b2_sched.proofs.start.quotas_of.Given as goal

-- what is there so far, and what is left
abbrev pub invariant-loop-p : goal.invariant-loop-p
invariant-loop-p l = l.rows ++ map (quota_row l.of_boot) (drop l.p-index l.partitions) ≡ map (quota_row l.of_boot) l.partitions
