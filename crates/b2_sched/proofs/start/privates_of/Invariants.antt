use Rattle.std.proofs.Common.{◌≡◌, ◌++◌, drop, map, true}
use Rattle.std.specs.List.{list_all}
use Rattle.b2_sched.specs.Start.{AreNumbered, may_start, private_row}
use Rattle.b2_sched.proofs.start.privates_of.Given as goal

-- what is there so far, and what is left
abbrev pub invariant-loop-p : goal.invariant-loop-p
invariant-loop-p l = record {
  rows : l.rows ++ map private_row (drop l.p-index l.partitions) ≡ map private_row l.partitions;
  programs : list_all (λ p. may_start p.program) (drop l.p-index l.partitions) ≡ true;
  numbered : AreNumbered (drop l.p-index l.partitions) → AreNumbered l.partitions;
}
