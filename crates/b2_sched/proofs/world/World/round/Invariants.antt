use Rattle.std.proofs.Common.{◌≡◌, ◌-◌}
use Rattle.b2_sched.specs.World.{does_all, turns_from}
use Rattle.b2_sched.proofs.world.World.round.Given as goal

-- the turns that are left lead from here to where all sixteen lead
abbrev pub invariant-loop-n : goal.invariant-loop-n
invariant-loop-n g l = record {
  quotas : l.self.quotas ≡ l.fn.self.quotas;
  turned : does_all (turns_from l.fn.self.quotas l.n (17 - l.n)) l.self ≡ does_all (turns_from l.fn.self.quotas 1 16) l.fn.self;
}
