use Rattle.std.proofs.Common.{◌≡◌, ◌-◌}
use Rattle.b2_sched.specs.World.{does_all, rounds}
use Rattle.b2_sched.proofs.world.World.rounds.Given as goal

-- the rounds that are left lead from here to where all lead
abbrev pub invariant-loop : goal.invariant-loop
invariant-loop g l = record {
  quotas : l.self.quotas ≡ l.fn.self.quotas;
  turned : does_all (rounds l.fn.self.quotas (l.n - l.counter)) l.self ≡ does_all (rounds l.fn.self.quotas l.n) l.fn.self;
}
