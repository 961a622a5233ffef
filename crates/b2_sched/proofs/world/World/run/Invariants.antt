use Rattle.std.proofs.Common.{◌≡◌, drop}
use Rattle.b2_sched.specs.World.{ran}
use Rattle.b2_sched.proofs.world.World.run.Given as goal

-- the events that are left lead from here to where all lead
abbrev pub invariant-loop-e : goal.invariant-loop-e
invariant-loop-e g l = ran (drop l.e-index l.log) l.self ≡ ran l.log l.fn.self
