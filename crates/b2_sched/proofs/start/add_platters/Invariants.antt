use Rattle.std.proofs.Common.{◌≡◌, ◌++◌, drop, map}
use Rattle.b2_sched.specs.Start.{platter_device}
use Rattle.b2_sched.proofs.start.add_platters.Given as goal

-- what is there so far, and what is left
abbrev pub invariant-loop-platter : goal.invariant-loop-platter
invariant-loop-platter l = l.devices.items ++ map platter_device (drop l.platter-index l.platters) ≡ l.fn.devices.items ++ map platter_device l.platters
