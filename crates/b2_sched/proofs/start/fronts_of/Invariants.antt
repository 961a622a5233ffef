use Rattle.std.proofs.Common.{◌≡◌, ◌++◌, drop, map}
use Rattle.b2_sched.specs.Start.{front_of_boot}
use Rattle.b2_sched.proofs.start.fronts_of.Given as goal

-- what is there so far, and what is left
abbrev pub invariant-loop-t : goal.invariant-loop-t
invariant-loop-t l = l.fronts.items ++ map front_of_boot (drop l.t-index l.terminals) ≡ map front_of_boot l.terminals
