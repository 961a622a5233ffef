use Rattle.std.proofs.Common.{◌≡◌, ◌++◌, map, take, drop}
use Rattle.b2_vars.specs.Block.{lowered}
use Rattle.b2_vars.proofs.writing.lower_in.Given as goal

abbrev pub invariant-loop-i : goal.invariant-loop-i
invariant-loop-i l = l.places ≡ map (lowered l.past l.by) (take l.i l.fn.places) ++ drop l.i l.fn.places
