use Rattle.std.proofs.Common.{◌≡◌, ◌++◌, map, take, drop}
use Rattle.b2_text.specs.Blocks.{lowered}
use Rattle.b2_text.proofs.block.lower_all.Given as goal

abbrev pub invariant-loop-i : goal.invariant-loop-i
invariant-loop-i l = l.places ≡ map (lowered l.by l.less) (take l.i l.fn.places) ++ drop l.i l.fn.places
