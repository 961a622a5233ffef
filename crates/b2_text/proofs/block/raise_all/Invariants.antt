use Rattle.std.proofs.Common.{◌≡◌, ◌++◌, map, take, drop}
use Rattle.b2_text.specs.Blocks.{raised}
use Rattle.b2_text.proofs.block.raise_all.Given as goal

abbrev pub invariant-loop-i : goal.invariant-loop-i
invariant-loop-i l = l.places ≡ map (raised l.by l.more) (take l.i l.fn.places) ++ drop l.i l.fn.places
