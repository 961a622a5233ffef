use Rattle.std.proofs.Common.{◌-◌}
use Rattle.b2_text.specs.Blocks.{Between}
use Rattle.b2_text.proofs.block.find.Given as goal

abbrev pub invariant-loop-low : goal.invariant-loop-low
invariant-loop-low l = Between l.n l.low l.high l.places.items

abbrev pub decreases-loop-low : goal.decreases-loop-low
decreases-loop-low l = l.high - l.low
