use Rattle.std.proofs.Common.{◌≡◌, ◌++◌, length, map}
use Rattle.b2_atom.specs.Words.{kept_byte}
use Rattle.b2_atom.proofs.output.push_upper.Given as goal

abbrev pub invariant-loop-left : goal.invariant-loop-left
invariant-loop-left l = l.out.items ++ map (kept_byte l.origin) l.left ≡ l.fn.out.items ++ map (kept_byte l.origin) l.fn.bytes

abbrev pub decreases-loop-left : goal.decreases-loop-left
decreases-loop-left l = length l.left
