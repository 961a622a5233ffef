use Rattle.std.proofs.Common.{◌≡◌, ◌++◌, length}
use Rattle.b2_machine.specs.Listed.{each_listed, range_listed}
use Rattle.b2_machine.proofs.listed.range_listed.Given as goal

-- what is listed, with the lines that are left, is the whole
abbrev pub invariant-loop-line : goal.invariant-loop-line
invariant-loop-line l = l.out.items ++ each_listed l.left ≡ range_listed (l.from, l.to) l.text.lines

abbrev pub decreases-loop-line : goal.decreases-loop-line
decreases-loop-line l = length l.left
