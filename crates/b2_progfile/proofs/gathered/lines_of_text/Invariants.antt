use Rattle.std.proofs.Common.{◌≡◌, length}
use Rattle.b2_progfile.specs.Loading.{merged}
use Rattle.b2_progfile.proofs.gathered.lines_of_text.Given as goal

-- the lines that are left, put to those that are there, are all
abbrev pub invariant-loop-line : goal.invariant-loop-line
invariant-loop-line l = merged l.left l.lines.entries ≡ l.t.lines

abbrev pub decreases-loop-line : goal.decreases-loop-line
decreases-loop-line l = length l.left
