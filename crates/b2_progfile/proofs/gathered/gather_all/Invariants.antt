use Rattle.std.proofs.Common.{◌≡◌}
use Rattle.b2_progfile.specs.Loading.{merged}
use Rattle.b2_progfile.proofs.gathered.gather_all.Given as goal

-- the lines that are left, put to those that are there, are all
abbrev pub invariant-loop-number : goal.invariant-loop-number
invariant-loop-number l = merged l.number-iterator l.lines.entries ≡ merged l.more.entries l.fn.lines.entries
