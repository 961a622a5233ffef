use Rattle.std.proofs.Common.{◌≡◌, ◌++◌}
use Rattle.b2_progfile.proofs.Merging.{AllSmall}
use Rattle.b2_progfile.proofs.gathered.refill.Given as goal

-- the lines that are there and those that are left are all
abbrev pub invariant-loop-number : goal.invariant-loop-number
invariant-loop-number l = record {
  all : l.t.lines ++ l.number-iterator ≡ l.lines.entries;
  area : l.t.area ≡ l.fn.t.area;
  small : AllSmall l.number-iterator;
}
