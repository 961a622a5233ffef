use Rattle.std.proofs.Common.{◌≡◌, ◌++◌, length}
use Rattle.b2_progfile.specs.Programs.{Ascending, all_line_bytes}
use Rattle.b2_progfile.proofs.Parsing.{next_least}
use Rattle.b2_progfile.proofs.reading.lines_of.Given as goal

-- what was read and what is left are all
abbrev pub invariant-loop-alloc : goal.invariant-loop-alloc
invariant-loop-alloc l = record {
  read : l.bytes ≡ all_line_bytes l.t.entries ++ l.rest;
  ascending : Ascending 0 l.t.entries;
  least : l.least ≡ next_least 0 l.t.entries;
}

abbrev pub decreases-loop-alloc : goal.decreases-loop-alloc
decreases-loop-alloc l = length l.rest
