use Rattle.std.proofs.Common.{◌≡◌, ◌++◌, length}
use Rattle.b2_progfile.specs.Programs.{all_line_bytes}
use Rattle.b2_progfile.specs.Saving.{lines_between}
use Rattle.b2_progfile.proofs.Numbers.{AllLines}
use Rattle.b2_progfile.proofs.spelling.add_lines.Given as goal

-- what was added, with the lines that are left, is the whole; and where those that are left are lines, all are
abbrev pub invariant-loop-line : goal.invariant-loop-line
invariant-loop-line l = record {
  bytes : l.out.items ++ all_line_bytes l.left ≡ l.fn.out.items ++ all_line_bytes (lines_between l.from l.to l.t.lines);
  lines : AllLines l.left → AllLines (lines_between l.from l.to l.t.lines);
}

abbrev pub decreases-loop-line : goal.decreases-loop-line
decreases-loop-line l = length l.left
