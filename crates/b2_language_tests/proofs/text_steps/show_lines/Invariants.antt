use Rattle.std.proofs.Common.{length}
use Rattle.b2_language_tests.proofs.text_steps.show_lines.Given as goal

-- the lines that are still to come
abbrev pub decreases-loop-line : goal.decreases-loop-line
decreases-loop-line l = length l.left
