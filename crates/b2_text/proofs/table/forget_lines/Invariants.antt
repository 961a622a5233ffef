use Rattle.std.proofs.Common.{◌≡◌, ℕ, List, drop, get_or, length}
use Rattle.b2_text.specs.Blocks.{lines_laid}
use Rattle.b2_text.specs.Numbered.{forgotten}
use Rattle.b2_text.proofs.table.forget_lines.Given as goal

-- the lines from here on make the table that is wanted
abbrev pub invariant-loop-i : goal.invariant-loop-i
invariant-loop-i l = record {
  long : length l.table.items ≡ length l.fn.table.items;
  rest : (n : ℕ) (block : List ℕ) → forgotten (get_or l.table.items n 0) n (drop l.i (lines_laid block l.gone)) ≡ forgotten (get_or l.fn.table.items n 0) n (lines_laid block l.gone);
}
