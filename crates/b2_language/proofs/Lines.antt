-- A line of the program is the same, whatever the immediate line is.
use Rattle.std.proofs.Common.{◌≡◌, ℕ, true, true≢false, List, sym, Option, Some, None, is_some}
use Rattle.b2_text.specs.Program.{Lines}
use Rattle.b2_access.specs.Placed.{line_named}

pub line_kept : (immediate other : Option (List ℕ)) (home : Lines) (n : Option ℕ) (line : List ℕ) → is_some n ≡ true → line_named immediate home n ≡ Some line → line_named other home n ≡ Some line
line_kept immediate other home None line is h = absurd (true≢false (sym is))
line_kept immediate other home (Some n) line is h = h
