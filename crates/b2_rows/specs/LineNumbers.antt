-- The numbers of lines that a tree names.
use Rattle.std.specs.Prelude.{ℕ, ◌==◌, Option, None, Some, if◌then◌else◌}
use Rattle.b2_atom.specs.Tokens.Token.{Lined}
use Rattle.b2_atom.specs.Tree.{Trees}
use Rattle.b2_atom.specs.Tree.Trees.{Put, In}
use Rattle.b2_rows.specs.Values.{line_of}

-- the number of the line that is named
abbrev pub line_in : Trees → ℕ
line_in (Put (Lined high low) end) = line_of high low
line_in t = 0

-- the line after a comma, where one is named
abbrev pub second_line : Trees → ℕ
second_line (Put comma line) = line_in line
second_line t = 0

abbrev pub second_named : Trees → Option ℕ
second_named (In n second end) = if n == 1 then Some (second_line second) else None
second_named t = None

-- the first of the lines that are named, and the last where a second one is named
abbrev pub lines_from : Trees → ℕ × Option ℕ
lines_from (Put (Lined high low) more) = (line_of high low, second_named more)
lines_from t = (0, Some 9999)

-- or all lines, where none is named
abbrev pub named_lines : Trees → ℕ × Option ℕ
named_lines (In n lines end) = if n == 1 then lines_from lines else (0, Some 9999)
named_lines t = (0, Some 9999)
