-- The rows of a screen as lines.
use Rattle.std.specs.Prelude.{ℕ, ◌-◌, ◌==◌, Bool, List, [], ◌∷◌, ◌++◌, length, take, get_or}
use Rattle.std.specs.List.{flat_map, range_with_len, suffix_len}
use Rattle.b2_base.specs.Byte as byte
use Rattle.b2_screen.specs.Sheet.{row_count}
use Rattle.b2_screen.specs.Shown.{ScreenState}

abbrev pub is_blank : ℕ → Bool
is_blank cell = cell == byte.blank

-- a row without the blanks at its end
abbrev pub without_last_blanks : List ℕ → List ℕ
without_last_blanks row = take (length row - suffix_len is_blank row) row

-- so, and a newline
abbrev pub row_line : List ℕ → List ℕ
row_line row = without_last_blanks row ++ byte.newline ∷ []

-- the line of each of the 24 rows
abbrev pub lines_shown : ScreenState → List ℕ
lines_shown screen = flat_map (λ r. row_line (get_or screen.sheet.rows r [])) (range_with_len 0 row_count)
