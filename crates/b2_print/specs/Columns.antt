-- Where the next byte goes. Columns are counted from 0.
use Rattle.std.specs.Prelude.{ℕ, ◌+◌, ◌==◌, ◌&&◌, ◌||◌, nat_lt, min, not, Bool, false, if◌then◌else◌, List, [], ◌∷◌}
use Rattle.std.specs.List.{fold}
use Rattle.b2_base.specs.Byte as byte

-- A newline and a return lead to the first column, and other bytes below a space stay in theirs. The count of columns
-- ends at 65,535.
abbrev pub next_column : ℕ → ℕ → ℕ
next_column column b = if b == byte.newline || b == byte.carriage_return then 0 else (if nat_lt b byte.blank then column else min (column + 1) 65535)

-- the column after a text
abbrev pub column_after : ℕ → List ℕ → ℕ
column_after column text = fold next_column column text

-- whether a text passes the width: the column after one of its bytes is above it
abbrev pub passes : ℕ → ℕ → List ℕ → Bool
passes width column [] = false
passes width column (b ∷ bs) = nat_lt width (next_column column b) || passes width (next_column column b) bs

-- What is shown at a column, by the column where it begins: on a new line where it would pass the width, unless it is
-- at the beginning of its line.
abbrev pub placed : ℕ → ℕ → (ℕ → List ℕ) → List ℕ
placed width column shown = if not (column == 0) && passes width column (shown column) then byte.newline ∷ shown 0 else shown column
