-- Sequences of bytes for the screen as a whole: the cursor at a place, and a box. Their numbers are counted from the blank.
use Rattle.std.specs.Prelude.{ℕ, ◌+◌, ◌==◌, if◌then◌else◌, List, [], ◌∷◌, ◌++◌, replicate}
use Rattle.b2_base.specs.Byte as byte

-- the cursor at a row and a column
abbrev pub placing_bytes : ℕ → ℕ → List ℕ
placing_bytes row column = byte.escape ∷ byte.upper_a ∷ (byte.blank + row) ∷ (byte.blank + column) ∷ []

-- a box of rows and columns
abbrev pub outline_bytes : ℕ → ℕ → List ℕ
outline_bytes rows columns = byte.escape ∷ byte.upper_b ∷ (byte.blank + rows) ∷ (byte.blank + columns) ∷ []

-- The cursor at a row and a column. Where cells are erased, that many blanks are shown there, and the cursor goes back.
abbrev pub place_text : ℕ → ℕ → ℕ → List ℕ
place_text row column erase =
    placing_bytes row column ++ (if erase == 0 then [] else replicate erase byte.blank ++ placing_bytes row column)

-- how many rows and columns a screen has
abbrev pub screen_rows : ℕ
screen_rows = 24

abbrev pub screen_columns : ℕ
screen_columns = 80
