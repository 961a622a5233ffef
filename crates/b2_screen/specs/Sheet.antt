-- 24 rows of 80 cells with a cursor, and what each item that is shown does to them.
use Rattle.std.specs.Prelude.{ℕ, suc, ◌+◌, ◌-◌, ◌&&◌, ◌||◌, ◌==◌, ◌≤◌, ◌<◌, nat_le, nat_lt, Bool, List, [], ◌∷◌, ◌++◌, drop, get_or, set, replicate, if◌then◌else◌}
use Rattle.b2_base.specs.Byte as byte
use Rattle.b2_screen.specs.declared.sheet.Rectangle.{Rectangle}

pub record SheetState : Type 0 where
  pub rows : List (List ℕ)
  pub row : ℕ
  pub column : ℕ

-- how many rows there are, and how many cells a row has
abbrev pub row_count : ℕ
row_count = 24

abbrev pub row_width : ℕ
row_width = 80

abbrev pub blank_row : List ℕ
blank_row = replicate row_width byte.blank

abbrev pub blank_rows : List (List ℕ)
blank_rows = replicate row_count blank_row

-- blank cells, and the cursor at the first of them
abbrev pub blank_sheet : SheetState
blank_sheet = record { rows = blank_rows; row = 0; column = 0 }

abbrev pub at_home : SheetState → SheetState
at_home s = record s { row = 0; column = 0 }

abbrev pub moved_left : SheetState → SheetState
moved_left s = record s { column = s.column - 1 }

abbrev pub moved_right : SheetState → SheetState
moved_right s = if nat_lt s.column (row_width - 1) then record s { column = s.column + 1 } else s

abbrev pub moved_up : SheetState → SheetState
moved_up s = record s { row = s.row - 1 }

abbrev pub at_row_start : SheetState → SheetState
at_row_start s = record s { column = 0 }

-- the first row goes, and a blank one comes last
abbrev pub scrolled : List (List ℕ) → List (List ℕ)
scrolled rows = drop 1 rows ++ blank_row ∷ []

-- the first column of the next row; on the last row all rows move up by one
abbrev pub on_next_row : SheetState → SheetState
on_next_row s =
    if s.row == row_count - 1 then record s { rows = scrolled s.rows; column = 0 }
    else record s { row = s.row + 1; column = 0 }

-- a byte in the cell under the cursor, which goes on by one
abbrev pub cell_filled : ℕ → SheetState → SheetState
cell_filled b s = record s { rows = set s.rows s.row (set (get_or s.rows s.row []) s.column b); column = s.column + 1 }

-- a glyph: after the last cell of a row it stands on the next row
abbrev pub glyph_written : ℕ → SheetState → SheetState
glyph_written b s = cell_filled b (if s.column == row_width then on_next_row s else s)

-- numbers in sequences are counted from the blank; whether a byte gives one from low to high
abbrev pub gives : ℕ → ℕ → ℕ → Bool
gives low high b = nat_le (byte.blank + low) b && nat_le b (byte.blank + high)

-- the cursor at a row and a column that lie on the screen
abbrev pub cursor_placed : ℕ → ℕ → SheetState → SheetState
cursor_placed r c s =
    if gives 0 (row_count - 1) r && gives 0 (row_width - 1) c then record s { row = r - byte.blank; column = c - byte.blank } else s

-- what the sides of an outline are drawn with
abbrev pub bar : ℕ
bar = 124

-- whether a place is one of the n from the first on, and whether it is the first or the last of them
abbrev pub lies_among : ℕ → ℕ → ℕ → Bool
lies_among from n i = nat_le from i && nat_lt i (from + n)

abbrev pub is_end : ℕ → ℕ → ℕ → Bool
is_end from n i = (i == from) || (i == from + n - 1)

-- whether a cell lies in an outline: its frame says where its first cell stands, and how many rows and columns it has
abbrev pub is_on : Rectangle → ℕ → ℕ → Bool
is_on f i j = lies_among f.row f.rows i && lies_among f.column f.columns j

-- the cell of row i and column j under an outline: corners, the first and the last row, the sides; others stay
abbrev pub outlined_cell : Rectangle → ℕ → ℕ → ℕ → ℕ
outlined_cell f i j cell =
    if is_on f i j
    then (if is_end f.row f.rows i
    then (if is_end f.column f.columns j then byte.plus else byte.minus)
    else (if is_end f.column f.columns j then bar else cell))
    else cell

-- each element by its place, the first of which is i
unfoldable pub each_from : {X : Type 0} → (ℕ → X → X) → ℕ → List X → List X
each_from f i [] = []
each_from f i (x ∷ xs) = f i x ∷ each_from f (suc i) xs

abbrev pub outlined_row : Rectangle → ℕ → List ℕ → List ℕ
outlined_row f i row = each_from (outlined_cell f i) 0 row

-- an outline with its first cell at the cursor, where it has 2 to 24 rows and 2 to 80 columns
abbrev pub outlined : ℕ → ℕ → SheetState → SheetState
outlined h w s =
    if gives 2 row_count h && gives 2 row_width w
    then record s { rows = each_from (outlined_row (record { row = s.row; column = s.column; rows = h - byte.blank; columns = w - byte.blank })) 0 s.rows }
    else s

-- a frame that begins at a cursor and has a size that an outline may have
abbrev pub IsDrawable : Rectangle → Type 0
IsDrawable f = (f.row < row_count) × (f.column ≤ row_width) × (2 ≤ f.rows) × (f.rows ≤ row_count) × (2 ≤ f.columns) × (f.columns ≤ row_width)
