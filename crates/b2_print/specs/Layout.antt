-- What the items of PRINT become, on lines of a width.
use Rattle.std.specs.Prelude.{ℕ, ◌+◌, ◌-◌, ◌*◌, ◌/◌, ◌&&◌, nat_lt, nat_le, Bool, true, false, not, if◌then◌else◌, List, [], ◌∷◌, ◌++◌, replicate}
use Rattle.std.specs.List.{flat_map, fold, list_all}
use Rattle.b2_base.specs.Byte as byte
use Rattle.b2_base.specs.Lexical.{hex_pair}
use Rattle.b2_dectext.specs.Printed.{printed}
use Rattle.b2_print.specs.Columns.{column_after, passes, placed}
use Rattle.b2_print.specs.Screen.{place_text, outline_bytes, screen_rows, screen_columns}
use Rattle.b2_print.specs.declared.layout.Item.{Item}
use Rattle.b2_print.specs.declared.layout.Item.TheVariants as item

-- the column at which the next zone begins: the next one that 16 divides
abbrev pub next_zone : ℕ → ℕ
next_zone column = (column / 16 + 1) * 16

-- blanks up to the next zone, or a newline where that begins at the width or past it
abbrev pub zone_text : ℕ → ℕ → List ℕ
zone_text width column =
    if nat_lt (next_zone column) width then replicate (next_zone column - column) byte.blank else byte.newline ∷ []

-- what an item shows at a column
abbrev pub item_text : ℕ → ℕ → Item → List ℕ
item_text width column (item.Number x) = printed x
item_text width column (item.Alpha bytes) = bytes.now
item_text width column (item.Tab n) = replicate (n - column) byte.blank
item_text width column (item.Hex bytes) = flat_map hex_pair bytes.now
item_text width column item.Zone = zone_text width column
item_text width column item.Line = byte.newline ∷ []
item_text width column (item.At row to erase) = place_text row to erase
item_text width column (item.Outline rows columns) = outline_bytes rows columns

-- whether an item stands on the line, as all do but those for the screen as a whole
abbrev pub stands_on_line : Item → Bool
stands_on_line (item.At row to erase) = false
stands_on_line (item.Outline rows columns) = false
stands_on_line it = true

-- An item on the line has its place by the width. The others go where they say.
abbrev pub item_placed : ℕ → ℕ → Item → List ℕ
item_placed width column it = if stands_on_line it then placed width column (λ c. item_text width c it) else item_text width column it

-- The column after an item that shows a text: its own after a place on the screen, the same after an outline. After
-- other items it is the column after their bytes.
abbrev pub column_past : ℕ → Item → List ℕ → ℕ
column_past column (item.At row to erase) text = to
column_past column (item.Outline rows columns) text = column
column_past column it text = column_after column text

abbrev pub item_column : ℕ → ℕ → Item → ℕ
item_column width column it = column_past column it (item_placed width column it)

-- items one after another, and the column after them
abbrev pub layout : ℕ → ℕ → List Item → List ℕ
layout width column [] = []
layout width column (it ∷ its) = item_placed width column it ++ layout width (item_column width column it) its

abbrev pub items_column : ℕ → ℕ → List Item → ℕ
items_column width column items = fold (item_column width) column items

-- whether the numbers of an item for the screen lie on the screen
abbrev pub is_on_screen : Item → Bool
is_on_screen (item.At row column erase) =
    nat_lt row screen_rows && nat_lt column screen_columns && nat_le (column + erase) screen_columns
is_on_screen (item.Outline rows columns) =
    nat_le 2 rows && nat_le rows screen_rows && nat_le 2 columns && nat_le columns screen_columns
is_on_screen it = true

abbrev pub are_on_screen : List Item → Bool
are_on_screen items = list_all is_on_screen items

-- whether an item has room on a line of its own, where it stands on one
abbrev pub fits_line : ℕ → Item → Bool
fits_line width it = not (stands_on_line it && passes width 0 (item_text width 0 it))
