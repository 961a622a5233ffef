-- What holds of layouts and images.
use Rattle.std.specs.Prelude.{◌≡◌, ◌≤◌, ◌%◌, ℕ, true, false, List, ◌++◌, length}
use Rattle.std.specs.List.{list_all, flat_map}
use Rattle.b2_dec.specs.declared.values.Value.{Value}
use Rattle.b2_print.specs.Columns.{column_after, passes}
use Rattle.b2_print.specs.declared.layout.Item.{Item}
use Rattle.b2_print.specs.Layout.{layout, items_column, stands_on_line, are_on_screen, fits_line, zone_text}
use Rattle.b2_print.specs.Screen.{screen_columns}
use Rattle.b2_print.specs.Reading.{between, read_on, reads_past, begins_none}
use Rattle.b2_print.specs.Images.{Field, field_width, pieces_of, piece_bytes}
use Rattle.b2_print.specs.Filling.{filled}

-- Items after others begin at the column after those.
abbrev pub ItemsGoOn : Type 0
ItemsGoOn = (width column : ℕ) (items more : List Item) →
    (layout width column (items ++ more) ≡ layout width column items ++ layout width (items_column width column items) more)
    × (items_column width column (items ++ more) ≡ items_column width (items_column width column items) more)

-- Where items stand on the line and each has room on a line of its own, no line passes the width.
abbrev pub LinesFit : Type 0
LinesFit = (width column : ℕ) (items : List Item) → list_all stands_on_line items ≡ true → list_all (fits_line width) items ≡ true →
    passes width column (layout width column items) ≡ false

-- The column after items is the one that a screen is at that reads their bytes, where no alpha value begins a sequence.
abbrev pub ColumnIsRead : Type 0
ColumnIsRead = (width column : ℕ) (items : List Item) → list_all begins_none items ≡ true →
    read_on (between column) (layout width column items) ≡ between (items_column width column items)

-- And where each item on the line has room on one of its own, and items for the screen lie on one of 80 columns, the
-- screen's column is never above the width.
abbrev pub ScreenStaysWithin : Type 0
ScreenStaysWithin = (width column : ℕ) (items : List Item) → column ≤ width → screen_columns ≤ width →
    list_all begins_none items ≡ true → list_all (fits_line width) items ≡ true → are_on_screen items ≡ true →
    reads_past width (between column) (layout width column items) ≡ false

-- A zone ends at a column that 16 divides.
abbrev pub ZonesEnd : Type 0
ZonesEnd = (width column : ℕ) → width ≤ 65535 → column_after column (zone_text width column) % 16 ≡ 0

-- The pieces of an image, written one after another, are the image.
abbrev pub PiecesAreTheImage : Type 0
PiecesAreTheImage = (image : List ℕ) → flat_map piece_bytes (pieces_of image) ≡ image

-- A value takes as many bytes as its field.
abbrev pub FieldsKeepTheirWidth : Type 0
FieldsKeepTheirWidth = (f : Field) (v : Value) → length (filled f v) ≡ field_width f
