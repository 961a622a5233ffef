-- The column of a screen that reads bytes one after another, and the sequences among them whole.
use Rattle.std.specs.Prelude.{ℕ, ◌-◌, ◌==◌, ◌||◌, nat_lt, Bool, true, false, not, if◌then◌else◌, List, [], ◌∷◌}
use Rattle.std.specs.List.{fold, list_all}
use Rattle.b2_base.specs.Byte as byte
use Rattle.b2_print.specs.Columns.{next_column}
use Rattle.b2_print.specs.declared.layout.Item.{Item}
use Rattle.b2_print.specs.declared.layout.Item.TheVariants as item

-- A column, and how far a sequence has come: none has begun, its first byte was read, its kind, or the first of its two
-- numbers.
pub data ColumnReading : Type 0 where
  between : ℕ → ColumnReading
  begun : ℕ → ColumnReading
  of_kind : ℕ → ℕ → ColumnReading
  with_first : ℕ → ℕ → ColumnReading

abbrev pub column_of : ColumnReading → ℕ
column_of (between column) = column
column_of (begun column) = column
column_of (of_kind column kind) = column
column_of (with_first column kind) = column

-- The second number of a placing is its column; other sequences leave the column. Bytes outside of them count.
abbrev pub read_byte : ColumnReading → ℕ → ColumnReading
read_byte (between column) b = if b == byte.escape then begun column else between (next_column column b)
read_byte (begun column) b = if (b == byte.upper_a) || (b == byte.upper_b) then of_kind column b else between column
read_byte (of_kind column kind) b = with_first column kind
read_byte (with_first column kind) b = between (if kind == byte.upper_a then b - byte.blank else column)

abbrev pub read_on : ColumnReading → List ℕ → ColumnReading
read_on reading text = fold read_byte reading text

-- whether the column is above the width after one of the bytes
abbrev pub reads_past : ℕ → ColumnReading → List ℕ → Bool
reads_past width reading [] = false
reads_past width reading (b ∷ bs) =
    nat_lt width (column_of (read_byte reading b)) || reads_past width (read_byte reading b) bs

-- whether an item begins no sequence by bytes of its own, as alpha values could
abbrev pub is_other_byte : ℕ → Bool
is_other_byte b = not (b == byte.escape)

abbrev pub begins_none : Item → Bool
begins_none (item.Alpha bytes) = list_all is_other_byte bytes.now
begins_none it = true
