-- The screen that bytes leave: they are read into items, and the items change the sheet one after the other.
use Rattle.std.specs.Prelude.{ℕ, ◌||◌, ◌==◌, Bool, List, [], ◌∷◌, ◌++◌, if◌then◌else◌}
use Rattle.b2_base.specs.Byte as byte
use Rattle.b2_base.specs.Lexical.{is_printable}
use Rattle.b2_screen.specs.Sheet.{SheetState, blank_sheet, at_home, moved_left, moved_right, moved_up, at_row_start, on_next_row, glyph_written, cursor_placed, outlined}
use Rattle.b2_screen.specs.declared.sequence.SequenceKind.{SequenceKind}
use Rattle.b2_screen.specs.declared.sequence.SequenceKind.TheVariants as kind
use Rattle.b2_screen.specs.declared.sequence.Sequence.{Sequence}
use Rattle.b2_screen.specs.declared.sequence.Sequence.TheVariants as sequence

-- the bytes that move the cursor
abbrev pub home : ℕ
home = 1

abbrev pub clear : ℕ
clear = 3

abbrev pub leftward : ℕ
leftward = 8

abbrev pub rightward : ℕ
rightward = 9

abbrev pub upward : ℕ
upward = 12

pub data ScreenItem : Type 0 where
  glyph : ℕ → ScreenItem
  move_home : ScreenItem
  wipe : ScreenItem
  move_left : ScreenItem
  move_right : ScreenItem
  next_row : ScreenItem
  move_up : ScreenItem
  row_start : ScreenItem
  placing : ℕ → ℕ → ScreenItem
  outline : ℕ → ℕ → ScreenItem
  nothing : ScreenItem

-- the item that a byte is by itself
abbrev pub byte_item : ℕ → ScreenItem
byte_item b =
    if is_printable b then glyph b
    else (if b == home then move_home
    else (if b == clear then wipe
    else (if b == leftward then move_left
    else (if b == rightward then move_right
    else (if b == byte.newline then next_row
    else (if b == upward then move_up
    else (if b == byte.carriage_return then row_start
    else nothing)))))))

-- what an item does to the sheet
abbrev pub effect : ScreenItem → SheetState → SheetState
effect (glyph b) s = glyph_written b s
effect move_home s = at_home s
effect wipe s = blank_sheet
effect move_left s = moved_left s
effect move_right s = moved_right s
effect next_row s = on_next_row s
effect move_up s = moved_up s
effect row_start s = at_row_start s
effect (placing r c) s = cursor_placed r c s
effect (outline h w) s = outlined h w s
effect nothing s = s

unfoldable pub effects : List ScreenItem → SheetState → SheetState
effects [] s = s
effects (i ∷ is) s = effects is (effect i s)

-- the items of a list of bytes, and the unfinished sequence at its end
pub record BytesRead : Type 0 where
  pub items : List ScreenItem
  pub rest : List ℕ

abbrev pub unfinished : List ℕ → BytesRead
unfinished bytes = record { items = []; rest = bytes }

abbrev pub after_item : ScreenItem → BytesRead → BytesRead
after_item i r = record { items = i ∷ r.items; rest = r.rest }

-- the two kinds of sequences by their second byte: each has two bytes more
abbrev pub is_kind : ℕ → Bool
is_kind b = (b == byte.upper_a) || (b == byte.upper_b)

abbrev pub item_of_kind : ℕ → ℕ → ℕ → ScreenItem
item_of_kind k a b = if k == byte.upper_a then placing a b else outline a b

unfoldable mutual
  pub bytes_read : List ℕ → BytesRead
  bytes_read [] = unfinished []
  bytes_read (b ∷ bs) = if b == byte.escape then read_after_escape bs else after_item (byte_item b) (bytes_read bs)

  pub read_after_escape : List ℕ → BytesRead
  read_after_escape [] = unfinished (byte.escape ∷ [])
  read_after_escape (k ∷ bs) = if is_kind k then read_of_kind k bs else after_item nothing (bytes_read bs)

  pub read_of_kind : ℕ → List ℕ → BytesRead
  read_of_kind k [] = unfinished (byte.escape ∷ k ∷ [])
  read_of_kind k (a ∷ []) = unfinished (byte.escape ∷ k ∷ a ∷ [])
  read_of_kind k (a ∷ b ∷ bs) = after_item (item_of_kind k a b) (bytes_read bs)

-- a screen: its sheet, and the bytes of a sequence that is not finished
pub record ScreenState : Type 0 where
  pub sheet : SheetState
  pub rest : List ℕ

abbrev pub read_onto : BytesRead → SheetState → ScreenState
read_onto r sheet = record { sheet = effects r.items sheet; rest = r.rest }

-- the screen after further bytes
abbrev pub fed : List ℕ → ScreenState → ScreenState
fed bytes s = read_onto (bytes_read (s.rest ++ bytes)) s.sheet

abbrev pub blank_screen : ScreenState
blank_screen = record { sheet = blank_sheet; rest = [] }

-- the screen that a list of bytes leaves
abbrev pub screen_after : List ℕ → ScreenState
screen_after bytes = fed bytes blank_screen

-- the bytes of a sequence that is not finished
abbrev pub kind_byte : SequenceKind → ℕ
kind_byte kind.Placing = byte.upper_a
kind_byte kind.Outline = byte.upper_b

abbrev pub sequence_bytes : Sequence → List ℕ
sequence_bytes sequence.NotBegun = []
sequence_bytes sequence.Begun = byte.escape ∷ []
sequence_bytes (sequence.OfKind k) = byte.escape ∷ kind_byte k ∷ []
sequence_bytes (sequence.WithFirst k a) = byte.escape ∷ kind_byte k ∷ a ∷ []
