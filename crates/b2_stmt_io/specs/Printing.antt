-- What PRINT shows, by its tree: items, which are laid out on lines of a width.
use Rattle.std.specs.Prelude.{◌≡◌, ℕ, ◌-◌, ◌==◌, Bool, true, false, List, [], ◌∷◌, ◌++◌, Option, Some, None, is_some, Result, Ok, Err, if◌then◌else◌}
use Rattle.std.specs.Borrow.{Bor}
use Rattle.b2_base.specs.Refusals.{IsRefused}
use Rattle.b2_base.specs.declared.codes.Fault.{Fault}
use Rattle.b2_base.specs.declared.codes.TheConstants.{P48_DEVICE, S17_NUMERIC, S22_WORD}
use Rattle.b2_print.specs.Layout.{item_column, item_placed, items_column, layout}
use Rattle.b2_print.specs.Screen.{screen_columns, screen_rows}
use Rattle.b2_print.specs.declared.layout.Item.{Item}
use Rattle.b2_print.specs.declared.layout.Item.TheVariants as item
use Rattle.b2_atom.specs.Words.{Text}
use Rattle.b2_atom.specs.Tree.{Trees}
use Rattle.b2_atom.specs.Tree.Trees.{Put, In}
use Rattle.b2_expr.specs.Answers.{◌>>=◌}
use Rattle.b2_expr.specs.Functions.{whole_between}
use Rattle.b2_expr.specs.Scope.{Context}
use Rattle.b2_expr.specs.Value.{branch_of, text, value}
use Rattle.b2_expr.specs.declared.operators.Level.TheVariants as level
use Rattle.b2_stmt_io.specs.Outlets.{is_terminal}
use Rattle.b2_stmt_io.specs.declared.outlets.Outlet.{Outlet}
use Rattle.b2_stmt_io.specs.declared.printing.Shown.{Shown}

-- what items are evaluated over, and where they are shown
pub record Page : Type 0 where
  pub context : Context
  pub outlet : Outlet

-- TAB: blanks up to a column from 0 to 255
abbrev pub tab_in : Context → Trees → Result Item ℕ
tab_in s (Put word (In n sum close)) = value s level.Sum sum >>= (λ x. whole_between 0 255 x >>= (λ to. Ok (item.Tab to)))
tab_in s t = Err S22_WORD

-- bytes as an item shows them: where they lie in memory makes no difference
abbrev pub seen_anywhere : List ℕ → Bor (List ℕ)
seen_anywhere bytes = record { ref_ptr = (0, 0); now = bytes }

-- HEXOF: each byte of an alpha value as two hexadecimal digits
abbrev pub hex_item : List ℕ → Item
hex_item bytes = item.Hex (seen_anywhere bytes)

abbrev pub hex_in : Context → Trees → Result Item ℕ
hex_in s (Put word (In n a close)) = text s a >>= (λ bytes. Ok (hex_item bytes))
hex_in s t = Err S22_WORD

-- an alpha value by its bytes, and a number
abbrev pub alpha_item : List ℕ → Item
alpha_item bytes = item.Alpha (seen_anywhere bytes)

abbrev pub alpha_in : Context → Trees → Result Item ℕ
alpha_in s t = text s t >>= (λ bytes. Ok (alpha_item bytes))

abbrev pub number_in : Context → Trees → Result Item ℕ
number_in s t = value s level.Sum t >>= (λ x. Ok (item.Number x))

abbrev pub item_value : Context → Trees → Result Item ℕ
item_value s (In n a end) = if n == 1 then alpha_in s a else number_in s a
item_value s t = Err S17_NUMERIC

-- a number without its fraction, from a least to a most
abbrev pub whole_in : Context → ℕ → ℕ → Trees → Result ℕ ℕ
whole_in s least most t = value s level.Sum t >>= (λ x. whole_between least most x)

-- how many cells are erased from a column on, at most up to the end of the row: none where no number is written
abbrev pub erased_in : Context → ℕ → Trees → Result ℕ ℕ
erased_in s column (In n (Put comma (In m count end)) more) = whole_in s 0 (screen_columns - column) count
erased_in s column t = Ok 0

-- AT: the cursor at a row and a column of the screen, where cells may be erased; each number is tested where it is written
abbrev pub place_in : Context → Trees → Result Item ℕ
place_in s (In n row (Put comma (In m column more))) =
    whole_in s 0 (screen_rows - 1) row >>= (λ r. whole_in s 0 (screen_columns - 1) column >>= (λ c. erased_in s c more >>= (λ erase. Ok (item.At r c erase))))
place_in s t = Err S22_WORD

abbrev pub at_in : Context → Trees → Result Item ℕ
at_in s (Put word (In n numbers close)) = place_in s numbers
at_in s t = Err S22_WORD

-- BOX: a box of rows and columns
abbrev pub outline_in : Context → Trees → Result Item ℕ
outline_in s (In n rows (Put comma (In m columns end))) =
    whole_in s 2 screen_rows rows >>= (λ h. whole_in s 2 screen_columns columns >>= (λ w. Ok (item.Outline h w)))
outline_in s t = Err S22_WORD

abbrev pub box_in : Context → Trees → Result Item ℕ
box_in s (Put word (In n numbers close)) = outline_in s numbers
box_in s t = Err S22_WORD

-- both are for a screen, and P48 at a printer, before their numbers are evaluated
abbrev pub on_screen : Outlet → Result Item ℕ → Result Item ℕ
on_screen o it = if is_terminal o then it else Err P48_DEVICE

abbrev pub but_at_in : Page → Trees → Result Item ℕ
but_at_in s (In n a end) = if n == 1 then on_screen s.outlet (box_in s.context a) else item_value s.context a
but_at_in s t = Err S17_NUMERIC

abbrev pub but_hexof_in : Page → Trees → Result Item ℕ
but_hexof_in s (In n a end) = if n == 1 then on_screen s.outlet (at_in s.context a) else but_at_in s a
but_hexof_in s t = Err S17_NUMERIC

abbrev pub but_tab_in : Page → Trees → Result Item ℕ
but_tab_in s (In n a end) = if n == 1 then hex_in s.context a else but_hexof_in s a
but_tab_in s t = Err S17_NUMERIC

-- an item of PRINT
abbrev pub item_of : Page → Trees → Result Item ℕ
item_of s (In n a end) = if n == 1 then tab_in s.context a else but_tab_in s a
item_of s t = Err S17_NUMERIC

-- an item, or none
abbrev pub items_of : Option Item → List Item
items_of None = []
items_of (Some it) = it ∷ []

abbrev pub item_in : Page → ℕ → Trees → Result (Option Item) ℕ
item_in s n t = if n == 0 then Ok None else item_of s t >>= (λ it. Ok (Some it))

abbrev pub item_at : Page → Trees → Result (Option Item) ℕ
item_at s (In n it end) = item_in s n it
item_at s t = Ok None

-- a comma leads to the next zone, a semicolon nowhere
abbrev pub zone_where : Bool → List Item
zone_where true = item.Zone ∷ []
zone_where false = []

abbrev pub separator_in : Trees → List Item
separator_in t = zone_where (branch_of t == 1)

abbrev pub newline_where : Bool → List Item
newline_where true = item.Line ∷ []
newline_where false = []

-- separators, each with an item after it or none, and then a newline; none where a separator stands last
abbrev pub further_in : Page → Bool → Trees → Result (List Item) ℕ
further_in s line (In n (In m separator (In k it end)) more) =
    item_in s k it >>= (λ x. further_in s (is_some x) more >>= (λ its. Ok (separator_in separator ++ (items_of x ++ its))))
further_in s line t = Ok (newline_where line)

-- the items of PRINT, or the first code
abbrev pub shown_items : Page → Trees → Result (List Item) ℕ
shown_items s (Put word (In n it more)) = item_in s n it >>= (λ x. further_in s true more >>= (λ its. Ok (items_of x ++ its)))
shown_items s t = Err S22_WORD

-- items after a text, with the column after them; or their code
abbrev pub laid_after : ℕ → List ℕ → ℕ → Result (List Item) ℕ → Result (List ℕ × ℕ) ℕ
laid_after width before column (Ok its) = Ok (before ++ layout width column its, items_column width column its)
laid_after width before column (Err code) = Err code

-- what PRINT shows from a column on, where lines have a width, with the column after it
abbrev pub prints : Page → ℕ → ℕ → Trees → Result (List ℕ × ℕ) ℕ
prints s width column t = laid_after width [] column (shown_items s t)

-- An item that is shown after a text, with the column after it, and what is left of the unit; or its code, where memory
-- doesn't fail.
pub record ShowsItem (it : Result Item ℕ) (rest : Text) (width column : ℕ) (old new : List ℕ) (left : Text) (fault : Fault) (shown : Shown) : Type 0 where
  pub text : shown.refused ≡ false → (it >>= (λ x. Ok (old ++ item_placed width column x))) ≡ Ok new
  pub at : shown.refused ≡ false → (it >>= (λ x. Ok (item_column width column x))) ≡ Ok shown.column
  pub is : shown.refused ≡ false → shown.is_item ≡ true
  pub past : shown.refused ≡ false → left ≡ rest
  pub code : shown.refused ≡ true → IsRefused it fault

-- the same of an item or none
pub record ShowsMaybe (it : Result (Option Item) ℕ) (rest : Text) (width column : ℕ) (old new : List ℕ) (left : Text) (fault : Fault) (shown : Shown) : Type 0 where
  pub text : shown.refused ≡ false → (it >>= (λ x. Ok (old ++ layout width column (items_of x)))) ≡ Ok new
  pub at : shown.refused ≡ false → (it >>= (λ x. Ok (items_column width column (items_of x)))) ≡ Ok shown.column
  pub is : shown.refused ≡ false → (it >>= (λ x. Ok (is_some x))) ≡ Ok shown.is_item
  pub past : shown.refused ≡ false → left ≡ rest
  pub code : shown.refused ≡ true → IsRefused it fault
