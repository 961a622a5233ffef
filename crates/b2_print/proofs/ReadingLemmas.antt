-- What a screen reads in the bytes of a layout.
use Rattle.std.proofs.Common.{◌≡◌, ℕ, zero, suc, ◌+◌, ◌-◌, ◌≤◌, replicate, ◌==◌, ◌&&◌, ◌||◌, nat_lt, nat_le, Bool, true, false, not, if◌then◌else◌, List, [], ◌∷◌, ◌++◌, refl, sym, ap, ◌∙◌, arith, ne_eqb}
use Rattle.std.specs.List.{list_all, flat_map}
use Rattle.std.proofs.lemmas.Bool.{le-ltb, leb-true, ltb-false}
use Rattle.std.proofs.lemmas.List.Sums.{fold-append}
use Rattle.b2_base.specs.Lexical.{hex_pair}
use Rattle.b2_dectext.specs.Printed.{printed}
use Rattle.b2_print.specs.Columns.{next_column, column_after, passes, placed}
use Rattle.b2_print.specs.Screen.{placing_bytes, outline_bytes}
use Rattle.b2_print.specs.Reading.{ColumnReading, between, begun, column_of, read_byte, read_on, reads_past, is_other_byte, begins_none}
use Rattle.b2_print.specs.declared.layout.Item.{Item}
use Rattle.b2_print.specs.declared.layout.Item.TheVariants as item
use Rattle.b2_print.specs.Layout.{next_zone, item_text, stands_on_line, item_placed, item_column, layout, items_column, is_on_screen, are_on_screen, fits_line}
use Rattle.b2_print.proofs.ColumnLemmas.{or_assoc, both, none-passes, placed-fits, line-column}
use Rattle.b2_print.proofs.PlainLemmas.{is_plain, plain-blanks, plain-hex, plain-printed}

-- texts without the byte that begins a sequence
other-plain : (xs : List ℕ) → list_all is_plain xs ≡ true → list_all is_other_byte xs ≡ true
other-plain [] h = refl
other-plain (b ∷ bs) h =
    let parts = both (is_plain b) (list_all is_plain bs) h in
    let shown : 32 ≤ b = leb-true 32 b parts.0 in
    ap (λ t. t && list_all is_other_byte bs) (ap not (ne_eqb b 2 (λ e. absurd (omega (arith, e, shown))))) ∙ other-plain bs parts.1

other-blanks : (n : ℕ) → list_all is_other_byte (replicate n 32) ≡ true
other-blanks n = other-plain (replicate n 32) (plain-blanks n)

other-if : (b : Bool) (xs ys : List ℕ) → list_all is_other_byte xs ≡ true → list_all is_other_byte ys ≡ true → list_all is_other_byte (if b then xs else ys) ≡ true
other-if true xs ys h k = h
other-if false xs ys h k = k

-- an item on the line
other-item : (width column : ℕ) (it : Item) → stands_on_line it ≡ true → begins_none it ≡ true → list_all is_other_byte (item_text width column it) ≡ true
other-item width column (item.Number x) s h = other-plain (printed x) (plain-printed x)
other-item width column (item.Alpha bytes) s h = h
other-item width column (item.Tab n) s h = other-blanks (n - column)
other-item width column (item.Hex bytes) s h = other-plain (flat_map hex_pair bytes.now) (plain-hex bytes.now)
other-item width column item.Zone s h = other-if (nat_lt (next_zone column) width) (replicate (next_zone column - column) 32) (10 ∷ []) (other-blanks (next_zone column - column)) refl
other-item width column item.Line s h = refl
other-item width column (item.At row to erase) s h = absurd (cc)
other-item width column (item.Outline rows columns) s h = absurd (cc)

other-placed : (width column : ℕ) (it : Item) → stands_on_line it ≡ true → begins_none it ≡ true → list_all is_other_byte (item_placed width column it) ≡ true
other-placed width column it s h =
    ap (λ (t : Bool). list_all is_other_byte (if t then placed width column (λ c. item_text width c it) else item_text width column it)) s
    ∙ other-if (not (column == 0) && passes width column (item_text width column it)) (10 ∷ item_text width 0 it) (item_text width column it)
    (other-item width 0 it s h) (other-item width column it s h)

-- other bytes are read as they count on a line
read-other : (column : ℕ) (text : List ℕ) → list_all is_other_byte text ≡ true → read_on (between column) text ≡ between (column_after column text)
read-other column [] h = refl
read-other column (b ∷ bs) h =
    let parts = both (is_other_byte b) (list_all is_other_byte bs) h in
    ap (λ t. read_on (if t then begun column else between (next_column column b)) bs) (none-passes (b == 2) parts.0)
    ∙ read-other (next_column column b) bs parts.1

past-other : (width column : ℕ) (text : List ℕ) → list_all is_other_byte text ≡ true → reads_past width (between column) text ≡ passes width column text
past-other width column [] h = refl
past-other width column (b ∷ bs) h =
    let parts = both (is_other_byte b) (list_all is_other_byte bs) h in
    ap (λ t. nat_lt width (column_of (if t then begun column else between (next_column column b))) || reads_past width (if t then begun column else between (next_column column b)) bs)
    (none-passes (b == 2) parts.0)
    ∙ ap (λ t. nat_lt width (next_column column b) || t) (past-other width (next_column column b) bs parts.1)

past-append : (width : ℕ) (r : ColumnReading) (xs ys : List ℕ) → reads_past width r (xs ++ ys) ≡ (reads_past width r xs || reads_past width (read_on r xs) ys)
past-append width r [] ys = refl
past-append width r (x ∷ xs) ys =
    ap (λ t. nat_lt width (column_of (read_byte r x)) || t) (past-append width (read_byte r x) xs ys)
    ∙ or_assoc (nat_lt width (column_of (read_byte r x))) (reads_past width (read_byte r x) xs) (reads_past width (read_on (read_byte r x) xs) ys)

-- a placing leads to its column, an outline leaves it
its_column : (to : ℕ) → (32 + to) - 32 ≡ to
its_column to = omega arith

placing-read : (column row to : ℕ) (rest : List ℕ) → read_on (between column) (placing_bytes row to ++ rest) ≡ read_on (between to) rest
placing-read column row to rest = ap (λ c. read_on (between c) rest) (its_column to)

above-none : (width c : ℕ) (p : Bool) → c ≤ width → (nat_lt width c || p) ≡ p
above-none width c p h = ap (λ t. t || p) (le-ltb width c h)

placing-past : (width column row to : ℕ) (rest : List ℕ) → column ≤ width → to ≤ width → reads_past width (between column) (placing_bytes row to ++ rest) ≡ reads_past width (between to) rest
placing-past width column row to rest h k =
    above-none width column _ h ∙ above-none width column _ h ∙ above-none width column _ h
    ∙ ap (λ c. nat_lt width c || reads_past width (between c) rest) (its_column to)
    ∙ above-none width to _ k

-- erased cells, and the cursor at its place again
erased-read : (t : Bool) (column row to erase : ℕ) → read_on (between column) (placing_bytes row to ++ (if t then [] else replicate erase 32 ++ placing_bytes row to)) ≡ between to
erased-read true column row to erase = placing-read column row to []
erased-read false column row to erase =
    placing-read column row to (replicate erase 32 ++ placing_bytes row to)
    ∙ fold-append read_byte (between to) (replicate erase 32) (placing_bytes row to)
    ∙ ap (λ r. read_on r (placing_bytes row to)) (read-other to (replicate erase 32) (other-blanks erase))
    ∙ placing-read (column_after to (replicate erase 32)) row to []

pub blanks-within : (width n column : ℕ) → column + n ≤ width → (passes width column (replicate n 32) ≡ false) × (column_after column (replicate n 32) ≤ width)
blanks-within width zero column h = (refl, omega (arith, h))
blanks-within width (suc n) column h =
    let next : next_column column 32 ≤ column + 1 = omega arith in
    let rest = blanks-within width n (next_column column 32) (omega (arith, h, next)) in
    (above-none width (next_column column 32) _ (omega (arith, h, next)) ∙ rest.0, rest.1)

erased-past : (t : Bool) (width column row to erase : ℕ) → column ≤ width → to + erase ≤ width
    → reads_past width (between column) (placing_bytes row to ++ (if t then [] else replicate erase 32 ++ placing_bytes row to)) ≡ false
erased-past true width column row to erase h k = placing-past width column row to [] h (omega (arith, k))
erased-past false width column row to erase h k =
    let place = placing_bytes row to in
    let blanks = blanks-within width erase to k in
    placing-past width column row to (replicate erase 32 ++ place) h (omega (arith, k))
    ∙ past-append width (between to) (replicate erase 32) place
    ∙ ap (λ p. p || reads_past width (read_on (between to) (replicate erase 32)) place) (past-other width to (replicate erase 32) (other-blanks erase) ∙ blanks.0)
    ∙ ap (λ r. reads_past width r place) (read-other to (replicate erase 32) (other-blanks erase))
    ∙ placing-past width (column_after to (replicate erase 32)) row to [] blanks.1 (omega (arith, k))

outline-past : (width column rows columns : ℕ) → column ≤ width → reads_past width (between column) (outline_bytes rows columns) ≡ false
outline-past width column rows columns h =
    above-none width column _ h ∙ above-none width column _ h ∙ above-none width column _ h ∙ above-none width column _ h

-- an item
line-read : (width column : ℕ) (it : Item) → stands_on_line it ≡ true → begins_none it ≡ true → read_on (between column) (item_placed width column it) ≡ between (item_column width column it)
line-read width column it s h = read-other column (item_placed width column it) (other-placed width column it s h) ∙ ap between (sym (line-column column it (item_placed width column it) s))

item-read : (width column : ℕ) (it : Item) → begins_none it ≡ true → read_on (between column) (item_placed width column it) ≡ between (item_column width column it)
item-read width column (item.Number x) h = line-read width column (item.Number x) refl h
item-read width column (item.Alpha bytes) h = line-read width column (item.Alpha bytes) refl h
item-read width column (item.Tab n) h = line-read width column (item.Tab n) refl h
item-read width column (item.Hex bytes) h = line-read width column (item.Hex bytes) refl h
item-read width column item.Zone h = line-read width column item.Zone refl h
item-read width column item.Line h = line-read width column item.Line refl h
item-read width column (item.At row to erase) h = erased-read (erase == 0) column row to erase
item-read width column (item.Outline rows columns) h = refl

pub layout-read : (width column : ℕ) (items : List Item) → list_all begins_none items ≡ true → read_on (between column) (layout width column items) ≡ between (items_column width column items)
layout-read width column [] h = refl
layout-read width column (it ∷ items) h =
    let parts = both (begins_none it) (list_all begins_none items) h in
    let next : ℕ = item_column width column it in
    fold-append read_byte (between column) (item_placed width column it) (layout width next items)
    ∙ ap (λ r. read_on r (layout width next items)) (item-read width column it parts.0)
    ∙ layout-read width next items parts.1

-- a text that doesn't pass the width leaves the column within it
within-after : (width column : ℕ) (text : List ℕ) → column ≤ width → passes width column text ≡ false → column_after column text ≤ width
within-after width column [] h k = h
within-after width column (b ∷ bs) h k =
    let parts = neither (nat_lt width (next_column column b)) (passes width (next_column column b) bs) k in
    within-after width (next_column column b) bs (ltb-false width (next_column column b) parts.0) parts.1
  where
    neither : (a b : Bool) → (a || b) ≡ false → (a ≡ false) × (b ≡ false)
    neither true b h = absurd (cc)
    neither false b h = (refl, h)

pub record Within (width column : ℕ) (it : Item) : Type 0 where
  pub text : reads_past width (between column) (item_placed width column it) ≡ false
  pub after : item_column width column it ≤ width

line-within : (width column : ℕ) (it : Item) → column ≤ width → stands_on_line it ≡ true → begins_none it ≡ true → fits_line width it ≡ true → Within width column it
line-within width column it h s plain fits =
    let fit = placed-fits width column it s fits in
    record {
      text = past-other width column (item_placed width column it) (other-placed width column it s plain) ∙ fit;
      after = rw (line-column column it (item_placed width column it) s) (within-after width column (item_placed width column it) h fit);
    }

item-within : (width column : ℕ) (it : Item) → column ≤ width → 80 ≤ width → begins_none it ≡ true → fits_line width it ≡ true → is_on_screen it ≡ true → Within width column it
item-within width column (item.Number x) h w plain fits lies = line-within width column (item.Number x) h refl plain fits
item-within width column (item.Alpha bytes) h w plain fits lies = line-within width column (item.Alpha bytes) h refl plain fits
item-within width column (item.Tab n) h w plain fits lies = line-within width column (item.Tab n) h refl plain fits
item-within width column (item.Hex bytes) h w plain fits lies = line-within width column (item.Hex bytes) h refl plain fits
item-within width column item.Zone h w plain fits lies = line-within width column item.Zone h refl plain fits
item-within width column item.Line h w plain fits lies = line-within width column item.Line h refl plain fits
item-within width column (item.At row to erase) h w plain fits lies =
    let room : to + erase ≤ 80 = leb-true (to + erase) 80 (both (nat_lt row 24 && nat_lt to 80) (nat_le (to + erase) 80) lies).1 in
    record {
      text = erased-past (erase == 0) width column row to erase h (omega (arith, room, w));
      after = omega (arith, room, w);
    }
item-within width column (item.Outline rows columns) h w plain fits lies = record { text = outline-past width column rows columns h; after = h }

pub layout-within : (width column : ℕ) (items : List Item) → column ≤ width → 80 ≤ width →
    list_all begins_none items ≡ true → list_all (fits_line width) items ≡ true → are_on_screen items ≡ true →
    reads_past width (between column) (layout width column items) ≡ false
layout-within width column [] h w plain fits lie = refl
layout-within width column (it ∷ items) h w plain fits lie =
    let none = both (begins_none it) (list_all begins_none items) plain in
    let room = both (fits_line width it) (list_all (fits_line width) items) fits in
    let on_screen = both (is_on_screen it) (are_on_screen items) lie in
    let here = item-within width column it h w none.0 room.0 on_screen.0 in
    let next : ℕ = item_column width column it in
    past-append width (between column) (item_placed width column it) (layout width next items)
    ∙ ap (λ p. p || reads_past width (read_on (between column) (item_placed width column it)) (layout width next items)) here.text
    ∙ ap (λ r. reads_past width r (layout width next items)) (item-read width column it none.0)
    ∙ layout-within width next items here.after w none.1 room.1 on_screen.1
