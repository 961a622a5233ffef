-- Lines that stay within a width, and items after others.
use Rattle.std.proofs.Common.{◌≡◌, ℕ, zero, suc, ◌+◌, ◌-◌, ◌/◌, ◌%◌, ◌<◌, ◌≤◌, min, replicate, cond, ◌==◌, ◌&&◌, ◌||◌, nat_lt, Bool, true, false, not, if◌then◌else◌, List, [], ◌∷◌, ◌++◌, refl, sym, ap, ◌∙◌, append_assoc, arith, eqb-true, inl, inr}
use Rattle.std.specs.List.{list_all}
use Rattle.std.proofs.lemmas.Bool.{le-ltb, lt-ltb, cases_lt}
use Rattle.std.proofs.lemmas.List.Sums.{fold-append}
use native.Mathlib.Nat.{mul-mod_left}
use Rattle.b2_print.specs.Columns.{next_column, column_after, passes, placed}
use Rattle.b2_print.specs.declared.layout.Item.{Item}
use Rattle.b2_print.specs.declared.layout.Item.TheVariants as item
use Rattle.b2_print.specs.Layout.{item_text, stands_on_line, item_placed, column_past, item_column, layout, items_column, fits_line, next_zone, zone_text}

pub or_assoc : (a b c : Bool) → (a || (b || c)) ≡ ((a || b) || c)
or_assoc true b c = refl
or_assoc false b c = refl

-- a text passes the width in its first part or after it
passes-append : (width column : ℕ) (xs ys : List ℕ) → passes width column (xs ++ ys) ≡ (passes width column xs || passes width (column_after column xs) ys)
passes-append width column [] ys = refl
passes-append width column (x ∷ xs) ys =
    ap (λ t. nat_lt width (next_column column x) || t) (passes-append width (next_column column x) xs ys)
    ∙ or_assoc (nat_lt width (next_column column x)) (passes width (next_column column x) xs) (passes width (column_after (next_column column x) xs) ys)

pub none-passes : (b : Bool) → not b ≡ true → b ≡ false
none-passes true h = absurd (cc)
none-passes false h = refl

pub both : (a b : Bool) → (a && b) ≡ true → (a ≡ true) × (b ≡ true)
both true b h = (refl, h)
both false b h = absurd (cc)

-- an item that has room on a line of its own is placed within the width
placed_if : (width column : ℕ) (there own : List ℕ) (start here : Bool) → (start ≡ true → there ≡ own) → passes width column there ≡ here → (start ≡ true → passes width column own ≡ false) → passes width 0 own ≡ false →
    passes width column (if not start && here then 10 ∷ own else there) ≡ false
placed_if width column there own true here same at_here alone fits = ap (passes width column) (same refl) ∙ alone refl
placed_if width column there own false true same at_here alone fits =
    let newline : nat_lt width 0 ≡ false = le-ltb width 0 (omega arith) in
    ap (λ t. t || passes width 0 own) newline ∙ fits
placed_if width column there own false false same at_here alone fits = at_here

standing-fits : (b p : Bool) → b ≡ true → not (b && p) ≡ true → p ≡ false
standing-fits true p s h = none-passes p h
standing-fits false p s h = absurd (cc)

pub placed-fits : (width column : ℕ) (it : Item) → stands_on_line it ≡ true → fits_line width it ≡ true → passes width column (item_placed width column it) ≡ false
placed-fits width column it s h =
    let fits : passes width 0 (item_text width 0 it) ≡ false = standing-fits (stands_on_line it) (passes width 0 (item_text width 0 it)) s h in
    ap (λ t. passes width column (if t then placed width column (λ c. item_text width c it) else item_text width column it)) s
    ∙ placed_if width column (item_text width column it) (item_text width 0 it) (column == 0) (passes width column (item_text width column it))
    (λ e. ap (λ c. item_text width c it) (eqb-true column 0 e)) refl
    (λ e. ap (λ c. passes width c (item_text width 0 it)) (eqb-true column 0 e) ∙ fits) fits

-- the column after an item on the line
pub line-column : (column : ℕ) (it : Item) (text : List ℕ) → stands_on_line it ≡ true → column_past column it text ≡ column_after column text
line-column column (item.Number x) text s = refl
line-column column (item.Alpha bytes) text s = refl
line-column column (item.Tab n) text s = refl
line-column column (item.Hex bytes) text s = refl
line-column column item.Zone text s = refl
line-column column item.Line text s = refl
line-column column (item.At row to erase) text s = absurd (cc)
line-column column (item.Outline rows columns) text s = absurd (cc)

pub layout-fits : (width column : ℕ) (items : List Item) → list_all stands_on_line items ≡ true → list_all (fits_line width) items ≡ true →
    passes width column (layout width column items) ≡ false
layout-fits width column [] s h = refl
layout-fits width column (it ∷ items) s h =
    let stand = both (stands_on_line it) (list_all stands_on_line items) s in
    let parts = both (fits_line width it) (list_all (fits_line width) items) h in
    let text : List ℕ = item_placed width column it in
    ap (λ c. passes width column (text ++ layout width c items)) (line-column column it text stand.0)
    ∙ passes-append width column text (layout width (column_after column text) items)
    ∙ ap (λ t. t || passes width (column_after column text) (layout width (column_after column text) items)) (placed-fits width column it stand.0 parts.0)
    ∙ layout-fits width (column_after column text) items stand.1 parts.1

-- items after others
layout-append : (width column : ℕ) (items more : List Item) → layout width column (items ++ more) ≡ layout width column items ++ layout width (items_column width column items) more
layout-append width column [] more = refl
layout-append width column (it ∷ items) more =
    let next : ℕ = item_column width column it in
    ap (λ t. item_placed width column it ++ t) (layout-append width next items more)
    ∙ sym (append_assoc (item_placed width column it) (layout width next items) (layout width (items_column width next items) more))

pub items-go_on : (width column : ℕ) (items more : List Item) →
    (layout width column (items ++ more) ≡ layout width column items ++ layout width (items_column width column items) more)
    × (items_column width column (items ++ more) ≡ items_column width (items_column width column items) more)
items-go_on width column items more = (layout-append width column items more, fold-append (item_column width) column items more)

pub blanks-column : (n column : ℕ) → column + n ≤ 65535 → column_after column (replicate n 32) ≡ column + n
blanks-column zero column h = omega arith
blanks-column (suc n) column h =
    let next : min (column + 1) 65535 ≡ column + 1 = omega arith in
    ap (λ c. column_after c (replicate n 32)) next ∙ blanks-column n (column + 1) (omega arith) ∙ omega arith

pub zone-ends : (width column : ℕ) → width ≤ 65535 → column_after column (zone_text width column) % 16 ≡ 0
zone-ends width column h =
    let before : column < next_zone column = omega arith in
    elim (cases_lt (next_zone column) width) [
      | inl within ↦
          let to_next : column + (next_zone column - column) ≡ next_zone column = omega arith in
          ap (λ t. column_after column (cond t (replicate (next_zone column - column) 32) (10 ∷ [])) % 16) (lt-ltb (next_zone column) width within)
          ∙ ap (λ c. c % 16) (blanks-column (next_zone column - column) column (omega arith) ∙ to_next) ∙ mul-mod_left (column / 16 + 1) 16
      | inr past ↦
          ap (λ t. column_after column (cond t (replicate (next_zone column - column) 32) (10 ∷ [])) % 16) (le-ltb (next_zone column) width past)
    ]
