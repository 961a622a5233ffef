-- Items at their place, by the column after them: numbers, blanks up to a column, and what leads to the next zone.
use Rattle.std.proofs.Common.{◌≡◌, ℕ, ◌+◌, ◌-◌, ◌<◌, ◌≤◌, min, replicate, ◌==◌, ◌&&◌, nat_lt, Bool, true, false, not, if◌then◌else◌, List, [], ◌∷◌, length, refl, sym, ap, ◌∙◌, arith}
use Rattle.std.proofs.lemmas.Bool.{lt-ltb}
use Rattle.std.proofs.lemmas.List.{length-replicate}
use Rattle.b2_dec.specs.Number.{Number}
use Rattle.b2_dectext.specs.Printed.{printed}
use Rattle.b2_print.specs.Columns.{column_after, passes}
use Rattle.b2_print.specs.declared.layout.Item.TheVariants as item
use Rattle.b2_print.specs.Layout.{item_column, item_placed, next_zone, zone_text}
use Rattle.b2_print.proofs.ColumnLemmas.{blanks-column}
use Rattle.b2_print.proofs.PlainLemmas.{plain-blanks, plain-column, plain-placed, plain-printed, some-passes, some-printed}
use Rattle.b2_print.proofs.ReadingLemmas.{blanks-within}

-- a number
pub number_placed : (width column count after : ℕ) (x : Number) (shown : List ℕ) (line : Bool) → column ≤ 65535 → shown ≡ printed x → count ≡ length (printed x)
    → after ≡ min (column + count) 65535 → line ≡ (not (column == 0) && nat_lt width after)
    → (if line then 10 ∷ shown else shown) ≡ item_placed width column (item.Number x)
number_placed width column count after x shown line h is long last begins =
    ap (λ t. if line then 10 ∷ t else t) is
    ∙ sym (plain-placed width column after (printed x) line h (some-printed x) (plain-printed x) (last ∙ ap (λ n. min (column + n) 65535) long) begins)

pub number_column : (width column count after : ℕ) (x : Number) (line : Bool) → column ≤ 65535 → count ≡ length (printed x) → count ≤ 16
    → after ≡ min (column + count) 65535 → line ≡ (not (column == 0) && nat_lt width after)
    → (if line then count else after) ≡ item_column width column (item.Number x)
number_column width column count after x line h long few last begins =
    let same : after ≡ min (column + length (printed x)) 65535 = last ∙ ap (λ n. min (column + n) 65535) long in
    ap (λ n. if line then n else after) long
    ∙ sym (ap (column_after column) (plain-placed width column after (printed x) line h (some-printed x) (plain-printed x) same begins)
    ∙ plain-column column after (printed x) line h (plain-printed x) (omega (arith, long, few)) same)

-- blanks up to a column that is not passed
tab-passes : (width column to : ℕ) → column < to → to ≤ 255 → passes width column (replicate (to - column) 32) ≡ nat_lt width to
tab-passes width column to before small =
    let blanks : List ℕ = replicate (to - column) 32 in
    let long : length blanks ≡ to - column = length-replicate (to - column) 32 in
    let last : min (column + length blanks) 65535 ≡ to = omega (arith, long, before, small) in
    some-passes width column blanks (omega (arith, before, small)) (omega (arith, long, before)) (plain-blanks (to - column)) ∙ ap (nat_lt width) last

pub tab_placed : (width column to : ℕ) (line : Bool) → column < to → to ≤ 255 → line ≡ (not (column == 0) && nat_lt width to)
    → (if line then 10 ∷ replicate to 32 else replicate (to - column) 32) ≡ item_placed width column (item.Tab to)
tab_placed width column to line before small begins =
    let whole : to - 0 ≡ to = omega arith in
    sym (ap (λ t. if not (column == 0) && t then 10 ∷ replicate (to - 0) 32 else replicate (to - column) 32) (tab-passes width column to before small)
    ∙ ap (λ t. if t then 10 ∷ replicate (to - 0) 32 else replicate (to - column) 32) (sym begins)
    ∙ ap (λ n. if line then 10 ∷ replicate n 32 else replicate (to - column) 32) whole)

tab_after : (column to : ℕ) (line : Bool) → column < to → to ≤ 255 → column_after column (if line then 10 ∷ replicate to 32 else replicate (to - column) 32) ≡ to
tab_after column to true before small = blanks-column to 0 (omega (arith, small)) ∙ omega arith
tab_after column to false before small = blanks-column (to - column) column (omega (arith, before, small)) ∙ omega (arith, before)

pub tab_column : (width column to : ℕ) (line : Bool) → column < to → to ≤ 255 → line ≡ (not (column == 0) && nat_lt width to) → to ≡ item_column width column (item.Tab to)
tab_column width column to line before small begins =
    sym (ap (column_after column) (sym (tab_placed width column to line before small begins)) ∙ tab_after column to line before small)

-- blanks up to the next zone, where the line has one
never : (a : Bool) (xs ys : List ℕ) → (if a && false then xs else ys) ≡ ys
never true xs ys = refl
never false xs ys = refl

pub zone_placed : (width column : ℕ) → next_zone column < width → replicate (next_zone column - column) 32 ≡ item_placed width column item.Zone
zone_placed width column within =
    let n = next_zone column - column in
    let before : column < next_zone column = omega arith in
    let text : zone_text width column ≡ replicate n 32 = ap (λ t. if t then replicate n 32 else 10 ∷ []) (lt-ltb (next_zone column) width within) in
    sym (ap (λ t. if not (column == 0) && passes width column t then 10 ∷ zone_text width 0 else t) text
    ∙ ap (λ p. if not (column == 0) && p then 10 ∷ zone_text width 0 else replicate n 32) (blanks-within width n column (omega (arith, before, within))).0
    ∙ never (not (column == 0)) (10 ∷ zone_text width 0) (replicate n 32))

pub zone_column : (width column : ℕ) → next_zone column < width → width ≤ 65535 → next_zone column ≡ item_column width column item.Zone
zone_column width column within fits =
    let n = next_zone column - column in
    let before : column < next_zone column = omega arith in
    sym (ap (column_after column) (sym (zone_placed width column within)) ∙ blanks-column n column (omega (arith, before, within, fits)) ∙ omega (arith, before))
