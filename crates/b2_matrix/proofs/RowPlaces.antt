-- Where the element of a row and a column stands along rows, and lists that are made place by place.
use Rattle.std.proofs.Common.{◌≡◌, ◌<◌, ◌+◌, ◌*◌, ◌/◌, ◌%◌, ◌∙◌, ℕ, zero, suc, List, [], length, get_or, drop, map, refl, ap, arith, mul-le-mul_left}
use Rattle.std.specs.List.{flat_map, range_with_len}
use Rattle.std.proofs.lemmas.List.{get_or-take, get_or-drop, get_or_append_left, get_or-append_right, length-append, length-map, length-take-le, length-drop, get_or-map}
use Rattle.std.proofs.lemmas.List.FromFn.{length-map-range_with_len, get_or-map-range_with_len}
use Rattle.b2_dec.specs.Number.{Number, zero_number}
use Rattle.b2_matrix.specs.Arrays.{cut_into_rows, matrix_row, array_column, entry, along_rows}

-- the element of a row and a column stands after the rows before and the elements before it
pub entry_at : (count w : ℕ) (cells : List Number) (i j : ℕ) → i < count → j < w → entry (cut_into_rows count w cells) i j ≡ get_or cells (i * w + j) zero_number
entry_at zero w cells i j low inside = absurd (omega arith)
entry_at (suc count) w cells zero j low inside = get_or-take w cells j zero_number inside ∙ ap (λ (k : ℕ). get_or cells k zero_number) (omega arith)
entry_at (suc count) w cells (suc i) j low inside =
    entry_at count w (drop w cells) i j (omega arith) inside ∙ get_or-drop w cells (i * w + j) zero_number ∙ ap (λ (k : ℕ). get_or cells k zero_number) (omega arith)

pub length-cut_into_rows : (count w : ℕ) (cells : List Number) → length (cut_into_rows count w cells) ≡ count
length-cut_into_rows zero w cells = refl
length-cut_into_rows (suc count) w cells = ap suc (length-cut_into_rows count w (drop w cells))

pub length-row : (count w : ℕ) (cells : List Number) (i : ℕ) → i < count → length cells ≡ count * w → length (matrix_row (cut_into_rows count w cells) i) ≡ w
length-row zero w cells i low whole = absurd (omega arith)
length-row (suc count) w cells zero low whole = length-take-le w cells (omega arith)
length-row (suc count) w cells (suc i) low whole = length-row count w (drop w cells) i (omega arith) (length-drop w cells ∙ omega arith)

-- the same of what is made along rows, from a row on
pub made_from : {X : Type 0} (f : ℕ → ℕ → X) (w s count i j : ℕ) (d : X) → i < count → j < w
    → get_or (flat_map (λ r. map (f r) (range_with_len 0 w)) (range_with_len s count)) (i * w + j) d ≡ f (s + i) j
made_from f w s zero i j d low inside = absurd (omega arith)
made_from {X} f w s (suc count) zero j d low inside =
    let first : List X = map (f s) (range_with_len 0 w) in
    let len : length first ≡ w = length-map-range_with_len (f s) 0 w in
    get_or_append_left first (flat_map (λ r. map (f r) (range_with_len 0 w)) (range_with_len (s + 1) count)) d (zero * w + j) (omega arith)
    ∙ get_or-map-range_with_len (f s) 0 w (zero * w + j) j d (omega arith) (omega arith) ∙ ap (λ (r : ℕ). f r j) (omega arith)
made_from {X} f w s (suc count) (suc i) j d low inside =
    let first : List X = map (f s) (range_with_len 0 w) in
    let others : List X = flat_map (λ r. map (f r) (range_with_len 0 w)) (range_with_len (s + 1) count) in
    let len : length first ≡ w = length-map-range_with_len (f s) 0 w in
    get_or-append_right first others w (suc i * w + j) d len (omega arith)
    ∙ ap (λ (k : ℕ). get_or others k d) (omega arith) ∙ made_from f w (s + 1) count i j d (omega arith) inside ∙ ap (λ (r : ℕ). f r j) (omega arith)

length-made_from : {X : Type 0} (f : ℕ → ℕ → X) (w s count : ℕ) → length (flat_map (λ r. map (f r) (range_with_len 0 w)) (range_with_len s count)) ≡ count * w
length-made_from f w s zero = omega arith
length-made_from {X} f w s (suc count) =
    let first : List X = map (f s) (range_with_len 0 w) in
    let len : length first ≡ w = length-map-range_with_len (f s) 0 w in
    let rest = length-made_from f w (s + 1) count in
    length-append first (flat_map (λ r. map (f r) (range_with_len 0 w)) (range_with_len (s + 1) count)) ∙ omega arith

pub length-along_rows : {X : Type 0} (f : ℕ → ℕ → X) (count w : ℕ) → length (along_rows count w f) ≡ count * w
length-along_rows f count w = length-made_from f w 0 count

-- a place is that of its row and its column
pub row_of_place : (p count w : ℕ) → p < count * w → p / w < count
row_of_place p count w inside = grind arith

some_in_row : (p count w : ℕ) → p < count * w → 0 < w
some_in_row p count zero inside = absurd (omega arith)
some_in_row p count (suc w) inside = omega arith

pub made_at : {X : Type 0} (f : ℕ → ℕ → X) (count w p : ℕ) (d : X) → p < count * w → get_or (along_rows count w f) p d ≡ f (p / w) (p % w)
made_at f count w p d inside =
    let some : 0 < w = some_in_row p count w inside in
    ap (λ (k : ℕ). get_or (along_rows count w f) k d) (omega arith) ∙ made_from f w 0 count (p / w) (p % w) d (row_of_place p count w inside) (omega arith)
    ∙ ap (λ (r : ℕ). f r (p % w)) (omega arith)

pub place_inside : (count w i j : ℕ) → i < count → j < w → i * w + j < count * w
place_inside count w i j low inside = omega (arith, mul-le-mul_left w low)

-- the element at a place
pub entry_of_place : (count w : ℕ) (cells : List Number) (p : ℕ) → p < count * w → entry (cut_into_rows count w cells) (p / w) (p % w) ≡ get_or cells p zero_number
entry_of_place count w cells p inside =
    let some : 0 < w = some_in_row p count w inside in
    entry_at count w cells (p / w) (p % w) (row_of_place p count w inside) (omega arith) ∙ ap (λ (k : ℕ). get_or cells k zero_number) (omega arith)

pub length-column : (count w : ℕ) (cells : List Number) (j : ℕ) → length (array_column (cut_into_rows count w cells) j) ≡ count
length-column count w cells j = length-map (cut_into_rows count w cells) (λ (xs : List Number). get_or xs j zero_number) ∙ length-cut_into_rows count w cells

-- a column has the elements of its rows
pub column_at : (count w : ℕ) (cells : List Number) (i j : ℕ) → i < count → get_or (array_column (cut_into_rows count w cells) j) i zero_number ≡ entry (cut_into_rows count w cells) i j
column_at count w cells i j low =
    let len = length-cut_into_rows count w cells in
    get_or-map (λ (xs : List Number). get_or xs j zero_number) (cut_into_rows count w cells) i [] zero_number (omega arith)

-- the column of a place is one of the row
pub column_of_place : (p count w : ℕ) → p < count * w → p % w < w
column_of_place p count w inside = let some : 0 < w = some_in_row p count w inside in omega arith
