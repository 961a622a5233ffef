-- The unit matrix times an array.
use Rattle.std.proofs.Common.{◌≡◌, ◌≢◌, ◌<◌, ◌+◌, ◌*◌, ◌/◌, ◌%◌, ◌^◌, ◌∙◌, ℕ, zero, suc, Bool, if◌then◌else◌, List, [], ◌∷◌, length, get_or, map, Result, Ok, refl, sym, ap, subst, arith, pow-add, inl, inr, lit<, eq-eqb, ne_eqb, ⊎_elim}
use Rattle.std.specs.List.{All}
use Rattle.std.proofs.lemmas.Bool.{cases_lt}
use Rattle.b2_dec.specs.declared.number.Mode.{Mode}
use Rattle.b2_dec.specs.Number.{Number, zero_number, IsNumber, size}
use Rattle.b2_dec.specs.Arithmetic.{one_number, onwards, sum_of, product_of}
use Rattle.b2_dec.proofs.Exact.{sum-zero_left, sum-zero_right, rnd-digits, in_range-number}
use Rattle.b2_dec.proofs.Factors.{product-none, product-sizes}
use Rattle.b2_matrix.specs.declared.array.Fill.TheVariants as filled_with
use Rattle.b2_matrix.specs.declared.combining.MatOp.TheVariants as op
use Rattle.b2_matrix.specs.Arrays.{cut_into_rows, matrix_row, array_column, entry, along_rows, combined_element, filling, sum_of_products}
use Rattle.b2_matrix.proofs.RowPlaces.{entry_at, entry_of_place, made_from, row_of_place, column_of_place, length-row, length-column, column_at, length-along_rows}
use Rattle.b2_matrix.proofs.Making.{all_taken}

-- the digits of a product by one, in units of the last digit of the smallest product
regrouped : (c p u d : ℕ) → c * (p * u * d) ≡ u * (c * p) * d
regrouped c p u d = omega arith

one_times : (mode : Mode) (x : Number) → IsNumber x → product_of mode one_number x ≡ Ok x
one_times mode x is =
    ⊎_elim
    (λ small.
    let none : x ≡ zero_number = is.spelling small in
    product-none mode one_number x (inr (ap (λ (n : Number). n.coef) none)) ∙ ap (λ (n : Number). Ok n) (sym none))
    (λ least.
    product-sizes mode one_number x
    ∙ rnd-digits mode x.neg x.coef (x.place + 111) (10 ^ 111 * size x) (10 ^ 222) least is.digits (omega arith) (lit< tt) (rw (pow-add 10 x.place 111) (regrouped x.coef (10 ^ x.place) (10 ^ 111) (10 ^ 222)))
    ∙ in_range-number x is.highest)
    (cases_lt x.coef 1000000000000)

zero_times : (mode : Mode) (x : Number) → product_of mode zero_number x ≡ Ok zero_number
zero_times mode x = product-none mode zero_number x (inl refl)

zero_is : IsNumber zero_number
zero_is = record { digits = lit< tt; highest = omega arith; spelling = λ small. refl }

-- a sum goes on with its next product
goes_on : (mode : Mode) (sum x y product next : Number) (xs ys : List Number) → product_of mode x y ≡ Ok product → sum_of mode sum product ≡ Ok next
    → sum_of_products mode sum (x ∷ xs) (y ∷ ys) ≡ sum_of_products mode next xs ys
goes_on mode sum x y product next xs ys made added =
    let rest : Number → Result Number ℕ = λ n. sum_of_products mode n xs ys in
    ap (λ (r : Result Number ℕ). onwards r (λ p. onwards (sum_of mode sum p) rest)) made ∙ ap (λ (r : Result Number ℕ). onwards r rest) added

-- zeros add nothing
zeros : (mode : Mode) (sum : Number) (xs ys : List Number) → IsNumber sum → ((k : ℕ) → k < length xs → get_or xs k zero_number ≡ zero_number) → sum_of_products mode sum xs ys ≡ Ok sum
zeros mode sum [] ys is none = refl
zeros mode sum (x ∷ xs) [] is none = refl
zeros mode sum (x ∷ xs) (y ∷ ys) is none =
    goes_on mode sum x y zero_number sum xs ys (ap (λ (n : Number). product_of mode n y) (none 0 (omega arith)) ∙ zero_times mode y) (sum-zero_right mode sum zero_number refl is)
    ∙ zeros mode sum xs ys is (λ k low. none (suc k) (omega arith))

-- a single one among zeros takes the number over it
single_one : (mode : Mode) (i : ℕ) (xs ys : List Number) → i < length xs → i < length ys → get_or xs i zero_number ≡ one_number
    → ((k : ℕ) → k < length xs → k ≢ i → get_or xs k zero_number ≡ zero_number) → IsNumber (get_or ys i zero_number) → sum_of_products mode zero_number xs ys ≡ Ok (get_or ys i zero_number)
single_one mode i [] ys long high one none is = absurd (omega arith)
single_one mode i (x ∷ xs) [] long high one none is = absurd (omega arith)
single_one mode zero (x ∷ xs) (y ∷ ys) long high one none is =
    goes_on mode zero_number x y y y xs ys (ap (λ (n : Number). product_of mode n y) one ∙ one_times mode y is) (sum-zero_left mode zero_number y refl is)
    ∙ zeros mode y xs ys is (λ k low. none (suc k) (omega arith) (λ e. omega arith))
single_one mode (suc i) (x ∷ xs) (y ∷ ys) long high one none is =
    goes_on mode zero_number x y zero_number zero_number xs ys (ap (λ (n : Number). product_of mode n y) (none 0 (omega arith) (λ e. omega arith)) ∙ zero_times mode y) (sum-zero_left mode zero_number zero_number refl zero_is)
    ∙ single_one mode i xs ys (omega arith) (omega arith) one (λ k low other. none (suc k) (omega arith) (λ e. other (omega arith))) is

-- an element of the unit matrix
unit_entry : (count i k : ℕ) → i < count → k < count → entry (cut_into_rows count count (along_rows count count (filling filled_with.Idn))) i k ≡ filling filled_with.Idn i k
unit_entry count i k low inside =
    entry_at count count (along_rows count count (filling filled_with.Idn)) i k low inside ∙ made_from (filling filled_with.Idn) count 0 count i k zero_number low inside
    ∙ ap (λ (r : ℕ). filling filled_with.Idn r k) (omega arith)

on_diagonal : (i k : ℕ) → k ≡ i → filling filled_with.Idn i k ≡ one_number
on_diagonal i k same = ap (λ (t : Bool). if t then one_number else zero_number) (eq-eqb i k (sym same))

off_diagonal : (i k : ℕ) → k ≢ i → filling filled_with.Idn i k ≡ zero_number
off_diagonal i k other = ap (λ (t : Bool). if t then one_number else zero_number) (ne_eqb i k (λ e. other (sym e)))

pub unit_times : (mode : Mode) (count width : ℕ) (cells : List Number) → length cells ≡ count * width → All IsNumber cells
    → along_rows count width (combined_element op.Mul mode (cut_into_rows count count (along_rows count count (filling filled_with.Idn))) (cut_into_rows count width cells)) ≡ map (λ x. Ok x) cells
unit_times mode count width cells whole each =
    let unit : List (List Number) = cut_into_rows count count (along_rows count count (filling filled_with.Idn)) in
    let xss : List (List Number) = cut_into_rows count width cells in
    sym (all_taken (combined_element op.Mul mode unit xss) count width cells whole
    (λ p inside.
    let within : p < count * width = omega (arith, whole) in
    let low : p / width < count = row_of_place p count width within in
    let right : p % width < width = column_of_place p count width within in
    let long : length (matrix_row unit (p / width)) ≡ count = length-row count count (along_rows count count (filling filled_with.Idn)) (p / width) low (length-along_rows (filling filled_with.Idn) count count) in
    let high : length (array_column xss (p % width)) ≡ count = length-column count width cells (p % width) in
    let here : get_or (array_column xss (p % width)) (p / width) zero_number ≡ get_or cells p zero_number =
    column_at count width cells (p / width) (p % width) low ∙ entry_of_place count width cells p within in
    single_one mode (p / width) (matrix_row unit (p / width)) (array_column xss (p % width)) (omega arith) (omega arith)
    (unit_entry count (p / width) (p / width) low low ∙ on_diagonal (p / width) (p / width) refl)
    (λ k inner other. unit_entry count (p / width) k low (omega arith) ∙ off_diagonal (p / width) k other)
    (subst IsNumber (sym here) (each p zero_number inside))
    ∙ ap (λ (n : Number). Ok n) here))
