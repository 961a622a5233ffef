-- Arrays as lists of rows, and the elements of each result by row and column.
use Rattle.std.specs.Prelude.{◌≡◌, ℕ, zero, suc, ◌*◌, max, ◌==◌, if◌then◌else◌, List, [], ◌∷◌, length, take, drop, get_or, map, Result, Ok}
use Rattle.std.specs.List.{flat_map, range_with_len}
use Rattle.b2_dec.specs.declared.number.Mode.{Mode}
use Rattle.b2_dec.specs.Number.{Number, zero_number}
use Rattle.b2_dec.specs.Arithmetic.{one_number, onwards, sum_of, difference_of, product_of}
use Rattle.b2_matrix.specs.declared.array.Mat.{Mat}
use Rattle.b2_matrix.specs.declared.combining.MatOp.{MatOp}
use Rattle.b2_matrix.specs.declared.combining.MatOp.TheVariants as op
use Rattle.b2_matrix.specs.declared.array.Fill.{Fill}
use Rattle.b2_matrix.specs.declared.array.Fill.TheVariants as filled_with

-- numbers cut into rows of a width
abbrev pub cut_into_rows : ℕ → ℕ → List Number → List (List Number)
cut_into_rows zero width cells = []
cut_into_rows (suc count) width cells = take width cells ∷ cut_into_rows count width (drop width cells)

-- how many columns an array has; one of one dimension counts as one column
abbrev pub columns_of : ℕ → ℕ
columns_of cols = max 1 cols

abbrev pub column_count : Mat → ℕ
column_count a = columns_of a.cols

-- an array has exactly as many numbers as its shape says
abbrev pub IsWhole : Mat → Type 0
IsWhole a = length a.cells.now ≡ a.rows * column_count a

-- an array as the list of its rows
abbrev pub array_rows : Mat → List (List Number)
array_rows a = cut_into_rows a.rows (column_count a) a.cells.now

-- a row, a column and an element of a list of rows, all counted from 0
abbrev pub matrix_row : List (List Number) → ℕ → List Number
matrix_row xss i = get_or xss i []

abbrev pub array_column : List (List Number) → ℕ → List Number
array_column xss j = map (λ xs. get_or xs j zero_number) xss

abbrev pub entry : List (List Number) → ℕ → ℕ → Number
entry xss i j = get_or (matrix_row xss i) j zero_number

-- what is made for each row and each column, along rows
abbrev pub along_rows : {X : Type 0} → ℕ → ℕ → (ℕ → ℕ → X) → List X
along_rows count width f = flat_map (λ i. map (f i) (range_with_len 0 width)) (range_with_len 0 count)

-- the sum of the products of two lists, made from the left, where each product and each sum is rounded
abbrev pub sum_of_products : Mode → Number → List Number → List Number → Result Number ℕ
sum_of_products mode sum [] ys = Ok sum
sum_of_products mode sum (x ∷ xs) [] = Ok sum
sum_of_products mode sum (x ∷ xs) (y ∷ ys) =
    onwards (product_of mode x y) (λ product. onwards (sum_of mode sum product) (λ next. sum_of_products mode next xs ys))

-- an element of a sum, a difference and a product
abbrev pub combined_element : MatOp → Mode → List (List Number) → List (List Number) → ℕ → ℕ → Result Number ℕ
combined_element op.Add mode xss yss i j = sum_of mode (entry xss i j) (entry yss i j)
combined_element op.Sub mode xss yss i j = difference_of mode (entry xss i j) (entry yss i j)
combined_element op.Mul mode xss yss i j = sum_of_products mode zero_number (matrix_row xss i) (array_column yss j)

-- the elements along rows
abbrev pub elements : MatOp → Mode → Mat → Mat → List (Result Number ℕ)
elements operation mode a b = along_rows a.rows (column_count b) (combined_element operation mode (array_rows a) (array_rows b))

-- the elements of a multiple
abbrev pub multiples : Mode → Number → Mat → List (Result Number ℕ)
multiples mode k a = along_rows a.rows (column_count a) (λ i j. product_of mode k (entry (array_rows a) i j))

-- rows become columns
abbrev pub transposed : ℕ → ℕ → List (List Number) → List Number
transposed count width xss = along_rows width count (λ i j. entry xss j i)

-- an element of a filled array: ones, zeros, or ones where the row is the column
abbrev pub filling : Fill → ℕ → ℕ → Number
filling filled_with.Con i j = one_number
filling filled_with.Zer i j = zero_number
filling filled_with.Idn i j = if i == j then one_number else zero_number
