-- A sum of products, one step further along a row and a column.
use Rattle.std.proofs.Common.{◌≡◌, ◌<◌, ◌≤◌, ◌+◌, ◌∙◌, ℕ, List, length, get_or, drop, Result, Ok, Err, sym, ap}
use Rattle.std.proofs.lemmas.List.{drop_more, drop_all}
use Rattle.b2_dec.specs.declared.number.Mode.{Mode}
use Rattle.b2_dec.specs.Number.{Number, zero_number}
use Rattle.b2_dec.specs.Arithmetic.{onwards, sum_of, product_of}
use Rattle.b2_matrix.specs.Arrays.{sum_of_products}

-- what is left begins with the product of the two numbers here
here : (mode : Mode) (sum : Number) (xs ys : List Number) (k : ℕ) → k < length xs → k < length ys
    → sum_of_products mode sum (drop k xs) (drop k ys)
    ≡ onwards (product_of mode (get_or xs k zero_number) (get_or ys k zero_number)) (λ product. onwards (sum_of mode sum product) (λ next. sum_of_products mode next (drop (k + 1) xs) (drop (k + 1) ys)))
here mode sum xs ys k x y = λ i. sum_of_products mode sum (drop_more xs k zero_number x i) (drop_more ys k zero_number y i)

pub step : (mode : Mode) (sum product next : Number) (xs ys : List Number) (k : ℕ) → k < length xs → k < length ys
    → product_of mode (get_or xs k zero_number) (get_or ys k zero_number) ≡ Ok product → sum_of mode sum product ≡ Ok next
    → sum_of_products mode next (drop (k + 1) xs) (drop (k + 1) ys) ≡ sum_of_products mode sum (drop k xs) (drop k ys)
step mode sum product next xs ys k x y made added =
    let rest : Number → Result Number ℕ = λ n. sum_of_products mode n (drop (k + 1) xs) (drop (k + 1) ys) in
    sym (here mode sum xs ys k x y ∙ ap (λ (r : Result Number ℕ). onwards r (λ p. onwards (sum_of mode sum p) rest)) made ∙ ap (λ (r : Result Number ℕ). onwards r rest) added)

-- a product that is refused refuses the sum
pub no_product : (mode : Mode) (sum : Number) (xs ys : List Number) (k code : ℕ) → k < length xs → k < length ys
    → product_of mode (get_or xs k zero_number) (get_or ys k zero_number) ≡ Err code → Err code ≡ sum_of_products mode sum (drop k xs) (drop k ys)
no_product mode sum xs ys k code x y refused =
    let rest : Number → Result Number ℕ = λ n. sum_of_products mode n (drop (k + 1) xs) (drop (k + 1) ys) in
    sym (here mode sum xs ys k x y ∙ ap (λ (r : Result Number ℕ). onwards r (λ p. onwards (sum_of mode sum p) rest)) refused)

-- and so does a sum
pub no_sum : (mode : Mode) (sum product : Number) (xs ys : List Number) (k code : ℕ) → k < length xs → k < length ys
    → product_of mode (get_or xs k zero_number) (get_or ys k zero_number) ≡ Ok product → sum_of mode sum product ≡ Err code
    → Err code ≡ sum_of_products mode sum (drop k xs) (drop k ys)
no_sum mode sum product xs ys k code x y made refused =
    let rest : Number → Result Number ℕ = λ n. sum_of_products mode n (drop (k + 1) xs) (drop (k + 1) ys) in
    sym (here mode sum xs ys k x y ∙ ap (λ (r : Result Number ℕ). onwards r (λ p. onwards (sum_of mode sum p) rest)) made ∙ ap (λ (r : Result Number ℕ). onwards r rest) refused)

-- nothing is left of a row after its last number
pub at_end : (mode : Mode) (sum : Number) (xs ys : List Number) (k : ℕ) → length xs ≤ k → Ok sum ≡ sum_of_products mode sum (drop k xs) ys
at_end mode sum xs ys k past = sym (ap (λ (l : List Number). sum_of_products mode sum l ys) (drop_all k xs past))

-- the product of two numbers that stand in a row and in a column
pub product_at : (mode : Mode) (x y u v : Number) → x ≡ u → y ≡ v → product_of mode u v ≡ product_of mode x y
product_at mode x y u v first second = λ i. product_of mode (sym first i) (sym second i)
