-- Two values compared byte by byte, where the shorter one has blanks after it.
use Rattle.std.proofs.Common.{◌≡◌, ℕ, zero, suc, ◌+◌, ◌-◌, ◌<◌, ◌≤◌, max, List, [], ◌∷◌, ◌++◌, length, drop, get_or, replicate, refl, sym, ap, ◌∙◌, arith, add-one, drop-cons, length-append, true, false, not, ◌==◌}
use Rattle.std.proofs.lemmas.List.{length-replicate, take_all, drop_all}
use Rattle.std.specs.declared.cmp.Ordering.{Ordering}
use Rattle.std.specs.declared.cmp.Ordering.TheVariants.{Less, Equal, Greater}
use Rattle.std.specs.Ordering.{nat_cmp, ordering_then, ordering_index}
use Rattle.std.specs.Cmp.Lexicographic.{slice_cmp}
use Rattle.b2_base.specs.Byte as byte
use Rattle.b2_alpha.specs.Values.{padded}
use Rattle.b2_alpha.specs.Relations.{order_of}

blanks_at : (k i : ℕ) → get_or (replicate k byte.blank) i byte.blank ≡ byte.blank
blanks_at zero i = refl
blanks_at (suc k) zero = refl
blanks_at (suc k) (suc i) = blanks_at k i

after_at : (xs : List ℕ) (k i : ℕ) → get_or (xs ++ replicate k byte.blank) i byte.blank ≡ get_or xs i byte.blank
after_at [] k i = blanks_at k i
after_at (x ∷ xs) k zero = refl
after_at (x ∷ xs) k (suc i) = after_at xs k i

with_blanks : (n : ℕ) (xs : List ℕ) → length xs ≤ n → padded n xs ≡ xs ++ replicate (n - length xs) byte.blank
with_blanks n xs fits = ap (λ (l : List ℕ). l ++ replicate (n - length xs) byte.blank) (take_all n xs fits)

padded_at : (n : ℕ) (xs : List ℕ) (i : ℕ) → length xs ≤ n → get_or (padded n xs) i byte.blank ≡ get_or xs i byte.blank
padded_at n xs i fits = ap (λ (l : List ℕ). get_or l i byte.blank) (with_blanks n xs fits) ∙ after_at xs (n - length xs) i

length-padded : (n : ℕ) (xs : List ℕ) → length xs ≤ n → length (padded n xs) ≡ n
length-padded n xs fits =
    let sum = length-append {A = ℕ} xs (replicate {A = ℕ} (n - length xs) byte.blank) in
    let blank = length-replicate {A = ℕ} (n - length xs) byte.blank in
    ap (λ (l : List ℕ). length l) (with_blanks n xs fits) ∙ omega arith

from_at : (n : ℕ) (xs : List ℕ) (i : ℕ) → length xs ≤ n → i < n → drop i (padded n xs) ≡ get_or xs i byte.blank ∷ drop (i + 1) (padded n xs)
from_at n xs i fits within =
    let len : length (padded n xs) ≡ n = length-padded n xs fits in
    let here : i < length (padded n xs) = omega arith in
    let cons : drop i (padded n xs) ≡ get_or (padded n xs) i byte.blank ∷ drop (i + 1) (padded n xs) = rw add-one (drop-cons (padded n xs) i 32 here) in
    cons ∙ ap (λ (b : ℕ). b ∷ drop (i + 1) (padded n xs)) (padded_at n xs i fits)

-- the order from a place on is that of the two bytes there, and then the order after them
from_here : (xs ys : List ℕ) (i : ℕ) → let n : ℕ = max (length xs) (length ys) in i < n
    → slice_cmp nat_cmp (drop i (padded n xs)) (drop i (padded n ys))
    ≡ ordering_then (nat_cmp (get_or xs i byte.blank) (get_or ys i byte.blank)) (slice_cmp nat_cmp (drop (i + 1) (padded n xs)) (drop (i + 1) (padded n ys)))
from_here xs ys i within =
    let n : ℕ = max (length xs) (length ys) in
    λ j. slice_cmp nat_cmp (from_at n xs i (omega arith) within j) (from_at n ys i (omega arith) within j)

-- nothing is left after the longer one
pub at_end : (xs ys : List ℕ) → let n : ℕ = max (length xs) (length ys) in slice_cmp nat_cmp (drop n (padded n xs)) (drop n (padded n ys)) ≡ Equal
at_end xs ys =
    let n : ℕ = max (length xs) (length ys) in
    let x : length (padded n xs) ≤ n = let h = length-padded n xs (omega arith) in omega arith in
    let y : length (padded n ys) ≤ n = let h = length-padded n ys (omega arith) in omega arith in
    λ j. slice_cmp nat_cmp (drop_all n (padded n xs) x j) (drop_all n (padded n ys) y j)

-- bytes that differ decide
decided : (order rest : Ordering) → true ≡ not (ordering_index order == 1) → ordering_then order rest ≡ order
decided Less rest h = refl
decided Equal rest h = cc
decided Greater rest h = refl

-- equal ones leave it to those after them
undecided : (order rest : Ordering) → false ≡ not (ordering_index order == 1) → ordering_then order rest ≡ rest
undecided Less rest h = cc
undecided Equal rest h = refl
undecided Greater rest h = cc

from_order : (xs ys : List ℕ) (i : ℕ) (order : Ordering) → i < max (length xs) (length ys) → order ≡ nat_cmp (get_or xs i byte.blank) (get_or ys i byte.blank)
    → slice_cmp nat_cmp (drop i (padded (max (length xs) (length ys)) xs)) (drop i (padded (max (length xs) (length ys)) ys)) ≡ order_of xs ys
    → ordering_then order (slice_cmp nat_cmp (drop (i + 1) (padded (max (length xs) (length ys)) xs)) (drop (i + 1) (padded (max (length xs) (length ys)) ys))) ≡ order_of xs ys
from_order xs ys i order within is so_far =
    ap (λ (o : Ordering). ordering_then o (slice_cmp nat_cmp (drop (i + 1) (padded (max (length xs) (length ys)) xs)) (drop (i + 1) (padded (max (length xs) (length ys)) ys)))) is
    ∙ sym (from_here xs ys i within) ∙ so_far

-- the first bytes that differ decide the order
pub decides : (xs ys : List ℕ) (i : ℕ) (order : Ordering) → i < max (length xs) (length ys) → order ≡ nat_cmp (get_or xs i byte.blank) (get_or ys i byte.blank)
    → true ≡ not (ordering_index order == 1)
    → slice_cmp nat_cmp (drop i (padded (max (length xs) (length ys)) xs)) (drop i (padded (max (length xs) (length ys)) ys)) ≡ order_of xs ys
    → order ≡ order_of xs ys
decides xs ys i order within is differ so_far = sym (decided order _ differ) ∙ from_order xs ys i order within is so_far

-- bytes that are equal leave it to those after them
pub goes_on : (xs ys : List ℕ) (i : ℕ) (order : Ordering) → i < max (length xs) (length ys) → order ≡ nat_cmp (get_or xs i byte.blank) (get_or ys i byte.blank)
    → false ≡ not (ordering_index order == 1)
    → slice_cmp nat_cmp (drop i (padded (max (length xs) (length ys)) xs)) (drop i (padded (max (length xs) (length ys)) ys)) ≡ order_of xs ys
    → slice_cmp nat_cmp (drop (i + 1) (padded (max (length xs) (length ys)) xs)) (drop (i + 1) (padded (max (length xs) (length ys)) ys)) ≡ order_of xs ys
goes_on xs ys i order within is equal so_far = sym (undecided order _ equal) ∙ from_order xs ys i order within is so_far
