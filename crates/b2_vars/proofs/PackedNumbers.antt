-- Numbers in eight bytes each: what is read back, what changes where one does, and what they take.
use Rattle.std.proofs.Common.{◌≡◌, ℕ, zero, suc, ◌+◌, ◌-◌, ◌*◌, ◌/◌, ◌%◌, ◌<◌, ◌≤◌, ◌==◌, Bool, true, false, cond, nat_lt, nat_le, List, [], ◌∷◌, ◌++◌, length, take, drop, get_or, set, replicate, refl, ap, ap₂, sym, ◌∙◌, arith, inl, inr, append_assoc, length-append}
use Rattle.std.proofs.lemmas.Bool.{cases_lt, lt-ltb, le-ltb}
use Rattle.std.proofs.lemmas.List.{take_at, drop_at}
use Rattle.std.proofs.Math.Seq.{drop-append-add}
use Rattle.b2_dec.specs.Number.{Number, IsNumber, zero_number}
use Rattle.b2_dec.specs.Packing.{packed, packed_digits, pairs_value, signs, exponent_size}
use Rattle.b2_dec.proofs.Nibbles.{pairs_value-packed, packed_digits-most, signs-packed, packed_digits-joined, exponent-packed_digits, coef-packed_digits}
use Rattle.b2_vars.specs.Block.{unpacked, number_from, packed_numbers, read_numbers, AllNumbers}
use Rattle.b2_vars.specs.Variables.{overwritten}
use Rattle.b2_vars.proofs.Costs.{is_zero}
use Rattle.b2_vars.proofs.Overwriting.{over-at, over-after}

pub length-packed : (x : Number) → length (packed x) ≡ 8
length-packed x = refl

sign-read : (neg low : Bool) → ((cond neg 1 0 + cond low 8 0) % 2 == 1) ≡ neg
sign-read true true = refl
sign-read true false = refl
sign-read false true = refl
sign-read false false = refl

side-read : (neg low : Bool) → nat_le 8 (cond neg 1 0 + cond low 8 0) ≡ low
side-read true true = refl
side-read true false = refl
side-read false true = refl
side-read false false = refl

place-read : (place : ℕ) → place ≤ 198 → cond (nat_lt place 99) (99 - cond (nat_lt place 99) (99 - place) (place - 99)) (99 + cond (nat_lt place 99) (99 - place) (place - 99)) ≡ place
place-read place most = elim (cases_lt place 99) [
  | inl low ↦ rw (lt-ltb _ _ low) (omega arith)
  | inr high ↦ rw (le-ltb _ _ high) (omega arith)
]

parts-read : (x : Number) → IsNumber x → number_from (signs x) (exponent_size x) x.coef ≡ x
parts-read x is = by (x.coef == 0) refl
  where
    by : (b : Bool) → (x.coef == 0) ≡ b → number_from (signs x) (exponent_size x) x.coef ≡ x
    by true e = ap (λ b. cond b zero_number (record { neg = signs x % 2 == 1; coef = x.coef; place = cond (nat_le 8 (signs x)) (99 - exponent_size x) (99 + exponent_size x) })) e
        ∙ sym (is.spelling (omega (arith, is_zero x.coef e)))
    by false e = ap (λ b. cond b zero_number (record { neg = signs x % 2 == 1; coef = x.coef; place = cond (nat_le 8 (signs x)) (99 - exponent_size x) (99 + exponent_size x) })) e
        ∙ (λ i. record { neg = sign-read x.neg (nat_lt x.place 99) i; coef = x.coef; place = (ap (λ b. cond b (99 - exponent_size x) (99 + exponent_size x)) (side-read x.neg (nat_lt x.place 99)) ∙ place-read x.place is.highest) i })

-- what is packed is read back
pub unpacked-packed : (x : Number) → IsNumber x → unpacked (packed x) ≡ x
unfolding unpacked
unpacked-packed x is =
    let few : packed_digits x < 1000000000000000 = packed_digits-most x is in
    let n : pairs_value 0 (packed x) % 1000000000000000 ≡ packed_digits x = ap (λ t. t % 1000000000000000) (pairs_value-packed x few) ∙ packed_digits-joined _ (packed_digits x) few in
    ap (λ (s : ℕ). number_from s (pairs_value 0 (packed x) % 1000000000000000 / 10000000000000) (pairs_value 0 (packed x) % 1000000000000000 % 10000000000000)) (signs-packed x few)
    ∙ ap₂ (number_from (signs x)) (ap (λ t. t / 10000000000000) n ∙ exponent-packed_digits x is) (ap (λ t. t % 10000000000000) n ∙ coef-packed_digits x is)
    ∙ parts-read x is

pub length-numbers : (xs : List Number) → length (packed_numbers xs) ≡ length xs * 8
length-numbers [] = refl
length-numbers (x ∷ xs) = omega (arith, length-append (packed x) (packed_numbers xs), length-packed x, length-numbers xs)

pub numbers-read : (xs : List Number) (b : List ℕ) → AllNumbers xs → read_numbers (length xs) (packed_numbers xs ++ b) ≡ xs
numbers-read [] b all = refl
numbers-read (x ∷ xs) b all =
    let joined = append_assoc (packed x) (packed_numbers xs) b in
    let first : take 8 (packed_numbers (x ∷ xs) ++ b) ≡ packed x = ap (take 8) joined ∙ take_at (packed x) (packed_numbers xs ++ b) 8 (length-packed x) in
    let others : drop 8 (packed_numbers (x ∷ xs) ++ b) ≡ packed_numbers xs ++ b = ap (drop 8) joined ∙ drop_at (packed x) (packed_numbers xs ++ b) 8 (length-packed x) in
    ap₂ (λ (y : Number) (ys : List Number). y ∷ ys) (ap unpacked first ∙ unpacked-packed x all.0) (ap (read_numbers (length xs)) others ∙ numbers-read xs b all.1)

-- the eight bytes of one of them
pub number-bytes : (xs : List Number) (cell : ℕ) (b : List ℕ) → cell < length xs → take 8 (drop (cell * 8) (packed_numbers xs ++ b)) ≡ packed (get_or xs cell zero_number)
number-bytes [] cell b below = absurd (omega arith)
number-bytes (x ∷ xs) zero b below = ap (take 8) (append_assoc (packed x) (packed_numbers xs) b) ∙ take_at (packed x) (packed_numbers xs ++ b) 8 (length-packed x)
number-bytes (x ∷ xs) (suc cell) b below =
    let next : suc cell * 8 ≡ 8 + cell * 8 = omega arith in
    ap (λ (n : ℕ). take 8 (drop n (packed_numbers (x ∷ xs) ++ b))) next
    ∙ ap (λ (ys : List ℕ). take 8 (drop (8 + cell * 8) ys)) (append_assoc (packed x) (packed_numbers xs) b)
    ∙ ap (take 8) (drop-append-add (packed x) (packed_numbers xs ++ b) (cell * 8))
    ∙ number-bytes xs cell b (omega arith)

pub number-at : (xs : List Number) (cell : ℕ) → cell < length xs → AllNumbers xs → IsNumber (get_or xs cell zero_number)
number-at [] cell below all = absurd (omega arith)
number-at (x ∷ xs) zero below all = all.0
number-at (x ∷ xs) (suc cell) below all = number-at xs cell (omega arith) all.1

-- one of them is overwritten
pub numbers-set : (xs : List Number) (cell : ℕ) (n : Number) → cell < length xs → overwritten (cell * 8) (packed n) (packed_numbers xs) ≡ packed_numbers (set xs cell n)
numbers-set [] cell n below = absurd (omega arith)
numbers-set (x ∷ xs) zero n below = over-at 0 [] (packed x) (packed n) (packed_numbers xs) refl refl
numbers-set (x ∷ xs) (suc cell) n below =
    let next : suc cell * 8 ≡ 8 + cell * 8 = omega arith in
    ap (λ (k : ℕ). overwritten k (packed n) (packed_numbers (x ∷ xs))) next
    ∙ over-after (packed x) (packed_numbers xs) (packed n) (cell * 8) (omega (arith, length-numbers xs, below))
    ∙ ap (λ (ys : List ℕ). packed x ++ ys) (numbers-set xs cell n (omega arith))

pub all-set : (xs : List Number) (cell : ℕ) (n : Number) → AllNumbers xs → IsNumber n → AllNumbers (set xs cell n)
all-set [] cell n all is = all
all-set (x ∷ xs) zero n all is = (is, all.1)
all-set (x ∷ xs) (suc cell) n all is = (all.0, all-set xs cell n all.1 is)

pub all-take : (k : ℕ) (xs : List Number) → AllNumbers xs → AllNumbers (take k xs)
all-take zero xs all = tt
all-take (suc k) [] all = tt
all-take (suc k) (x ∷ xs) all = (all.0, all-take k xs all.1)

pub zero-number : IsNumber zero_number
zero-number = record { digits = omega arith; highest = omega arith; spelling = λ _. refl }

pub all-zero : (k : ℕ) → AllNumbers (replicate k zero_number)
all-zero zero = tt
all-zero (suc k) = (zero-number, all-zero k)

-- numbers before others
pub numbers-cut : (k : ℕ) (xs : List Number) → packed_numbers xs ≡ packed_numbers (take k xs) ++ packed_numbers (drop k xs)
numbers-cut zero xs = refl
numbers-cut (suc k) [] = refl
numbers-cut (suc k) (x ∷ xs) = ap (λ (ys : List ℕ). packed x ++ ys) (numbers-cut k xs) ∙ sym (append_assoc (packed x) (packed_numbers (take k xs)) (packed_numbers (drop k xs)))

-- zeros are eight bytes 00 each
pub zeros-packed : (k : ℕ) → packed_numbers (replicate k zero_number) ≡ replicate (k * 8) 0
zeros-packed zero = refl
zeros-packed (suc k) =
    let next : suc (suc (suc (suc (suc (suc (suc (suc (k * 8)))))))) ≡ suc k * 8 = omega arith in
    ap (λ (ys : List ℕ). packed zero_number ++ ys) (zeros-packed k) ∙ ap (λ (n : ℕ). replicate n 0) next
