-- A number that a row spells, and a value that a field spells, come back.
use Rattle.std.proofs.Common.{◌≡◌, ℕ, zero, suc, ◌+◌, ◌*◌, ◌/◌, ◌%◌, ◌^◌, ◌<◌, ◌&&◌, Bool, true, false, List, [], ◌∷◌, ◌++◌, length, take, get_or, Ok, sym, ap, ap₂, subst, ◌∙◌, refl, arith, lit<, inl, inr, le-leb, mod-lt, mod-eq_of_lt, div-add-mod', add-zero, mul_assoc, pow-add, append_assoc, if◌then◌else◌}
use Rattle.std.proofs.lemmas.Bool.{cases_lt}
use Rattle.std.proofs.lemmas.List.{take_at}
use Rattle.std.proofs.lemmas.Nat.{mod-mul-add, div-mul-add}
use native.Mathlib.Nat.{pow-succ'}
use Rattle.std.proofs.Math.Arith.{mod-mul}
use Rattle.std.specs.List.{list_all}
use Rattle.std.proofs.lemmas.List.Folds.{list_all-append}
use borrow.Author.Tests.{ltb-true}
use Rattle.b2_dec.specs.declared.number.Mode.TheVariants.{Round}
use Rattle.b2_dec.specs.Number.{Number, IsNumber, size, zero_number}
use Rattle.b2_dec.specs.Rounding.{rnd}
use Rattle.b2_dec.proofs.TenLemmas.{ten_pos}
use Rattle.b2_dec.proofs.Exact.{rnd-digits, in_range-number, rnd-none}
use Rattle.b2_pack.specs.declared.rows.SignNibble.{SignNibble}
use Rattle.b2_pack.specs.declared.rows.SignNibble.TheVariants.{Absent, Before, After}
use Rattle.b2_pack.specs.declared.rows.Row.{Row}
use Rattle.b2_pack.specs.Nibbles.{nibbles, paired, last_digits, decimal_after, is_decimal_nibble}
use Rattle.b2_pack.specs.Rows.{cut_size, row_fits, sign_before, sign_after, row_nibbles, row_bytes, digits_in, are_digits, ends_in_sign, is_below_zero, within_range, nibbles_number, number_of_row}
use Rattle.b2_pack.specs.Laws.{has_its_sign, IsSpelled}
use Rattle.b2_pack.proofs.NibbleLemmas.{last_digits-length}

-- all nibbles are below 16
abbrev AreNibbles : List ℕ → Type 0
AreNibbles [] = Unit {0}
AreNibbles (n ∷ ns) = (n < 16) × AreNibbles ns

-- the 0 after nibbles of an odd count
abbrev pad : List ℕ → List ℕ
pad [] = []
pad (h ∷ []) = 0 ∷ []
pad (h ∷ l ∷ ns) = pad ns

two : (h l : ℕ) → l < 16 → ((16 * h + l) / 16 ≡ h) × ((16 * h + l) % 16 ≡ l)
two h l small =
    let turned : 16 * h + l ≡ h * 16 + l = omega arith in
    (ap (λ t. t / 16) turned ∙ div-mul-add h 16 l small, ap (λ t. t % 16) turned ∙ mod-mul-add h 16 l small)

nibbles-paired : (ns : List ℕ) → AreNibbles ns → nibbles (paired ns) ≡ ns ++ pad ns
nibbles-paired [] small = refl
nibbles-paired (h ∷ []) small =
    let parts = two h 0 (lit< tt) in
    let whole : 16 * h ≡ 16 * h + 0 = omega arith in
    ap₂ (λ a b. a ∷ b ∷ []) (ap (λ t. t / 16) whole ∙ parts.0) (ap (λ t. t % 16) whole ∙ parts.1)
nibbles-paired (h ∷ l ∷ ns) small =
    let parts = two h l small.1.0 in
    ap₂ (λ a b. a ∷ b ∷ nibbles (paired ns)) parts.0 parts.1 ∙ ap (λ t. h ∷ l ∷ t) (nibbles-paired ns small.1.1)

pad-decimal : (ns : List ℕ) → list_all is_decimal_nibble (pad ns) ≡ true
pad-decimal [] = refl
pad-decimal (h ∷ []) = refl
pad-decimal (h ∷ l ∷ ns) = pad-decimal ns

digits-small : (n m : ℕ) → AreNibbles (last_digits n m)
unfolding last_digits
digits-small zero m = tt
digits-small (suc n) m = (let small : m / 10 ^ n % 10 < 10 = mod-lt (m / 10 ^ n) (lit< tt) in omega arith, digits-small n m)

digits-decimal : (n m : ℕ) → list_all is_decimal_nibble (last_digits n m) ≡ true
unfolding last_digits
digits-decimal zero m = refl
digits-decimal (suc n) m =
    let small : m / 10 ^ n % 10 < 10 = mod-lt (m / 10 ^ n) (lit< tt) in
    rw (le-leb (m / 10 ^ n % 10) 9 (omega arith)) (digits-decimal n m)

small-append : (xs ys : List ℕ) → AreNibbles xs → AreNibbles ys → AreNibbles (xs ++ ys)
small-append [] ys a b = b
small-append (x ∷ xs) ys a b = (a.0, small-append xs ys a.1 b)

before-small : (s : SignNibble) (neg : Bool) → AreNibbles (sign_before s neg)
before-small Absent neg = tt
before-small Before true = (omega arith, tt)
before-small Before false = (omega arith, tt)
before-small After neg = tt

after-small : (s : SignNibble) (neg : Bool) → AreNibbles (sign_after s neg)
after-small Absent neg = tt
after-small Before neg = tt
after-small After true = (omega arith, tt)
after-small After false = (omega arith, tt)

digits-number : (n a m : ℕ) → decimal_after a (last_digits n m) ≡ a * 10 ^ n + m % 10 ^ n
unfolding last_digits
digits-number zero a m = omega arith
digits-number (suc n) a m =
    let d : ℕ = m / 10 ^ n % 10 in
    let rest : decimal_after (10 * a + d) (last_digits n m) ≡ (10 * a + d) * 10 ^ n + m % 10 ^ n = digits-number n (10 * a + d) m in
    let parted : m % (10 * 10 ^ n) ≡ d * 10 ^ n + m % 10 ^ n = mod-mul m {m = 10} {c = 10 ^ n} (lit< tt) (ten_pos n) in
    rest ∙ rw (pow-succ' 10 n, parted) (omega arith)

-- What is read in the nibbles of a row, with anything after them that is a digit.
digits-there : (s : SignNibble) (n : ℕ) (neg : Bool) (ds rest : List ℕ) → length ds ≡ n → digits_in s n (sign_before s neg ++ (ds ++ sign_after s neg) ++ rest) ≡ ds
digits-there Absent n neg ds rest e = ap (take n) (append_assoc ds [] rest) ∙ take_at ds rest n e
digits-there Before n neg ds rest e = ap (take n) (append_assoc ds [] rest) ∙ take_at ds rest n e
digits-there After n neg ds rest e = ap (take n) (append_assoc ds ((if neg then 13 else 12) ∷ []) rest) ∙ take_at ds ((if neg then 13 else 12) ∷ rest) n e

all-join : (xs ys : List ℕ) → list_all is_decimal_nibble xs ≡ true → list_all is_decimal_nibble ys ≡ true → list_all is_decimal_nibble (xs ++ ys) ≡ true
all-join xs ys a b = list_all-append is_decimal_nibble xs ys ∙ ap₂ (λ s t. s && t) a b

digits-pass : (s : SignNibble) (n : ℕ) (neg : Bool) (ds rest : List ℕ) → length ds ≡ n → list_all is_decimal_nibble ds ≡ true → list_all is_decimal_nibble rest ≡ true
    → are_digits s n (sign_before s neg ++ (ds ++ sign_after s neg) ++ rest) ≡ true
digits-pass Absent n neg ds rest e a b = all-join (ds ++ []) rest (all-join ds [] a refl) b
digits-pass Before n true ds rest e a b = all-join (ds ++ []) rest (all-join ds [] a refl) b
digits-pass Before n false ds rest e a b = all-join (ds ++ []) rest (all-join ds [] a refl) b
digits-pass After n neg ds rest e a b = ap (list_all is_decimal_nibble) (digits-there After n neg ds rest e) ∙ a

sign-there : (n : ℕ) (ds rest : List ℕ) (s : ℕ) → length ds ≡ n → get_or ((ds ++ s ∷ []) ++ rest) n 0 ≡ s
sign-there zero [] rest s e = refl
sign-there zero (d ∷ ds) rest s e = absurd (omega arith)
sign-there (suc n) [] rest s e = absurd (omega arith)
sign-there (suc n) (d ∷ ds) rest s e = sign-there n ds rest s (omega arith)

sign-passes : (s : SignNibble) (n : ℕ) (neg : Bool) (ds rest : List ℕ) → length ds ≡ n → ends_in_sign s n (sign_before s neg ++ (ds ++ sign_after s neg) ++ rest) ≡ true
sign-passes Absent n neg ds rest e = refl
sign-passes Before n neg ds rest e = refl
sign-passes After n true ds rest e = rw (sign-there n ds rest 13 e) refl
sign-passes After n false ds rest e = rw (sign-there n ds rest 12 e) refl

sign-back : (s : SignNibble) (n : ℕ) (neg : Bool) (ds rest : List ℕ) → length ds ≡ n → has_its_sign s neg → is_below_zero s n (sign_before s neg ++ (ds ++ sign_after s neg) ++ rest) ≡ neg
sign-back Absent n neg ds rest e its = sym its
sign-back Before n true ds rest e its = refl
sign-back Before n false ds rest e its = refl
sign-back After n true ds rest e its = rw (sign-there n ds rest 13 e) refl
sign-back After n false ds rest e its = rw (sign-there n ds rest 12 e) refl

shuffle : (a p d t : ℕ) → a * (p * d * t) ≡ a * p * t * d
shuffle a p d t = omega arith

-- A number without further decimals is the fraction of its size in units of the last one.
cut-exact : (x : Number) (decimals : ℕ) → IsNumber x → size x * 10 ^ decimals % 10 ^ 111 ≡ 0 → rnd Round x.neg (cut_size decimals x) (10 ^ decimals) ≡ Ok x
cut-exact x decimals h exact =
    let all : ℕ = size x * 10 ^ decimals in
    let whole : cut_size decimals x * 10 ^ 111 ≡ all =
    sym (ap (λ r. cut_size decimals x * 10 ^ 111 + r) exact ∙ add-zero (cut_size decimals x * 10 ^ 111)) ∙ div-add-mod' all (10 ^ 111) in
    elim (cases_lt x.coef 1000000000000) [
      | inl few ↦
          let nought : x ≡ zero_number = h.spelling few in
          subst (λ (y : Number). rnd Round y.neg (cut_size decimals y) (10 ^ decimals) ≡ Ok y) (sym nought) (rnd-none Round false (cut_size decimals zero_number) (10 ^ decimals) (omega arith))
      | inr many ↦
          let up : x.coef * (10 ^ (x.place + 111) * 10 ^ decimals) ≡ cut_size decimals x * 10 ^ 222 =
          ap (λ t. x.coef * (t * 10 ^ decimals)) (pow-add 10 x.place 111) ∙ shuffle x.coef (10 ^ x.place) (10 ^ 111) (10 ^ decimals)
          ∙ ap (λ t. t * 10 ^ 111) (sym whole) ∙ mul_assoc (cut_size decimals x) (10 ^ 111) (10 ^ 111) in
          rnd-digits Round x.neg x.coef (x.place + 111) (cut_size decimals x) (10 ^ decimals) many h.digits (omega arith) (ten_pos decimals) up
          ∙ in_range-number x h.highest
    ]

nibbles-read : (row : Row) (x : Number) (rest : List ℕ) → row_fits row x ≡ true → IsSpelled row x → list_all is_decimal_nibble rest ≡ true → nibbles_number row (row_nibbles row x ++ rest) ≡ Ok x
nibbles-read row x rest fits h pass =
    let n : ℕ = row.digits in
    let m : ℕ = cut_size row.decimals x in
    let ds : List ℕ = last_digits n m in
    let long : length ds ≡ n = last_digits-length n m in
    let few : m < 10 ^ n = ltb-true m (10 ^ n) fits in
    let number : decimal_after 0 (digits_in row.sign n (row_nibbles row x ++ rest)) ≡ m =
    ap (decimal_after 0) (digits-there row.sign n x.neg ds rest long) ∙ digits-number n 0 m ∙ ap (λ t. 0 * 10 ^ n + t) (mod-eq_of_lt few) ∙ omega arith in
    rw (digits-pass row.sign n x.neg ds rest long (digits-decimal n m) pass, sign-passes row.sign n x.neg ds rest long)
    (ap within_range (ap₂ (λ neg t. rnd Round neg t (10 ^ row.decimals)) (sign-back row.sign n x.neg ds rest long h.sign) number ∙ cut-exact x row.decimals h.number h.decimals))

pub row-back : (row : Row) (x : Number) → row_fits row x ≡ true → IsSpelled row x → number_of_row row (row_bytes row x) ≡ Ok x
row-back row x fits h =
    let ds : List ℕ = last_digits row.digits (cut_size row.decimals x) in
    let small : AreNibbles (row_nibbles row x) =
    small-append (sign_before row.sign x.neg) (ds ++ sign_after row.sign x.neg) (before-small row.sign x.neg)
    (small-append ds (sign_after row.sign x.neg) (digits-small row.digits (cut_size row.decimals x)) (after-small row.sign x.neg)) in
    ap (nibbles_number row) (nibbles-paired (row_nibbles row x) small) ∙ nibbles-read row x (pad (row_nibbles row x)) fits h (pad-decimal (row_nibbles row x))
