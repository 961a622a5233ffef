-- Bytes of two decimal nibbles.
use Rattle.std.proofs.Common.{◌≡◌, ℕ, zero, suc, ◌-◌, ◌/◌, ◌%◌, ◌<◌, ◌≤◌, Bool, true, false, ◌&&◌, leb, List, [], ◌∷◌, ◌++◌, length, get_or, set, map, drop, replicate, min, take, refl, sym, ap, ◌∙◌, arith, ⊎_elim}
use Rattle.std.specs.List.{list_all}
use Rattle.std.proofs.lemmas.Bool.Decides.{leb_tells}
use Rattle.std.proofs.lemmas.Bool.{cases_lt, cases_eq, false≢true}
use Rattle.std.proofs.lemmas.List.{get_or_past, get_or-set_same, get_or-set_other, take_rest, length-map, map-append, drop-map}
use Rattle.b2_base.specs.Lexical.{is_decimal, decimal_of, decimal_byte}
use Rattle.b2_alpha.specs.Sums.{aligned}
use Rattle.b2_alpha.proofs.PlaceValues.{AllBelow, tail_below}

pub first_true : (a b : Bool) → (a && b) ≡ true → a ≡ true
first_true true b both = refl
first_true false b both = both

pub second_true : (a b : Bool) → (a && b) ≡ true → b ≡ true
second_true true b both = both
second_true false b both = absurd (false≢true both)

-- each element passes a test that all pass
pub each_passes : (p : ℕ → Bool) (xs : List ℕ) (k : ℕ) → k < length xs → list_all p xs ≡ true → p (get_or xs k 0) ≡ true
each_passes p [] k inside all = absurd (omega arith)
each_passes p (x ∷ xs) zero inside all = first_true (p x) (list_all p xs) all
each_passes p (x ∷ xs) (suc k) inside all = each_passes p xs k (omega arith) (second_true (p x) (list_all p xs) all)

-- each byte has two decimal nibbles; past the end stands 0, which has
abbrev pub AllDecimal : List ℕ → Type 0
AllDecimal xs = (k : ℕ) → is_decimal (get_or xs k 0) ≡ true

pub all_decimal : (xs : List ℕ) → list_all is_decimal xs ≡ true → AllDecimal xs
all_decimal xs all = λ k.
    ⊎_elim
    (λ inside. each_passes is_decimal xs k inside all)
    (λ past. ap is_decimal (get_or_past xs k 0 past))
    (cases_lt k (length xs))

pub decimal_set : (xs : List ℕ) (i x : ℕ) → i < length xs → is_decimal x ≡ true → AllDecimal xs → AllDecimal (set xs i x)
decimal_set xs i x inside here all = λ k.
    ⊎_elim
    (λ same. ap is_decimal (ap (λ j. get_or (set xs i x) j 0) same ∙ get_or-set_same xs i x 0 inside) ∙ here)
    (λ other. ap is_decimal (get_or-set_other xs i k x 0 other) ∙ all k)
    (cases_eq k i)

below_from_test : (a : ℕ) → leb a 9 ≡ true → a ≤ 9
below_from_test a test = ⊎_elim (λ yes. yes.1) (λ no. absurd (false≢true (sym no.0 ∙ test))) (leb_tells a 9)

test_from_below : (a : ℕ) → a ≤ 9 → leb a 9 ≡ true
test_from_below a below = ⊎_elim (λ yes. yes.0) (λ no. absurd (omega (arith, no.1))) (leb_tells a 9)

pub nibbles_small : (b : ℕ) → is_decimal b ≡ true → (b / 16 ≤ 9) × (b % 16 ≤ 9)
nibbles_small b decimal =
    (below_from_test (b / 16) (first_true (leb (b / 16) 9) (leb (b % 16) 9) decimal), below_from_test (b % 16) (second_true (leb (b / 16) 9) (leb (b % 16) 9) decimal))

pub decimal_of-lt : (b : ℕ) → is_decimal b ≡ true → decimal_of b < 100
decimal_of-lt b decimal = let small = nibbles_small b decimal in omega arith

pub decimal_byte-decimal_of : (b : ℕ) → is_decimal b ≡ true → decimal_byte (decimal_of b) ≡ b
decimal_byte-decimal_of b decimal = let small = nibbles_small b decimal in omega arith

pub decimal_of-decimal_byte : (d : ℕ) → d < 100 → decimal_of (decimal_byte d) ≡ d
decimal_of-decimal_byte d small = omega arith

pub is_decimal-decimal_byte : (d : ℕ) → d < 100 → is_decimal (decimal_byte d) ≡ true
is_decimal-decimal_byte d small =
    let high : decimal_byte d / 16 ≤ 9 = omega arith in
    let low : decimal_byte d % 16 ≤ 9 = omega arith in
    ap (λ t. t && leb (decimal_byte d % 16) 9) (test_from_below (decimal_byte d / 16) high) ∙ test_from_below (decimal_byte d % 16) low

pub decimals_below : (xs : List ℕ) → AllDecimal xs → (k : ℕ) → get_or (map decimal_of xs) k 0 < 100
decimals_below [] all k = omega arith
decimals_below (x ∷ xs) all zero = decimal_of-lt x (all 0)
decimals_below (x ∷ xs) all (suc k) = decimals_below xs (λ j. all (suc j)) k

pub nibbles_back : (xs : List ℕ) → AllDecimal xs → map decimal_byte (map decimal_of xs) ≡ xs
nibbles_back [] all = refl
nibbles_back (x ∷ xs) all =
    ap (λ y. y ∷ map decimal_byte (map decimal_of xs)) (decimal_byte-decimal_of x (all 0)) ∙ ap (λ l. x ∷ l) (nibbles_back xs (λ j. all (suc j)))

zeros_decimal : (n : ℕ) (ys : List ℕ) → list_all is_decimal (replicate n 0 ++ ys) ≡ list_all is_decimal ys
zeros_decimal zero ys = refl
zeros_decimal (suc n) ys = zeros_decimal n ys

-- the part of the operand that stands under the receiver decides
pub used_decimal : (n : ℕ) (ys : List ℕ) → list_all is_decimal (aligned n ys) ≡ list_all is_decimal (take (length ys - (length ys - min (length ys) n)) (drop (length ys - min (length ys) n) ys))
used_decimal n ys =
    let cut : length ys - n ≡ length ys - min (length ys) n = omega arith in
    zeros_decimal (n - length ys) (drop (length ys - n) ys)
    ∙ ap (λ i. list_all is_decimal (drop i ys)) cut
    ∙ ap (list_all is_decimal) (sym (take_rest ys (length ys - min (length ys) n)))

-- places of base 100 in nibbles are read back
pub decimals_back : (ds : List ℕ) → AllBelow 100 ds → map decimal_of (map decimal_byte ds) ≡ ds
decimals_back [] below = refl
decimals_back (d ∷ ds) below =
    ap (λ x. x ∷ map decimal_of (map decimal_byte ds)) (decimal_of-decimal_byte d (below 0)) ∙ ap (λ l. d ∷ l) (decimals_back ds (tail_below 100 d ds below))

map_replicate : (n : ℕ) → map decimal_of (replicate n 0) ≡ replicate n 0
map_replicate zero = refl
map_replicate (suc n) = ap (λ l. 0 ∷ l) (map_replicate n)

-- the operand's places stand where its bytes stand
pub decimals_aligned : (n : ℕ) (ys : List ℕ) → map decimal_of (aligned n ys) ≡ aligned n (map decimal_of ys)
decimals_aligned n ys =
    let same : length (map decimal_of ys) ≡ length ys = length-map ys decimal_of in
    map-append decimal_of (replicate (n - length ys) 0) (drop (length ys - n) ys)
    ∙ ap (λ l. l ++ map decimal_of (drop (length ys - n) ys)) (map_replicate (n - length ys))
    ∙ ap (λ l. replicate (n - length ys) 0 ++ l) (sym (drop-map decimal_of (length ys - n) ys))
    ∙ ap (λ k. replicate (n - k) 0 ++ drop (k - n) (map decimal_of ys)) (sym same)
