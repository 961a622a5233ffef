-- Numbers in places of a base: their digits, their size, and one place more.
use Rattle.std.proofs.Common.{◌≡◌, ℕ, zero, suc, ◌+◌, ◌-◌, ◌*◌, ◌/◌, ◌%◌, ◌^◌, ◌<◌, ◌≤◌, List, [], ◌∷◌, ◌++◌, length, get_or, set, take, drop, map, refl, sym, ap, ◌∙◌, arith, ⊎_elim}
use Rattle.std.proofs.Math.Nat.{pow-zero, pow-suc, pow-succ', pow-le-pow_right, one-le-pow, div-add-mod', mod-one}
use Rattle.std.proofs.Math.Arith.{mod-mul}
use Rattle.std.proofs.lemmas.Bool.{cases_lt}
use Rattle.std.proofs.lemmas.List.{length-append, length-drop, length-map, length-take, drop-set, drop_more, take_more, get_or-take, get_or_past}
use Rattle.std.proofs.lemmas.Nat.{mod-mul-add, div-mul-add, mod_below}
use Rattle.b2_alpha.specs.Places.{number_in_base, digits_in_base}

-- each digit is below the base
abbrev pub AllBelow : ℕ → List ℕ → Type 0
AllBelow base xs = (k : ℕ) → get_or xs k 0 < base

pub tail_below : (base x : ℕ) (xs : List ℕ) → AllBelow base (x ∷ xs) → AllBelow base xs
tail_below base x xs below = λ k. below (suc k)

pub pow_more : (base i : ℕ) → base ^ (i + 1) ≡ base ^ i * base
pow_more base i = let e : i + 1 ≡ suc i = omega arith in ap (λ n. base ^ n) e ∙ pow-suc base i

number_in_base-lt-more : (base p x n : ℕ) → x < base → n < p → x * p + n < p * base
number_in_base-lt-more base p x n here rest = grind arith

pub number_in_base-lt : (base : ℕ) (xs : List ℕ) → AllBelow base xs → number_in_base base xs < base ^ length xs
number_in_base-lt base [] below = let one : base ^ length {A = ℕ} [] ≡ 1 = pow-zero base in omega arith
number_in_base-lt base (x ∷ xs) below =
    let power : base ^ suc (length xs) ≡ base ^ length xs * base = pow-suc base (length xs) in
    let bound = number_in_base-lt-more base (base ^ length xs) x (number_in_base base xs) (below 0) (number_in_base-lt base xs (tail_below base x xs below)) in
    rw power bound

-- one digit more at the right
pub number_in_base-push : (base : ℕ) (xs : List ℕ) (x : ℕ) → number_in_base base (xs ++ x ∷ []) ≡ number_in_base base xs * base + x
number_in_base-push base [] x = let one : base ^ length {A = ℕ} [] ≡ 1 = pow-zero base in ap (λ p. x * p + 0) one ∙ omega arith
number_in_base-push base (y ∷ ys) x =
    let rest : number_in_base base (ys ++ x ∷ []) ≡ number_in_base base ys * base + x = number_in_base-push base ys x in
    let longer : length (ys ++ x ∷ []) ≡ suc (length ys) = omega (arith, length-append ys (x ∷ [])) in
    let powers : base ^ length (ys ++ x ∷ []) ≡ base ^ length ys * base = ap (λ n. base ^ n) longer ∙ pow-suc base (length ys) in
    ap (λ p. y * p + number_in_base base (ys ++ x ∷ [])) powers ∙ omega arith

-- one digit more at the left
pub number_at : (base : ℕ) (xs : List ℕ) (p i : ℕ) → length xs ≡ p + 1 + i → number_in_base base (drop p xs) ≡ get_or xs p 0 * base ^ i + number_in_base base (drop (p + 1) xs)
number_at base xs p i len =
    let rest : length (drop (p + 1) xs) ≡ i = omega (arith, length-drop (p + 1) xs) in
    ap (number_in_base base) (drop_more xs p 0 (omega arith)) ∙ ap (λ n. get_or xs p 0 * base ^ n + number_in_base base (drop (p + 1) xs)) rest

place_of_two : (base p t v carry n total q r : ℕ) → q * base + r ≡ v + carry → n + carry * p ≡ total → r * p + n + q * (p * base) ≡ v * p + total
place_of_two base p t v carry n total q r split sofar =
    let scaled : (q * base + r) * p ≡ (v + carry) * p = ap (λ m. m * p) split in
    omega arith

-- A place made from the right, of a value and what was carried to it: what it keeps and what it carries on.
pub place_more : (base : ℕ) (xs : List ℕ) (p i v carry total : ℕ) → length xs ≡ p + 1 + i → number_in_base base (drop (p + 1) xs) + carry * base ^ i ≡ total → number_in_base base (drop p (set xs p ((v + carry) % base))) + (v + carry) / base * base ^ (i + 1) ≡ v * base ^ i + total
place_more base xs p i v carry total len sofar =
    let q : ℕ = (v + carry) / base in
    let r : ℕ = (v + carry) % base in
    let rest : length (drop (p + 1) xs) ≡ i = omega (arith, length-drop (p + 1) xs) in
    ap (λ l. number_in_base base l + (v + carry) / base * base ^ (i + 1)) (drop-set xs p ((v + carry) % base) (omega arith))
    ∙ ap (λ n. (v + carry) % base * base ^ n + number_in_base base (drop (p + 1) xs) + (v + carry) / base * base ^ (i + 1)) rest
    ∙ ap (λ n. (v + carry) % base * base ^ i + number_in_base base (drop (p + 1) xs) + (v + carry) / base * n) (pow_more base i)
    ∙ place_of_two base (base ^ i) 0 v carry (number_in_base base (drop (p + 1) xs)) total ((v + carry) / base) ((v + carry) % base) (div-add-mod' (v + carry) base) sofar

pub length-digits : (base k n : ℕ) → length (digits_in_base base k n) ≡ k
length-digits base zero n = refl
length-digits base (suc k) n = ap suc (length-digits base k n)

regroup : (base p x n carry : ℕ) → carry * (p * base) + (x * p + n) ≡ (carry * base + x) * p + n
regroup base p x n carry = omega arith

-- The digits of a number that digits spell are those digits, whatever stands above them.
pub digits_in_base-number : (base : ℕ) (xs : List ℕ) (carry : ℕ) → AllBelow base xs → digits_in_base base (length xs) (carry * base ^ length xs + number_in_base base xs) ≡ xs
digits_in_base-number base [] carry below = refl
digits_in_base-number base (x ∷ xs) carry below =
    let p : ℕ = base ^ length xs in
    let same : carry * base ^ suc (length xs) + (x * base ^ length xs + number_in_base base xs) ≡ (carry * base + x) * base ^ length xs + number_in_base base xs =
    ap (λ m. carry * m + (x * base ^ length xs + number_in_base base xs)) (pow-suc base (length xs)) ∙ regroup base (base ^ length xs) x (number_in_base base xs) carry in
    let small : number_in_base base xs < base ^ length xs = number_in_base-lt base xs (tail_below base x xs below) in
    let first : ((carry * base + x) * base ^ length xs + number_in_base base xs) / base ^ length xs % base ≡ x =
    ap (λ m. m % base) (div-mul-add (carry * base + x) (base ^ length xs) (number_in_base base xs) small) ∙ mod-mul-add carry base x (below 0) in
    let rest : digits_in_base base (length xs) ((carry * base + x) * base ^ length xs + number_in_base base xs) ≡ xs =
    digits_in_base-number base xs (carry * base + x) (tail_below base x xs below) in
    ap (λ m. m / base ^ length xs % base ∷ digits_in_base base (length xs) m) same ∙ ap (λ d. d ∷ digits_in_base base (length xs) ((carry * base + x) * base ^ length xs + number_in_base base xs)) first ∙ ap (λ l. x ∷ l) rest

complement_step : (base p c x m n : ℕ) → c + x + 1 ≡ base → m + n + 1 ≡ p → c * p + m + (x * p + n) + 1 ≡ p * base
complement_step base p c x m n whole rest =
    let scaled : (c + x + 1) * p ≡ base * p = ap (λ k. k * p) whole in
    omega arith

-- a number and the number of its digits' complements
pub number_in_base-complement : (base : ℕ) (xs : List ℕ) → AllBelow base xs → number_in_base base (map (λ x. base - 1 - x) xs) + number_in_base base xs + 1 ≡ base ^ length xs
number_in_base-complement base [] below = sym (pow-zero base)
number_in_base-complement base (x ∷ xs) below =
    let here : x < base = below 0 in
    let whole : base - 1 - x + x + 1 ≡ base = omega arith in
    let rest : number_in_base base (map (λ x. base - 1 - x) xs) + number_in_base base xs + 1 ≡ base ^ length xs = number_in_base-complement base xs (tail_below base x xs below) in
    ap (λ n. (base - 1 - x) * base ^ n + number_in_base base (map (λ x. base - 1 - x) xs) + (x * base ^ length xs + number_in_base base xs) + 1) (length-map xs (λ x. base - 1 - x))
    ∙ complement_step base (base ^ length xs) (base - 1 - x) x (number_in_base base (map (λ x. base - 1 - x) xs)) (number_in_base base xs) whole rest
    ∙ sym (pow-suc base (length xs))

pub below_take : (base n : ℕ) (xs : List ℕ) → 0 < base → AllBelow base xs → AllBelow base (take n xs)
below_take base n xs some below = λ k.
    ⊎_elim
    (λ inside. let e : get_or (take n xs) k 0 ≡ get_or xs k 0 = get_or-take n xs k 0 inside in let b = below k in omega arith)
    (λ past. let e : get_or (take n xs) k 0 ≡ 0 = get_or_past (take n xs) k 0 (omega (arith, length-take n xs)) in omega arith)
    (cases_lt k n)

-- up to three bytes in front leave room for a fourth
pub front-lt : (xs : List ℕ) (i : ℕ) → AllBelow 256 xs → i < 4 → number_in_base 256 (take i xs) < 16777216
front-lt xs i below few =
    let small : number_in_base 256 (take i xs) < 256 ^ length (take i xs) = number_in_base-lt 256 (take i xs) (below_take 256 i xs (omega arith) below) in
    let most : 256 ^ length (take i xs) ≤ 256 ^ 3 = pow-le-pow_right {n = 256} (omega arith) {i = length (take i xs)} {j = 3} (omega (arith, length-take i xs)) in
    omega arith

pub number_in_base-more : (base : ℕ) (xs : List ℕ) (i : ℕ) → i < length xs → number_in_base base (take (i + 1) xs) ≡ number_in_base base (take i xs) * base + get_or xs i 0
number_in_base-more base xs i inside = ap (number_in_base base) (take_more xs i 0 inside) ∙ number_in_base-push base (take i xs) (get_or xs i 0)

pub digits_more : (base i n : ℕ) → digits_in_base base (i + 1) n ≡ n / base ^ i % base ∷ digits_in_base base i n
digits_more base i n = let e : i + 1 ≡ suc i = omega arith in ap (λ k. digits_in_base base k n) e

-- A number up to the power that is lost above its digits.
pub number_in_base-digits : (base k n : ℕ) → 0 < base → number_in_base base (digits_in_base base k n) ≡ n % base ^ k
number_in_base-digits base zero n some = sym (ap (λ p. n % p) (pow-zero base) ∙ mod-one n)
number_in_base-digits base (suc k) n some =
    ap (λ j. n / base ^ k % base * base ^ j + number_in_base base (digits_in_base base k n)) (length-digits base k n)
    ∙ ap (λ m. n / base ^ k % base * base ^ k + m) (number_in_base-digits base k n some)
    ∙ sym (ap (λ p. n % p) (pow-succ' base k) ∙ mod-mul n some (one-le-pow k base some))

-- a number that has room in its digits
pub number_in_base-digits_fitting : (base k n : ℕ) → 0 < base → n < base ^ k → number_in_base base (digits_in_base base k n) ≡ n
number_in_base-digits_fitting base k n some small =
    number_in_base-digits base k n some ∙ ap (λ m. m % base ^ k) (let e : n ≡ 0 * base ^ k + n = omega arith in e) ∙ mod-mul-add 0 (base ^ k) n small

below_first : (base x : ℕ) (xs : List ℕ) → x < base → AllBelow base xs → (j : ℕ) → get_or (x ∷ xs) j 0 < base
below_first base x xs small below zero = small
below_first base x xs small below (suc j) = below j

pub digits_below : (base k n : ℕ) → 0 < base → AllBelow base (digits_in_base base k n)
digits_below base zero n some = λ j. some
digits_below base (suc k) n some = below_first base (n / base ^ k % base) (digits_in_base base k n) (mod_below (n / base ^ k) base some) (digits_below base k n some)
