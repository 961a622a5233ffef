-- What is left of one number by another.
use Rattle.std.proofs.Common.{◌≡◌, ℕ, zero, suc, ◌+◌, ◌-◌, ◌*◌, ◌/◌, ◌%◌, ◌^◌, ◌<◌, ◌≤◌, pos, negsuc, neg_ℤ, ◌-ℤ◌, ◌*ℤ◌, Bool, true, false, not, Result, Ok, Err, is_err, sym, refl, ap, ap₂, ◌∙◌, arith, lit<, pow-add, mul_assoc, mul_comm, mul-pos, zero-mul, ne_eqb, mod-lt, div-add-mod', add-mul, one-mul, mod-eq_of_lt, add-sub_of_le, ⊎_elim, ◌⊎◌}
use Rattle.std.proofs.lemmas.Int.{ints}
use Rattle.std.proofs.lemmas.Nat.{mul-mod_first}
use native.Mathlib.Nat.{lt-div-mul-add, zero-mod, eq_of_mul-eq-mul_right}
use Rattle.b2_dec.specs.declared.number.Mode.{Mode}
use Rattle.b2_dec.specs.Number.{Number, zero_number, IsNumber, size, value, signed}
use Rattle.b2_dec.specs.Rounding.{rnd, rounded}
use Rattle.b2_dec.specs.Arithmetic.{floored, floor_of, modulo_of, whole_above, sum_of, product_of, times, onwards}
use Rattle.b2_dec.proofs.TenLemmas.{ten_pos}
use Rattle.b2_dec.proofs.Signs.{rounded-signed, sum-other-sizes, size-lower, in_units, times-sub}
use Rattle.b2_dec.proofs.Factors.{signed-mul}
use Rattle.b2_dec.proofs.Exact.{rnd-none, rnd-number, sum-comm, value-zero}
use Rattle.b2_dec.proofs.Wholes.{signed-zero, floored-above, above-is, above-exact}
use Rattle.b2_dec.proofs.Parts.{mul-mod}

-- One multiplication less is left.
pub times-step : (mode : Mode) (a p q : Number) (n i : ℕ) → i < n → product_of mode p a ≡ Ok q → times mode (n - i) a p ≡ times mode (n - (i + 1)) a q
times-step mode a p q n i below e =
    let next : n - i ≡ suc (n - (i + 1)) = omega arith in
    ap (λ k. times mode k a p) next ∙ ap (λ r. onwards r (times mode (n - (i + 1)) a)) e

-- a code goes through what follows
refused : (r : Result Number ℕ) (f : Number → Result Number ℕ) → is_err r ≡ true → onwards r f ≡ r
refused (Ok x) f h = cc
refused (Err code) f h = refl

-- A product that is a code is what the whole comes to.
pub times-refused : (mode : Mode) (a p : Number) (r : Result Number ℕ) (n i : ℕ) → i < n → r ≡ product_of mode p a → is_err r ≡ true → times mode (n - i) a p ≡ r
times-refused mode a p r n i below e coded =
    let next : n - i ≡ suc (n - (i + 1)) = omega arith in
    ap (λ k. times mode k a p) next ∙ ap (λ s. onwards s (times mode (n - (i + 1)) a)) (sym e) ∙ refused r _ coded

-- Some places at a time leave the same rest.
pub rest-step : (r s l y : ℕ) → s ≤ l → r * 10 ^ s % y * 10 ^ (l - s) % y ≡ r * 10 ^ l % y
rest-step r s l y h =
    mul-mod_first (r * 10 ^ s) (10 ^ (l - s)) y
    ∙ ap (λ t. t % y) (mul_assoc r (10 ^ s) (10 ^ (l - s)) ∙ ap (λ t. r * t) (sym (pow-add 10 s (l - s))) ∙ ap (λ t. r * 10 ^ t) (add-sub_of_le h))

neg-neg : (n : ℕ) → neg_ℤ (neg_ℤ (pos n)) ≡ pos n
neg-neg zero = refl
neg-neg (suc n) = refl

-- The same sign: the rest of the sizes.
rest-same : (s : Bool) (m n : ℕ) → 0 < n → signed s m -ℤ signed s n *ℤ floor_of (signed s m) (signed s n) ≡ signed s (m % n)
rest-same s m zero h = absurd (omega arith)
rest-same false m (suc k) h = let parts = div-add-mod' m (suc k) in omega (arith, ints, parts, mul_comm (suc k) (m / suc k))
rest-same true m (suc k) h =
    let parts = div-add-mod' m (suc k) in
    ap (λ z. neg_ℤ (pos m) -ℤ negsuc k *ℤ floored z (suc k)) (neg-neg m) ∙ omega (arith, ints, parts, mul_comm (suc k) (m / suc k))

above-cover : (m n : ℕ) → 0 < m → 0 < n → m ≤ n * whole_above m n
above-cover m n some h =
    let last : m - 1 < (m - 1) / n * n + n = lt-div-mul-add {a = m - 1} h in
    let all : n * whole_above m n ≡ (m - 1) / n * n + n =
    mul_comm n (whole_above m n) ∙ add-mul ((m - 1) / n) 1 n ∙ ap (λ t. (m - 1) / n * n + t) (one-mul n) in
    rw all (omega arith)

minus-up : (m x : ℕ) → m ≤ x → signed true m -ℤ signed true x ≡ signed false (x - m)
minus-up m x h = omega (arith, ints)

minus-down : (m x : ℕ) → m ≤ x → signed false m -ℤ signed false x ≡ signed true (x - m)
minus-down m x h = omega (arith, ints)

-- Different signs: what is missing up to the next multiple.
rest-other : (s : Bool) (m n : ℕ) → 0 < m → 0 < n → signed (not s) m -ℤ signed s n *ℤ floor_of (signed (not s) m) (signed s n) ≡ signed s (n * whole_above m n - m)
rest-other s m zero some h = absurd (omega arith)
rest-other false m (suc k) some h =
    ap (λ z. signed true m -ℤ signed false (suc k) *ℤ z) (floored-above m (suc k) some)
    ∙ ap (λ z. signed true m -ℤ z) (signed-mul false true (suc k) (whole_above m (suc k)))
    ∙ minus-up m (suc k * whole_above m (suc k)) (above-cover m (suc k) some h)
rest-other true m (suc k) some h =
    ap (λ z. signed false m -ℤ signed true (suc k) *ℤ z) (floored-above m (suc k) some)
    ∙ ap (λ z. signed false m -ℤ z) (signed-mul true true (suc k) (whole_above m (suc k)))
    ∙ minus-down m (suc k * whole_above m (suc k)) (above-cover m (suc k) some h)

positive-part : (a b : ℕ) → 0 < a * b → 0 < a
positive-part zero b h = absurd (omega (arith, zero-mul b))
positive-part (suc k) b h = omega arith

missing-none : (m n : ℕ) → 0 < m → 0 < n → m % n ≡ 0 → n * whole_above m n - m ≡ 0
missing-none m n some h e =
    let all : m ≡ m / n * n = omega (arith, div-add-mod' m n, e) in
    let more : 0 < m / n = positive-part (m / n) n (omega arith) in
    let whole : n * whole_above m n ≡ m = mul_comm n (whole_above m n) ∙ above-exact m (m / n) n h more all in
    omega arith

missing-some : (m n : ℕ) → 0 < m → 0 < n → (m % n ≡ 0 → ⊥) → n * whole_above m n - m ≡ n - m % n
missing-some m n some h rest =
    let small : m % n < n = mod-lt m h in
    let next : (m / n + 1) * n ≡ m / n * n + n = add-mul (m / n) 1 n ∙ ap (λ t. m / n * n + t) (one-mul n) in
    let parts = div-add-mod' m n in
    let low : m / n * n < m = omega arith in
    let high : m ≤ (m / n + 1) * n = omega arith in
    let whole : n * whole_above m n ≡ m / n * n + n = mul_comm n (whole_above m n) ∙ ap (λ t. t * n) (above-is m (m / n) n low high) ∙ next in
    omega arith

-- What is left of two numbers, by their sizes.
pub modulo_of-same : (mode : Mode) (a b : Number) → (b.coef ≡ 0 → ⊥) → a.neg ≡ b.neg → modulo_of mode a b ≡ rnd mode b.neg (size a % size b) (10 ^ 111)
modulo_of-same mode a b some same =
    let more : 0 < size b = mul-pos {m = b.coef} (omega arith) (ten_pos b.place) in
    rw (ne_eqb b.coef 0 some)
    (ap (λ z. rounded mode z (10 ^ 111))
    (ap (λ s. signed s (size a) -ℤ value b *ℤ floor_of (signed s (size a)) (value b)) same ∙ rest-same b.neg (size a) (size b) more)
    ∙ rounded-signed mode b.neg (size a % size b) (10 ^ 111))

modulo_of-turned : (mode : Mode) (a b : Number) → (b.coef ≡ 0 → ⊥) → a.neg ≡ not b.neg → 0 < size a
    → modulo_of mode a b ≡ rnd mode b.neg (size b * whole_above (size a) (size b) - size a) (10 ^ 111)
modulo_of-turned mode a b some other here =
    let more : 0 < size b = mul-pos {m = b.coef} (omega arith) (ten_pos b.place) in
    rw (ne_eqb b.coef 0 some)
    (ap (λ z. rounded mode z (10 ^ 111))
    (ap (λ s. signed s (size a) -ℤ value b *ℤ floor_of (signed s (size a)) (value b)) other ∙ rest-other b.neg (size a) (size b) here more)
    ∙ rounded-signed mode b.neg (size b * whole_above (size a) (size b) - size a) (10 ^ 111))

pub modulo_of-even : (mode : Mode) (a b : Number) → (b.coef ≡ 0 → ⊥) → a.neg ≡ not b.neg → 0 < size a → size a % size b ≡ 0
    → modulo_of mode a b ≡ rnd mode b.neg (size a % size b) (10 ^ 111)
modulo_of-even mode a b some other here e =
    let more : 0 < size b = mul-pos {m = b.coef} (omega arith) (ten_pos b.place) in
    modulo_of-turned mode a b some other here ∙ ap (λ n. rnd mode b.neg n (10 ^ 111)) (missing-none (size a) (size b) here more e ∙ sym e)

pub modulo_of-other : (mode : Mode) (a b : Number) → (b.coef ≡ 0 → ⊥) → a.neg ≡ not b.neg → 0 < size a → (size a % size b ≡ 0 → ⊥)
    → modulo_of mode a b ≡ rnd mode b.neg (size b - size a % size b) (10 ^ 111)
modulo_of-other mode a b some other here rest =
    let more : 0 < size b = mul-pos {m = b.coef} (omega arith) (ten_pos b.place) in
    modulo_of-turned mode a b some other here ∙ ap (λ n. rnd mode b.neg n (10 ^ 111)) (missing-some (size a) (size b) here more rest)

-- The rest of zero is zero.
pub modulo_of-zero : (mode : Mode) (a b : Number) → (b.coef ≡ 0 → ⊥) → a.coef ≡ 0 → modulo_of mode a b ≡ Ok zero_number
modulo_of-zero mode a b some none =
    let more : 0 < size b = mul-pos {m = b.coef} (omega arith) (ten_pos b.place) in
    rw (ne_eqb b.coef 0 some)
    (ap (λ z. rounded mode z (10 ^ 111))
    (ap (λ z. z -ℤ value b *ℤ floor_of z (value b)) (value-zero a none ∙ sym (signed-zero b.neg)) ∙ rest-same b.neg 0 (size b) more)
    ∙ rounded-signed mode b.neg (0 % size b) (10 ^ 111) ∙ rnd-none mode b.neg (0 % size b) (10 ^ 111) (zero-mod (size b)))

-- A smaller number of the same sign is left as it is.
pub modulo_of-small : (mode : Mode) (a b : Number) → IsNumber a → (b.coef ≡ 0 → ⊥) → a.neg ≡ b.neg → size a < size b → modulo_of mode a b ≡ Ok a
modulo_of-small mode a b h some same less =
    modulo_of-same mode a b some same ∙ ap₂ (λ s n. rnd mode s n (10 ^ 111)) (sym same) (mod-eq_of_lt less) ∙ rnd-number mode a h

-- A smaller number of the other sign is added.
pub modulo_of-sum : (mode : Mode) (a b : Number) → (b.coef ≡ 0 → ⊥) → a.neg ≡ not b.neg → 0 < size a → size a < size b → modulo_of mode a b ≡ sum_of mode a b
modulo_of-sum mode a b some other here less =
    let itself : size a % size b ≡ size a = mod-eq_of_lt less in
    modulo_of-other mode a b some other here (λ e. let none : size a ≡ 0 = sym itself ∙ e in omega arith)
    ∙ ap (λ n. rnd mode b.neg (size b - n) (10 ^ 111)) itself
    ∙ sym (sum-other-sizes mode b a other (omega arith)) ∙ sum-comm mode b a

-- The rest of digits raised by places, in units of the divisor's last digit.
rest-units : (a b : Number) (k : ℕ) → 0 < b.coef → a.place ≡ b.place + k → size a % size b ≡ a.coef * 10 ^ k % b.coef * 10 ^ b.place
rest-units a b k h e = ap (λ n. n % size b) (size-lower a b.place k e) ∙ mul-mod (a.coef * 10 ^ k) b.coef (10 ^ b.place) h (ten_pos b.place)

pub rest-kept : (mode : Mode) (a b : Number) (k x q : ℕ) (s : Bool) (r : Result Number ℕ) → (b.coef ≡ 0 → ⊥) → 0 < size a → a.place ≡ b.place + k
    → x ≡ a.coef * 10 ^ k % b.coef → q ≡ b.place → s ≡ b.neg → (a.neg ≡ b.neg) ⊎ ((a.neg ≡ not b.neg) × (x ≡ 0))
    → ((n d : ℕ) → 0 < d → x * (10 ^ (q + 111) * d) ≡ n * 10 ^ 222 → r ≡ rnd mode s n d) → r ≡ modulo_of mode a b
rest-kept mode a b k x q s r some here apart ex eq es signs made =
    let more : 0 < b.coef = omega arith in
    let rest : size a % size b ≡ x * 10 ^ b.place = rest-units a b k more apart ∙ ap (λ t. t * 10 ^ b.place) (sym ex) in
    made (x * 10 ^ b.place) (10 ^ 111) (lit< tt) (rw eq (in_units x b.place))
    ∙ ap₂ (λ t n. rnd mode t n (10 ^ 111)) es (sym rest)
    ∙ sym (⊎_elim (λ same. modulo_of-same mode a b some same)
    (λ other. modulo_of-even mode a b some other.0 here (rest ∙ ap (λ t. t * 10 ^ b.place) other.1 ∙ zero-mul (10 ^ b.place))) signs)

pub rest-turned : (mode : Mode) (a b : Number) (k x q : ℕ) (s : Bool) (r : Result Number ℕ) → (b.coef ≡ 0 → ⊥) → 0 < size a → a.place ≡ b.place + k
    → x ≡ a.coef * 10 ^ k % b.coef → q ≡ b.place → s ≡ b.neg → a.neg ≡ not b.neg → (x ≡ 0 → ⊥) → (y : ℕ) → y ≡ b.coef
    → ((n d : ℕ) → 0 < d → (y - x) * (10 ^ (q + 111) * d) ≡ n * 10 ^ 222 → r ≡ rnd mode s n d) → r ≡ modulo_of mode a b
rest-turned mode a b k x q s r some here apart ex eq es other left y ey made =
    let more : 0 < b.coef = omega arith in
    let rest : size a % size b ≡ x * 10 ^ b.place = rest-units a b k more apart ∙ ap (λ t. t * 10 ^ b.place) (sym ex) in
    let some' : size a % size b ≡ 0 → ⊥ = λ e.
    left (eq_of_mul-eq-mul_right (10 ^ b.place) (ten_pos b.place) x 0 (sym rest ∙ e ∙ sym (zero-mul (10 ^ b.place)))) in
    made ((b.coef - x) * 10 ^ b.place) (10 ^ 111) (lit< tt) (rw (ey, eq) (in_units (b.coef - x) b.place))
    ∙ ap (λ t. rnd mode t ((b.coef - x) * 10 ^ b.place) (10 ^ 111)) es
    ∙ ap (λ n. rnd mode b.neg n (10 ^ 111)) (sym (times-sub b.coef x (10 ^ b.place)) ∙ ap (λ t. size b - t) (sym rest))
    ∙ sym (modulo_of-other mode a b some other here some')
