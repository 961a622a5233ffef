-- Sums in code: the cases of two signs, near and far.
use Rattle.std.proofs.Common.{◌≡◌, ℕ, ◌+◌, ◌-◌, ◌*◌, ◌/◌, ◌^◌, ◌<◌, ◌≤◌, min, Bool, true, false, not, Result, sym, ap, ◌∙◌, subst, arith, lit<, pow-add, add-mul, add_assoc, one-mul, mul-le-mul_right, div-mul-le_self, lt_of_lt_of_le, lt_of_le_of_lt, inl, inr}
use Rattle.std.proofs.lemmas.Bool.{cases_lt}
use native.Mathlib.Nat.{mul-lt-mul_of_pos_right, lt-div-mul-add, div-eq_of_lt}
use mathlib.Core.Bool.{beq}
use Rattle.b2_dec.specs.declared.number.Mode.{Mode}
use Rattle.b2_dec.specs.Number.{Number, size}
use Rattle.b2_dec.specs.Rounding.{rnd, IsWholePart}
use Rattle.b2_dec.specs.Arithmetic.{sum_of}
use Rattle.b2_dec.proofs.TenLemmas.{ten_pos, ten_le}
use Rattle.b2_dec.proofs.Signs.{sum-same, sum-other, sum-turned, sum-same-sizes, sum-other-sizes, size-lower, in_units}

pub same_sign : (a b x y : Bool) → beq a b ≡ true → a ≡ x → b ≡ y → y ≡ x
same_sign true true x y e p q = sym q ∙ p
same_sign true false x y e p q = absurd (cc)
same_sign false true x y e p q = absurd (cc)
same_sign false false x y e p q = sym q ∙ p

pub other_sign : (a b x y : Bool) → beq a b ≡ false → a ≡ x → b ≡ y → y ≡ not x
other_sign true true x y e p q = absurd (cc)
other_sign true false x y e p q = sym q ∙ ap not p
other_sign false true x y e p q = sym q ∙ ap not p
other_sign false false x y e p q = absurd (cc)

pub not-back : (x y : Bool) → y ≡ not x → x ≡ not y
not-back true y e = sym (ap not e)
not-back false y e = sym (ap not e)

pub near-same : (mode : Mode) (high low : Number) (k x y p : ℕ) (s : Bool) (r : Result Number ℕ) → high.place ≡ low.place + k → low.neg ≡ high.neg
    → x ≡ high.coef * 10 ^ k → y ≡ low.coef → p ≡ low.place → s ≡ high.neg
    → ((n d : ℕ) → 0 < d → (x + y) * (10 ^ (p + 111) * d) ≡ n * 10 ^ 222 → r ≡ rnd mode s n d) → r ≡ sum_of mode high low
near-same mode high low k x y p s r apart same ex ey ep es made =
    made ((x + low.coef) * 10 ^ low.place) (10 ^ 111) (lit< tt) (rw (ey, ep) (in_units (x + low.coef) low.place))
    ∙ ap (λ t. rnd mode t ((x + low.coef) * 10 ^ low.place) (10 ^ 111)) es
    ∙ sym (sum-same mode high low x (size-lower high low.place k apart ∙ ap (λ t. t * 10 ^ low.place) (sym ex)) same)

pub near-other : (mode : Mode) (high low : Number) (k x y p : ℕ) (s : Bool) (r : Result Number ℕ) → high.place ≡ low.place + k → low.neg ≡ not high.neg
    → x ≡ high.coef * 10 ^ k → y ≡ low.coef → p ≡ low.place → s ≡ high.neg → y ≤ x
    → ((n d : ℕ) → 0 < d → (x - y) * (10 ^ (p + 111) * d) ≡ n * 10 ^ 222 → r ≡ rnd mode s n d) → r ≡ sum_of mode high low
near-other mode high low k x y p s r apart other ex ey ep es less made =
    made ((x - low.coef) * 10 ^ low.place) (10 ^ 111) (lit< tt) (rw (ey, ep) (in_units (x - low.coef) low.place))
    ∙ ap (λ t. rnd mode t ((x - low.coef) * 10 ^ low.place) (10 ^ 111)) es
    ∙ sym (sum-other mode high low x (size-lower high low.place k apart ∙ ap (λ t. t * 10 ^ low.place) (sym ex)) other (subst (λ t. t ≤ x) ey less))

pub near-turned : (mode : Mode) (high low : Number) (k x y p : ℕ) (s : Bool) (r : Result Number ℕ) → high.place ≡ low.place + k → low.neg ≡ not high.neg
    → x ≡ high.coef * 10 ^ k → y ≡ low.coef → p ≡ low.place → s ≡ low.neg → x < y
    → ((n d : ℕ) → 0 < d → (y - x) * (10 ^ (p + 111) * d) ≡ n * 10 ^ 222 → r ≡ rnd mode s n d) → r ≡ sum_of mode high low
near-turned mode high low k x y p s r apart other ex ey ep es less made =
    let less' : x ≤ low.coef = subst (λ t. x ≤ t) ey (omega arith) in
    made ((low.coef - x) * 10 ^ low.place) (10 ^ 111) (lit< tt) (rw (ey, ep) (in_units (low.coef - x) low.place))
    ∙ ap (λ t. rnd mode t ((low.coef - x) * 10 ^ low.place) (10 ^ 111)) es
    ∙ sym (sum-turned mode high low x (size-lower high low.place k apart ∙ ap (λ t. t * 10 ^ low.place) (sym ex)) (not-back high.neg low.neg other) less')

-- ---- numbers that are two places apart or more

-- Digits that are counted in units of a higher place, with a rest that is dropped.
pub units_above-is : (c k : ℕ) → c < 10000000000000 → c / 10 ^ min k 13 ≡ c / 10 ^ k
units_above-is c k few =
    elim (cases_lt k 13) [
      | inl below ↦ let same : min k 13 ≡ k = omega arith in ap (λ t. c / 10 ^ t) same
      | inr above ↦
          let most : min k 13 ≡ 13 = omega arith in
          ap (λ t. c / 10 ^ t) most ∙ div-eq_of_lt few ∙ sym (div-eq_of_lt (lt_of_lt_of_le few (ten_le 13 k above)))
    ]

units_above-low : (c k p : ℕ) → c / 10 ^ k * 10 ^ (p + k) ≤ c * 10 ^ p
units_above-low c k p =
    let parts : c / 10 ^ k * 10 ^ (p + k) ≡ c / 10 ^ k * 10 ^ k * 10 ^ p = rw (pow-add 10 p k) (omega arith) in
    rw parts (mul-le-mul_right (10 ^ p) (div-mul-le_self c (10 ^ k)))

units_above-high : (c k p : ℕ) → c * 10 ^ p < (c / 10 ^ k + 1) * 10 ^ (p + k)
units_above-high c k p =
    let parts : (c / 10 ^ k + 1) * 10 ^ (p + k) ≡ (c / 10 ^ k + 1) * 10 ^ k * 10 ^ p = rw (pow-add 10 p k) (omega arith) in
    let next : (c / 10 ^ k + 1) * 10 ^ k ≡ c / 10 ^ k * 10 ^ k + 10 ^ k = add-mul (c / 10 ^ k) 1 (10 ^ k) ∙ ap (λ t. c / 10 ^ k * 10 ^ k + t) (one-mul (10 ^ k)) in
    let under : c < (c / 10 ^ k + 1) * 10 ^ k = rw next (lt-div-mul-add {a = c} (ten_pos k)) in
    rw parts (mul-lt-mul_of_pos_right under (ten_pos p))

-- a whole part in units of a place, counted from 10^-222
whole-in : (m h p n : ℕ) → h + 109 ≡ p + 111 → m * 10 ^ p ≤ n → n < (m + 1) * 10 ^ p → IsWholePart m (h + 109) n (10 ^ 111)
whole-in m h p n e low high =
    let unit : (k : ℕ) → k * (10 ^ (h + 109) * 10 ^ 111) ≡ k * 10 ^ p * 10 ^ 222 = λ k. ap (λ t. k * (10 ^ t * 10 ^ 111)) e ∙ in_units k p in
    record { low = rw (unit m) (mul-le-mul_right (10 ^ 222) low); high = rw (unit (m + 1)) (mul-lt-mul_of_pos_right high (lit< tt)) }

far-same : (high low : Number) (k : ℕ) → high.place ≡ low.place + (k + 2)
    → IsWholePart (high.coef * 100 + low.coef / 10 ^ k) (high.place + 109) (size high + size low) (10 ^ 111)
far-same high low k apart =
    let p : ℕ = low.place + k in
    let q : ℕ = low.coef / 10 ^ k in
    let here : size high ≡ high.coef * 100 * 10 ^ p = size-lower high p 2 (omega arith) in
    let all : (high.coef * 100 + q) * 10 ^ p ≡ high.coef * 100 * 10 ^ p + q * 10 ^ p = add-mul (high.coef * 100) q (10 ^ p) in
    let more : (high.coef * 100 + q + 1) * 10 ^ p ≡ high.coef * 100 * 10 ^ p + (q + 1) * 10 ^ p =
    ap (λ t. t * 10 ^ p) (add_assoc (high.coef * 100) q 1) ∙ add-mul (high.coef * 100) (q + 1) (10 ^ p) in
    let low' : q * 10 ^ p ≤ size low = units_above-low low.coef k low.place in
    let high' : size low < (q + 1) * 10 ^ p = units_above-high low.coef k low.place in
    whole-in (high.coef * 100 + q) high.place p (size high + size low) (omega arith) (omega arith) (omega arith)

far-other : (high low : Number) (k m : ℕ) → high.place ≡ low.place + (k + 2) → 0 < low.coef → m + ((low.coef - 1) / 10 ^ k + 1) ≡ high.coef * 100
    → (size low ≤ size high) × IsWholePart m (high.place + 109) (size high - size low) (10 ^ 111)
far-other high low k m apart some next =
    let p : ℕ = low.place + k in
    let q : ℕ = (low.coef - 1) / 10 ^ k in
    let here : size high ≡ high.coef * 100 * 10 ^ p = size-lower high p 2 (omega arith) in
    let all : m * 10 ^ p + (q + 1) * 10 ^ p ≡ high.coef * 100 * 10 ^ p = sym (add-mul m (q + 1) (10 ^ p)) ∙ ap (λ t. t * 10 ^ p) next in
    let more : (m + 1) * 10 ^ p ≡ m * 10 ^ p + 10 ^ p = add-mul m 1 (10 ^ p) ∙ ap (λ t. m * 10 ^ p + t) (one-mul (10 ^ p)) in
    let last : (q + 1) * 10 ^ p ≡ q * 10 ^ p + 10 ^ p = add-mul q 1 (10 ^ p) ∙ ap (λ t. q * 10 ^ p + t) (one-mul (10 ^ p)) in
    let low' : q * 10 ^ p < size low = lt_of_le_of_lt (units_above-low (low.coef - 1) k low.place) (mul-lt-mul_of_pos_right (less low.coef some) (ten_pos low.place)) in
    let high' : size low ≤ (q + 1) * 10 ^ p = units_above-most low.coef k low.place some in
    let under : size low ≤ size high = omega arith in
    (under, whole-in m high.place p (size high - size low) (omega arith) (omega arith) (omega arith))
  where
    less : (c : ℕ) → 0 < c → c - 1 < c
    less c some = omega arith

    units_above-most : (c k p : ℕ) → 0 < c → c * 10 ^ p ≤ ((c - 1) / 10 ^ k + 1) * 10 ^ (p + k)
    units_above-most c k p some =
        let u : ℕ = 10 ^ k in
        let parts : ((c - 1) / u + 1) * 10 ^ (p + k) ≡ ((c - 1) / u + 1) * u * 10 ^ p = rw (pow-add 10 p k) (omega arith) in
        let next : ((c - 1) / u + 1) * u ≡ (c - 1) / u * u + u = add-mul ((c - 1) / u) 1 u ∙ ap (λ t. (c - 1) / u * u + t) (one-mul u) in
        let above : c - 1 < (c - 1) / u * u + u = lt-div-mul-add {a = c - 1} (ten_pos k) in
        let under : c ≤ ((c - 1) / u + 1) * u = omega arith in
        rw parts (mul-le-mul_right (10 ^ p) under)

pub far-same-is : (mode : Mode) (high low : Number) (k x q p : ℕ) (s : Bool) (r : Result Number ℕ) → high.place ≡ low.place + (k + 2) → low.neg ≡ high.neg
    → x ≡ high.coef → q ≡ low.coef / 10 ^ k → p ≡ high.place → s ≡ high.neg
    → ((n d : ℕ) → 0 < d → IsWholePart (x * 100 + q) (p + 109) n d → r ≡ rnd mode s n d) → r ≡ sum_of mode high low
far-same-is mode high low k x q p s r apart same ex eq ep es made =
    made (size high + size low) (10 ^ 111) (lit< tt) (rw (ex, eq, ep) (far-same high low k apart))
    ∙ ap (λ t. rnd mode t (size high + size low) (10 ^ 111)) es ∙ sym (sum-same-sizes mode high low same)

pub far-other-is : (mode : Mode) (high low : Number) (k x q p : ℕ) (s : Bool) (r : Result Number ℕ) → high.place ≡ low.place + (k + 2) → low.neg ≡ not high.neg
    → x ≡ high.coef → q ≡ (low.coef - 1) / 10 ^ k → p ≡ high.place → s ≡ high.neg → 0 < low.coef → q + 1 ≤ x * 100
    → ((n d : ℕ) → 0 < d → IsWholePart (x * 100 - (q + 1)) (p + 109) n d → r ≡ rnd mode s n d) → r ≡ sum_of mode high low
far-other-is mode high low k x q p s r apart other ex eq ep es some less made =
    let next : x * 100 - (q + 1) + ((low.coef - 1) / 10 ^ k + 1) ≡ high.coef * 100 = rw (← eq, ← ex) (omega arith) in
    let part = far-other high low k (x * 100 - (q + 1)) apart some next in
    made (size high - size low) (10 ^ 111) (lit< tt) (rw ep part.1)
    ∙ ap (λ t. rnd mode t (size high - size low) (10 ^ 111)) es ∙ sym (sum-other-sizes mode high low other part.0)
