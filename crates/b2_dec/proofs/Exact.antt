-- Thirteen digits or fewer are rounded to themselves.
use Rattle.std.proofs.Common.{◌≡◌, ℕ, ◌+◌, ◌-◌, ◌*◌, ◌^◌, ◌<◌, ◌≤◌, Bool, true, false, Ok, sym, refl, ap, ◌∙◌, subst, arith, pow-add, ne_eqb, le-ltb, mul-div_cancel, lit<, lit≤, mul_assoc, mul-pos, lt_of_le_of_lt, add-sub_of_le, mul-le-mul_right, add-mul, one-mul, le_of_eq, add-sub_cancel, zero-mul, mul-one, inl, inr}
use Rattle.std.proofs.lemmas.Bool.{cases_lt}
use native.Mathlib.Nat.{div-eq_of_lt-le, mul-lt-mul_of_pos_right}
use Rattle.b2_dec.specs.declared.number.Mode.{Mode}
use Rattle.b2_dec.specs.declared.number.Mode.TheVariants.{Round, Cut}
use Rattle.std.specs.Prelude.{ℤ, pos, ◌+ℤ◌}
use Rattle.std.proofs.lemmas.Int.{ints}
use Rattle.b2_dec.specs.Number.{Number, zero_number, IsNumber, size, signed, value}
use Rattle.b2_dec.specs.Arithmetic.{sum_of}
use Rattle.b2_dec.specs.Rounding.{whole_by, rnd, rounded, in_range, after_carry, IsWholePart}
use Rattle.b2_dec.proofs.TenLemmas.{ten_pos, ten_lt}
use Rattle.b2_dec.proofs.Rounds.{rnd-whole_part}
use Rattle.b2_dec.proofs.Signs.{in_units, rounded-signed, add_comm_ℤ}

whole_by-exact : (mode : Mode) (c : ℕ) → whole_by mode (c * 10000000000000) 10000000000000 ≡ c
whole_by-exact Cut c = mul-div_cancel c (lit< tt)
whole_by-exact Round c = div-eq_of_lt-le 20000000000000 (omega arith) (omega arith)

pub after_carry-digits : (neg : Bool) (c p : ℕ) → c < 10000000000000 → after_carry neg c p ≡ in_range neg c p
after_carry-digits neg c p h = let other : c ≡ 10000000000000 → ⊥ = λ e. omega arith in rw (ne_eqb c 10000000000000 other) refl

digits_from : (mode : Mode) (neg : Bool) (c b n d : ℕ) → 1000000000000 ≤ c → c < 10000000000000 → 0 < d
    → c * (10 ^ (b + 13) * d) ≡ n * 10 ^ 222 → rnd mode neg n d ≡ in_range neg c (b + 13)
digits_from mode neg c b n d least most dpos e =
    let unit : 10 ^ (b + 13) * d ≡ 10000000000000 * (10 ^ b * d) = rw (pow-add 10 b 13) (omega arith) in
    let some : 0 < 10 ^ b * d = mul-pos (ten_pos b) dpos in
    let same : c * 10000000000000 * (10 ^ b * d) ≡ n * 10 ^ 222 = mul_assoc c 10000000000000 (10 ^ b * d) ∙ ap (λ t. c * t) (sym unit) ∙ e in
    let more : (c * 10000000000000 + 1) * (10 ^ b * d) ≡ c * 10000000000000 * (10 ^ b * d) + 10 ^ b * d = add-mul (c * 10000000000000) 1 (10 ^ b * d) ∙ ap (λ t. c * 10000000000000 * (10 ^ b * d) + t) (one-mul (10 ^ b * d)) in
    let low : c * 10000000000000 * (10 ^ b * d) ≤ n * 10 ^ 222 = le_of_eq same in
    let high : n * 10 ^ 222 < (c * 10000000000000 + 1) * (10 ^ b * d) = rw (more, ← same) (omega arith) in
    rnd-whole_part mode neg (c * 10000000000000) b n d 12 dpos (record { low = low; high = high }) (omega arith) (omega arith)
    ∙ ap (λ t. after_carry neg t (b + 13)) (whole_by-exact mode c) ∙ after_carry-digits neg c (b + 13) most

-- Thirteen digits stay as they are.
pub rnd-digits : (mode : Mode) (neg : Bool) (c p n d : ℕ) → 1000000000000 ≤ c → c < 10000000000000 → 13 ≤ p → 0 < d
    → c * (10 ^ p * d) ≡ n * 10 ^ 222 → rnd mode neg n d ≡ in_range neg c p
rnd-digits mode neg c p n d least most low dpos e =
    let back : p - 13 + 13 ≡ p = omega arith in
    let moved : c * (10 ^ (p - 13 + 13) * d) ≡ n * 10 ^ 222 = rw back e in
    digits_from mode neg c (p - 13) n d least most dpos moved ∙ ap (in_range neg c) back

-- The digits of a number are in range.
pub in_range-number : (x : Number) → x.place ≤ 198 → in_range x.neg x.coef (x.place + 111) ≡ Ok x
in_range-number x h =
    let low : 111 ≤ x.place + 111 = omega arith in
    let high : x.place + 111 ≤ 309 = omega arith in
    rw (le-ltb _ _ low, le-ltb _ _ high) (ap (λ p. Ok (record { neg = x.neg; coef = x.coef; place = p })) (add-sub_cancel x.place 111))

pub rnd-zero : (mode : Mode) (neg : Bool) (d : ℕ) → rnd mode neg 0 d ≡ Ok zero_number
unfolding rnd
rnd-zero mode neg d = refl

pub rnd-none : (mode : Mode) (neg : Bool) (n d : ℕ) → n ≡ 0 → rnd mode neg n d ≡ Ok zero_number
rnd-none mode neg n d none = rw none (rnd-zero mode neg d)

-- A number is rounded to itself.
pub rnd-number : (mode : Mode) (x : Number) → IsNumber x → rnd mode x.neg (size x) (10 ^ 111) ≡ Ok x
rnd-number mode x h =
    elim (cases_lt x.coef 1000000000000) [
      | inl few ↦ let none : x ≡ zero_number = h.spelling few in
          subst (λ y. rnd mode y.neg (size y) (10 ^ 111) ≡ Ok y) (sym none) (rnd-zero mode false (10 ^ 111))
      | inr many ↦
          rnd-digits mode x.neg x.coef (x.place + 111) (size x) (10 ^ 111) many h.digits (omega arith) (lit< tt) (in_units x.coef x.place)
          ∙ in_range-number x h.highest
    ]

-- What an exact number of units says, as code finds it.
pub none_from : (m u n : ℕ) → m ≡ 0 → m * u ≡ n * 10 ^ 222 → n ≡ 0
none_from m u n none e = let nothing : 0 * u ≡ n * 10 ^ 222 = subst (λ t. t * u ≡ n * 10 ^ 222) none e in omega arith

pub exact_is_whole : (m b n d : ℕ) → 0 < d → m * (10 ^ b * d) ≡ n * 10 ^ 222 → IsWholePart m b n d
exact_is_whole m b n d dpos e =
    let some : 0 < 10 ^ b * d = mul-pos (ten_pos b) dpos in
    let more : (m + 1) * (10 ^ b * d) ≡ m * (10 ^ b * d) + 10 ^ b * d = add-mul m 1 (10 ^ b * d) ∙ ap (λ t. m * (10 ^ b * d) + t) (one-mul (10 ^ b * d)) in
    let high : n * 10 ^ 222 < (m + 1) * (10 ^ b * d) = rw (more, ← e) (omega arith) in
    record { low = le_of_eq e; high = high }

-- r is one less than the number of digits of m, of which there are thirteen at most
pub few_digits : (m r : ℕ) → m < 10000000000000 → 10 ^ r ≤ m → r ≤ 12
few_digits m r few least = let less : r < 13 = ten_lt r 13 (lt_of_le_of_lt least few) in omega arith

pub filled-least : (m r : ℕ) → r ≤ 12 → 10 ^ r ≤ m → 1000000000000 ≤ m * 10 ^ (12 - r)
filled-least m r small least =
    let whole : 10 ^ 12 ≡ 10 ^ r * 10 ^ (12 - r) = ap (λ t. 10 ^ t) (sym (add-sub_of_le small)) ∙ pow-add 10 r (12 - r) in
    rw whole (mul-le-mul_right (10 ^ (12 - r)) least)

pub filled-most : (m r : ℕ) → r ≤ 12 → m < 10 * 10 ^ r → m * 10 ^ (12 - r) < 10000000000000
filled-most m r small below =
    let whole : 10 ^ 12 ≡ 10 ^ r * 10 ^ (12 - r) = ap (λ t. 10 ^ t) (sym (add-sub_of_le small)) ∙ pow-add 10 r (12 - r) in
    let times : 10 * 10 ^ r * 10 ^ (12 - r) ≡ 10000000000000 = mul_assoc 10 (10 ^ r) (10 ^ (12 - r)) ∙ ap (λ t. 10 * t) (sym whole) in
    rw (← times) (mul-lt-mul_of_pos_right below (ten_pos (12 - r)))

pub filled-rnd : (mode : Mode) (neg : Bool) (m r at n d : ℕ) → r ≤ 12 → 10 ^ r ≤ m → m < 10 * 10 ^ r → 25 ≤ at → 0 < d
    → m * (10 ^ at * d) ≡ n * 10 ^ 222 → in_range neg (m * 10 ^ (12 - r)) (at - (12 - r)) ≡ rnd mode neg n d
filled-rnd mode neg m r at n d small least below far dpos e =
    let k : ℕ = 12 - r in
    let rest : k + (at - k) ≡ at = add-sub_of_le (omega arith) in
    let moved : m * 10 ^ k * (10 ^ (at - k) * d) ≡ n * 10 ^ 222 =
    mul_assoc m (10 ^ k) (10 ^ (at - k) * d) ∙ ap (λ t. m * t) (sym (mul_assoc (10 ^ k) (10 ^ (at - k)) d))
    ∙ ap (λ t. m * (t * d)) (sym (pow-add 10 k (at - k))) ∙ ap (λ t. m * (10 ^ t * d)) rest ∙ e in
    sym (rnd-digits mode neg (m * 10 ^ k) (at - k) n d (filled-least m r small least) (filled-most m r small below) (omega arith) dpos moved)

signed-zero : (s : Bool) (n : ℕ) → n ≡ 0 → signed s n ≡ pos 0
signed-zero true n none = rw none refl
signed-zero false n none = rw none refl

zero-add_ℤ : (z : ℤ) → pos 0 +ℤ z ≡ z
zero-add_ℤ z = omega (arith, ints)

pub value-zero : (x : Number) → x.coef ≡ 0 → value x ≡ pos 0
value-zero x none = signed-zero x.neg (size x) (rw none (zero-mul (10 ^ x.place)))

-- Zero changes nothing.
pub sum-zero_left : (mode : Mode) (a b : Number) → a.coef ≡ 0 → IsNumber b → sum_of mode a b ≡ Ok b
sum-zero_left mode a b none h =
    ap (λ z. rounded mode z (10 ^ 111)) (ap (λ z. z +ℤ value b) (value-zero a none) ∙ zero-add_ℤ (value b))
    ∙ rounded-signed mode b.neg (size b) (10 ^ 111) ∙ rnd-number mode b h

pub sum-comm : (mode : Mode) (a b : Number) → sum_of mode a b ≡ sum_of mode b a
sum-comm mode a b = ap (λ z. rounded mode z (10 ^ 111)) (add_comm_ℤ (value a) (value b))

pub sum-zero_right : (mode : Mode) (a b : Number) → b.coef ≡ 0 → IsNumber a → sum_of mode a b ≡ Ok a
sum-zero_right mode a b none h = sum-comm mode a b ∙ sum-zero_left mode b a none h

-- a whole number: its digits filled up to thirteen
pub whole-rnd : (mode : Mode) (n r : ℕ) → r ≤ 12 → 10 ^ r ≤ n → n < 10 * 10 ^ r
    → rnd mode false n 1 ≡ Ok (record { neg = false; coef = n * 10 ^ (12 - r); place = 111 - (12 - r) })
whole-rnd mode n r small least below =
    let x : Number = record { neg = false; coef = n * 10 ^ (12 - r); place = 111 - (12 - r) } in
    let p : 111 - (12 - r) + 111 ≡ 222 - (12 - r) = omega arith in
    sym (filled-rnd mode false n r 222 n 1 small least below (lit≤ tt) (lit< tt) (ap (λ t. n * t) (mul-one (10 ^ 222))))
    ∙ ap (in_range false (n * 10 ^ (12 - r))) (sym p) ∙ in_range-number x (omega arith)

pub whole-value : (n r : ℕ) → r ≤ 12 → n * 10 ^ (12 - r) * 10 ^ (111 - (12 - r)) ≡ n * 10 ^ 111
whole-value n r small =
    let k : ℕ = 12 - r in
    let all : k + (111 - k) ≡ 111 = add-sub_of_le (omega arith) in
    mul_assoc n (10 ^ k) (10 ^ (111 - k)) ∙ ap (λ t. n * t) (sym (pow-add 10 k (111 - k))) ∙ ap (λ t. n * 10 ^ t) all
