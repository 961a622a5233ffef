-- What leading digits say of the fraction that is rounded.
use Rattle.std.proofs.Common.{◌≡◌, ℕ, zero, suc, ◌+◌, ◌-◌, ◌*◌, ◌^◌, ◌<◌, ◌≤◌, ◌==◌, Bool, true, false, Ok, Err, refl, sym, ap, ap₂, ◌∙◌, subst, arith, lit<, lit≤, pow-add, mul_assoc, mul_comm, mul-pos, mul-le-mul_right, le_trans, lt_of_lt_of_le, lt_of_le_of_lt, ne_eqb, le-leb, lt-ltb, inl, inr, length, add-zero}
use Rattle.std.proofs.lemmas.Bool.{cases_lt, cases_Bool, lt-leb}
use native.Mathlib.Nat.{mul-lt-mul_of_pos_right}
use Rattle.b2_dec.specs.declared.number.Mode.TheVariants.{Round}
use Rattle.b2_dec.specs.Number.{zero_number}
use Rattle.b2_dec.specs.Rounding.{rnd, of_units, place_of, after_carry, IsWholePart}
use Rattle.b2_dec.proofs.TenLemmas.{ten_pos, ten_le, ten_lt_back}
use Rattle.b2_dec.proofs.Places.{place_of-top}
use Rattle.b2_dec.proofs.Rounds.{after_carry-large}
use Rattle.b2_dec.proofs.Exact.{rnd-none}
use Rattle.std.proofs.lemmas.List.Sums.{fold-append}
use Rattle.b2_dectext.specs.Digits.{IsLeading, value_after, digits_value}
use Rattle.b2_dectext.specs.NumberText.{Parts, parts_value}

nothing_left : (n m r : ℕ) → IsLeading n m r → m < 10000000000000 → r ≡ 0
nothing_left n m zero h small = refl
nothing_left n m (suc k) h small = let large : 10000000000000 ≤ m = h.enough (omega arith) in absurd (omega arith)

-- one more digit that is kept, and one that is left out
pub leading-kept : (n m r d : ℕ) → d < 10 → m < 10000000000000 → IsLeading n m r → IsLeading (10 * n + d) (m * 10 + d) r
leading-kept n m r d digit small h =
    let none : r ≡ 0 = nothing_left n m r h small in
    let low : m * 1 ≤ n = subst (λ k. m * 10 ^ k ≤ n) none h.low in
    let high : n < (m + 1) * 1 = subst (λ k. n < (m + 1) * 10 ^ k) none h.high in
    let made : IsLeading (10 * n + d) (m * 10 + d) 0 = record { low = omega arith; high = omega arith; enough = λ some. absurd (omega arith); few = omega arith } in
    subst (IsLeading (10 * n + d) (m * 10 + d)) (sym none) made

pub leading-left : (n m r d : ℕ) → d < 10 → 10000000000000 ≤ m → IsLeading n m r → IsLeading (10 * n + d) m (r + 1)
leading-left n m r d digit large h =
    let u : ℕ = 10 ^ r in
    let low : m * u ≤ n = h.low in
    let high : n < (m + 1) * u = h.high in
    record { low = rw (pow-add 10 r 1) (omega arith); high = rw (pow-add 10 r 1) (omega arith); enough = λ some. large; few = h.few }

-- A small fraction has a low place.
place_of-low : (k n d p : ℕ) → n < 10 ^ (13 + p) * d → place_of k n d ≤ p
unfolding place_of
place_of-low zero n d p below = omega arith
place_of-low (suc k) n d p below =
    elim (cases_lt n (10 ^ (13 + k) * d)) [
      | inl less ↦ rw (lt-leb _ _ less) (place_of-low k n d p below)
      | inr more ↦
          let under : 13 + k < 13 + p = ten_lt_back (13 + k) (13 + p) d (lt_of_le_of_lt more below) in
          rw (le-leb _ _ more) (omega arith)
    ]

after_carry-small : (neg : Bool) (c p : ℕ) → p ≤ 109 → after_carry neg c p ≡ Err 60
after_carry-small neg c p h =
    let here : p < 111 = omega arith in
    let next : p + 1 < 111 = omega arith in
    elim (cases_Bool (c == 10000000000000)) [
      | inl same ↦ rw (same, lt-ltb _ _ next) refl
      | inr other ↦ rw (other, lt-ltb _ _ here) refl
    ]

pub rnd-small : (neg : Bool) (n d : ℕ) → (n ≡ 0 → ⊥) → n * 10 ^ 222 < 10 ^ (13 + 109) * d → rnd Round neg n d ≡ Err 60
unfolding rnd of_units
rnd-small neg n d some below = rw (ne_eqb n 0 some) (after_carry-small neg _ _ (place_of-low 310 (n * 10 ^ 222) d 109 below))

pub rnd-large : (neg : Bool) (n d : ℕ) → (n ≡ 0 → ⊥) → 10 ^ (13 + 309) * d ≤ n * 10 ^ 222 → rnd Round neg n d ≡ Err 61
unfolding rnd of_units
rnd-large neg n d some above =
    let top : place_of 310 (n * 10 ^ 222) d ≡ 310 = place_of-top 309 (n * 10 ^ 222) d above in
    rw (ne_eqb n 0 some, top) (after_carry-large neg _ 310 (lit< tt))

-- the units of the fraction
in_tens : (n tens : ℕ) → n * 10 ^ tens * 10 ^ 222 ≡ n * 10 ^ (tens + 222)
in_tens n tens = mul_assoc n (10 ^ tens) (10 ^ 222) ∙ ap (λ t. n * t) (sym (pow-add 10 tens 222))

pub written-some : (n m more tens : ℕ) → (m ≡ 0 → ⊥) → IsLeading n m more → n * 10 ^ tens ≡ 0 → ⊥
written-some n m more tens some h none =
    let mpos : 0 < m = omega arith in
    let u : 0 < m * 10 ^ more = mul-pos mpos (ten_pos more) in
    let npos : 0 < n = lt_of_lt_of_le u h.low in
    absurd (omega (arith, mul-pos npos (ten_pos tens)))

pub too_low : (n m more tens low high : ℕ) → IsLeading n m more → high ≡ 222 + (more + tens) → high < low + 25
    → n * 10 ^ tens * 10 ^ 222 < 10 ^ (13 + 109) * 10 ^ low
too_low n m more tens low high h e far =
    let next : m + 1 ≤ 10 ^ 14 = omega (arith, h.few) in
    let first : n < 10 ^ (14 + more) = rw (pow-add 10 14 more) (lt_of_lt_of_le h.high (mul-le-mul_right (10 ^ more) next)) in
    let all : n * 10 ^ (tens + 222) < 10 ^ (14 + more + (tens + 222)) =
    rw (pow-add 10 (14 + more) (tens + 222)) (mul-lt-mul_of_pos_right first (ten_pos (tens + 222))) in
    let top : 10 ^ (14 + more + (tens + 222)) ≤ 10 ^ (13 + 109 + low) = ten_le _ _ (omega arith) in
    rw (in_tens n tens, ← pow-add 10 (13 + 109) low) (lt_of_lt_of_le all top)

pub too_high : (n m more tens low high : ℕ) → IsLeading n m more → (m ≡ 0 → ⊥) → high ≡ 222 + (more + tens) → low + 321 < high
    → 10 ^ (13 + 309) * 10 ^ low ≤ n * 10 ^ tens * 10 ^ 222
too_high n m more tens low high h some e far =
    let one : 1 ≤ m = omega arith in
    let part : 1 * 10 ^ more ≤ m * 10 ^ more = mul-le-mul_right (10 ^ more) one in
    let first : 10 ^ more ≤ n = le_trans (omega (arith, part)) h.low in
    let all : 10 ^ (more + (tens + 222)) ≤ n * 10 ^ (tens + 222) =
    rw (pow-add 10 more (tens + 222)) (mul-le-mul_right (10 ^ (tens + 222)) first) in
    let top : 10 ^ (13 + 309 + low) ≤ 10 ^ (more + (tens + 222)) = ten_le _ _ (omega arith) in
    rw (in_tens n tens, ← pow-add 10 (13 + 309) low) (le_trans top all)

-- a unit of the last leading digit
leading_unit : (at low more tens : ℕ) → at + low ≡ 222 + (more + tens) → 10 ^ at * 10 ^ low ≡ 10 ^ more * (10 ^ tens * 10 ^ 222)
leading_unit at low more tens e =
    sym (pow-add 10 at low) ∙ ap (λ t. 10 ^ t) e ∙ pow-add 10 222 (more + tens) ∙ ap (λ t. 10 ^ 222 * t) (pow-add 10 more tens)
    ∙ mul_comm (10 ^ 222) (10 ^ more * 10 ^ tens) ∙ mul_assoc (10 ^ more) (10 ^ tens) (10 ^ 222)

pub written-part : (n m more tens at low : ℕ) → IsLeading n m more → at + low ≡ 222 + (more + tens) → IsWholePart m at (n * 10 ^ tens) (10 ^ low)
written-part n m more tens at low h e =
    let u : ℕ = 10 ^ tens * 10 ^ 222 in
    let unit : (k : ℕ) → k * (10 ^ at * 10 ^ low) ≡ k * 10 ^ more * u =
    λ k. ap (λ t. k * t) (leading_unit at low more tens e) ∙ sym (mul_assoc k (10 ^ more) u) in
    let all : n * 10 ^ tens * 10 ^ 222 ≡ n * u = mul_assoc n (10 ^ tens) (10 ^ 222) in
    let some : 0 < u = mul-pos (ten_pos tens) (lit< tt) in
    record { low = rw (unit m, all) (mul-le-mul_right u h.low); high = rw (unit (m + 1), all) (mul-lt-mul_of_pos_right h.high some) }

pub written-exact : (n m more tens at low : ℕ) → IsLeading n m more → m < 10000000000000 → at + low ≡ 222 + (more + tens)
    → m * (10 ^ at * 10 ^ low) ≡ n * 10 ^ tens * 10 ^ 222
written-exact n m more tens at low h small e =
    let none : more ≡ 0 = nothing_left n m more h small in
    let least : m * 1 ≤ n = subst (λ k. m * 10 ^ k ≤ n) none h.low in
    let most : n < (m + 1) * 1 = subst (λ k. n < (m + 1) * 10 ^ k) none h.high in
    let same : m ≡ n = omega arith in
    let unit : 10 ^ at * 10 ^ low ≡ 10 ^ tens * 10 ^ 222 =
    leading_unit at low more tens e ∙ ap (λ k. 10 ^ k * (10 ^ tens * 10 ^ 222)) none ∙ omega arith in
    ap₂ (λ a t. a * t) same unit ∙ sym (mul_assoc n (10 ^ tens) (10 ^ 222))

pub written-none : (neg : Bool) (n more tens low : ℕ) → IsLeading n 0 more → rnd Round neg (n * 10 ^ tens) (10 ^ low) ≡ Ok zero_number
written-none neg n more tens low h =
    let none : more ≡ 0 = nothing_left n 0 more h (lit< tt) in
    let most : n < 1 * 1 = subst (λ k. n < 1 * 10 ^ k) none h.high in
    let nought : n ≡ 0 = omega arith in
    rnd-none Round neg (n * 10 ^ tens) (10 ^ low) (rw nought (omega arith))

-- the number of given parts, as code finds it
pub value_of-divided : (p : Parts) → p.exponent_neg ≡ true
    → rnd Round p.neg (value_after (value_after 0 p.whole) p.fraction * 10 ^ 0) (10 ^ (length p.fraction + digits_value p.exponent)) ≡ parts_value p
unfolding parts_value
value_of-divided p e = rw (e, fold-append (λ m d. 10 * m + (d - 48)) 0 p.whole p.fraction) refl

pub value_of-multiplied : (p : Parts) → p.exponent_neg ≡ false
    → rnd Round p.neg (value_after (value_after 0 p.whole) p.fraction * 10 ^ digits_value p.exponent) (10 ^ length p.fraction) ≡ parts_value p
unfolding parts_value
value_of-multiplied p e =
    ap (λ k. rnd Round p.neg (value_after (value_after 0 p.whole) p.fraction * 10 ^ digits_value p.exponent) (10 ^ k)) (sym (add-zero (length p.fraction)))
    ∙ rw (e, fold-append (λ m d. 10 * m + (d - 48)) 0 p.whole p.fraction) refl

pub no_digits : IsLeading 0 0 0
no_digits = record { low = lit≤ tt; high = lit< tt; enough = λ some. absurd (omega arith); few = lit< tt }
