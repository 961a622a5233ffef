-- A whole part of fourteen digits or more settles what a fraction is rounded to.
use Rattle.std.proofs.Common.{◌≡◌, ℕ, zero, suc, ◌+◌, ◌-◌, ◌*◌, ◌^◌, ◌<◌, ◌≤◌, ◌==◌, Bool, Err, sym, refl, ap, ◌∙◌, subst, arith, lit<, pow-add, le-ltb, lt-ltb, ne_eqb, mul-le-mul_right, mul-pos, le_trans, lt_of_lt_of_le, inl, inr, mul_assoc}
use Rattle.std.proofs.lemmas.Bool.{cases_lt, cases_Bool}
use native.Mathlib.Nat.{pow-succ'}
use Rattle.b2_dec.specs.declared.number.Mode.{Mode}
use Rattle.b2_dec.specs.Rounding.{whole_by, place_of, after_carry, of_units, rnd, IsWholePart}
use Rattle.b2_dec.proofs.Quotients.{whole_by-parts, whole_by-least, whole_by-most}
use Rattle.b2_dec.proofs.TenLemmas.{ten_pos, ten_le, ilog_of}
use Rattle.b2_dec.proofs.Places.{place_of-is, place_of-top}

-- Past the highest place every result is too large.
pub after_carry-large : (neg : Bool) (c p : ℕ) → 309 < p → after_carry neg c p ≡ Err 61
after_carry-large neg c p h =
    let up : 309 < p + 1 = omega arith in
    let far : 111 ≤ p = omega arith in
    let far' : 111 ≤ p + 1 = omega arith in
    elim (cases_Bool (c == 10000000000000)) [
      | inl same ↦ rw (same, le-ltb _ _ far', lt-ltb _ _ up) refl
      | inr other ↦ rw (other, le-ltb _ _ far, lt-ltb _ _ h) refl
    ]

even : (b d i : ℕ) → 10 ^ (b + suc i) * d ≡ (10 ^ b * d) * (2 * (5 * 10 ^ i))
even b d i = rw (pow-add 10 b (suc i), pow-succ' 10 i) (omega arith)

-- a power that is parted
apart : (j k b d : ℕ) → j ≡ k + b → 10 ^ j * d ≡ 10 ^ k * (10 ^ b * d)
apart j k b d e = ap (λ t. 10 ^ t * d) e ∙ ap (λ t. t * d) (pow-add 10 k b) ∙ mul_assoc (10 ^ k) (10 ^ b) d

twice_five : (i : ℕ) → 2 * (5 * 10 ^ i) ≡ 10 ^ suc i
twice_five i = rw (pow-succ' 10 i) (omega arith)

-- The digits and the place of a fraction in units, from a whole part of it.
of_units-is : (mode : Mode) (neg : Bool) (m b n d i : ℕ) → 0 < d → m * (10 ^ b * d) ≤ n → n < (m + 1) * (10 ^ b * d)
    → 10 ^ (13 + i) ≤ m → m < 10 ^ (14 + i) → of_units mode neg n d ≡ after_carry neg (whole_by mode m (10 ^ suc i)) (b + suc i)
unfolding of_units
of_units-is mode neg m b n d i dpos low high least below =
    let more : m + 1 ≤ 10 ^ (14 + i) = omega arith in
    let least' : 10 ^ (12 + (b + suc i)) * d ≤ n =
    rw (apart (12 + (b + suc i)) (13 + i) b d (omega arith)) (le_trans (mul-le-mul_right (10 ^ b * d) least) low) in
    let below' : n < 10 ^ (13 + (b + suc i)) * d =
    rw (apart (13 + (b + suc i)) (14 + i) b d (omega arith)) (lt_of_lt_of_le high (mul-le-mul_right (10 ^ b * d) more)) in
    elim (cases_lt 310 (b + suc i)) [
      | inl far ↦
          let top : 10 ^ (13 + 309) * d ≤ n =
          le_trans (mul-le-mul_right d (ten_le (13 + 309) (12 + (b + suc i)) (omega arith))) least' in
          let here : place_of 310 n d ≡ 310 = place_of-top 309 n d top in
          rw here (after_carry-large neg (whole_by mode n (10 ^ 310 * d)) 310 (lit< tt)
          ∙ sym (after_carry-large neg (whole_by mode m (10 ^ suc i)) (b + suc i) (omega arith)))
      | inr within ↦
          let here : place_of 310 n d ≡ b + suc i = place_of-is 310 n d (b + suc i) within least' below' in
          rw here (ap (λ c. after_carry neg c (b + suc i))
          (ap (whole_by mode n) (even b d i) ∙ whole_by-parts mode n (10 ^ b * d) m (5 * 10 ^ i) (mul-pos (ten_pos b) dpos) low high
          ∙ ap (whole_by mode m) (twice_five i)))
    ]

-- A fraction is not zero where it has a whole part that is not.
pub some_from_part : (m b n d : ℕ) → 0 < d → 0 < m → IsWholePart m b n d → n ≡ 0 → ⊥
some_from_part m b n d dpos mpos whole none = absurd (omega (arith, mul-pos mpos (mul-pos (ten_pos b) dpos), whole.low, none))

-- The digits and the place of a fraction, from a whole part of it with fourteen digits or more.
pub rnd-whole_part : (mode : Mode) (neg : Bool) (m b n d i : ℕ) → 0 < d → IsWholePart m b n d → 10 ^ (13 + i) ≤ m → m < 10 ^ (14 + i)
    → rnd mode neg n d ≡ after_carry neg (whole_by mode m (10 ^ suc i)) (b + suc i)
unfolding rnd
rnd-whole_part mode neg m b n d i dpos whole least below =
    let some : n ≡ 0 → ⊥ = some_from_part m b n d dpos (lt_of_lt_of_le (ten_pos (13 + i)) least) whole in
    rw (ne_eqb n 0 some) (of_units-is mode neg m b (n * 10 ^ 222) d i dpos whole.low whole.high least below)

-- The same, as code finds it: r is one less than the number of digits of the whole part.
pub rnd-from_digits : (mode : Mode) (neg : Bool) (m b n d r : ℕ) → 10000000000000 ≤ m → 10 ^ r ≤ m → m < 10 * 10 ^ r → 0 < d → IsWholePart m b n d
    → after_carry neg (whole_by mode m (10 ^ (r - 12))) (b + (r - 12)) ≡ rnd mode neg n d
rnd-from_digits mode neg m b n d r large least below dpos whole =
    let high : 13 ≤ r = ilog_of m r 13 below large in
    let i : ℕ = r - 13 in
    let count : suc i ≡ r - 12 = omega arith in
    let least' : 10 ^ (13 + i) ≤ m = subst (λ t. 10 ^ t ≤ m) (omega arith) least in
    let next : suc r ≡ 14 + i = omega arith in
    let below' : m < 10 ^ (14 + i) = subst (λ t. m < 10 ^ t) next (rw (pow-succ' 10 r) below) in
    rw (← count) (sym (rnd-whole_part mode neg m b n d i dpos whole least' below'))

-- The same, by the number of digits that are dropped.
pub rnd-by : (mode : Mode) (neg : Bool) (m b n d k : ℕ) → 1 ≤ k → 10 ^ (12 + k) ≤ m → m < 10 ^ (13 + k) → 0 < d → IsWholePart m b n d
    → after_carry neg (whole_by mode m (10 ^ k)) (b + k) ≡ rnd mode neg n d
rnd-by mode neg m b n d zero some least below dpos whole = absurd (omega arith)
rnd-by mode neg m b n d (suc i) some least below dpos whole =
    let low : 12 + suc i ≡ 13 + i = omega arith in
    let high : 13 + suc i ≡ 14 + i = omega arith in
    sym (rnd-whole_part mode neg m b n d i dpos whole (subst (λ t. 10 ^ t ≤ m) low least) (subst (λ t. m < 10 ^ t) high below))

-- how many digits are dropped, and which thirteen stay
pub dropped-some : (m r : ℕ) → 10000000000000 ≤ m → m < 10 * 10 ^ r → 1 ≤ r - 12
dropped-some m r large below = let high : 13 ≤ r = ilog_of m r 13 below large in omega arith

pub kept-least : (mode : Mode) (m r : ℕ) → 10000000000000 ≤ m → 10 ^ r ≤ m → m < 10 * 10 ^ r → 1000000000000 ≤ whole_by mode m (10 ^ (r - 12))
kept-least mode m r large least below =
    let some : 1 ≤ r - 12 = dropped-some m r large below in
    whole_by-least mode m (r - 12) some (subst (λ t. 10 ^ t ≤ m) (omega arith) least)

pub kept-most : (mode : Mode) (m r : ℕ) → 10000000000000 ≤ m → m < 10 * 10 ^ r → whole_by mode m (10 ^ (r - 12)) ≤ 10000000000000
kept-most mode m r large below =
    let some : 1 ≤ r - 12 = dropped-some m r large below in
    let next : suc r ≡ 13 + (r - 12) = omega arith in
    whole_by-most mode m (r - 12) some (subst (λ t. m < 10 ^ t) next (rw (pow-succ' 10 r) below))
