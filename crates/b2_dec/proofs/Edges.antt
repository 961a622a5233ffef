-- Exactly where a fraction is too small or too large.
use Rattle.std.proofs.Common.{◌≡◌, ℕ, ◌+◌, ◌-◌, ◌*◌, ◌^◌, ◌<◌, ◌≤◌, ◌==◌, Bool, true, false, Result, Ok, Err, sym, refl, ap, ◌∙◌, subst, arith, lit<, lit≤, pow-add, mul_assoc, mul-pos, mul-le-mul_right, lt-ltb, le-ltb, lt_of_lt_of_le, div-lt_iff_lt-mul, ne_eqb, inl, inr}
use Rattle.std.proofs.lemmas.Bool.{cases_lt, cases_Bool}
use native.Mathlib.Nat.{div-eq_of_lt-le, eq-zero-or-pos}
use Rattle.b2_dec.specs.declared.number.Mode.{Mode}
use Rattle.b2_dec.specs.declared.number.Mode.TheVariants.{Round, Cut}
use Rattle.b2_dec.specs.Number.{Number}
use Rattle.b2_dec.specs.Rounding.{whole_by, place_of, in_range, after_carry, of_units, rnd}
use Rattle.b2_dec.specs.Laws.{edge, IsInLimits}
use Rattle.b2_dec.proofs.TenLemmas.{ten_le}
use Rattle.b2_dec.proofs.Places.{place_of-is, place_of-top}
use Rattle.b2_dec.proofs.Rounds.{after_carry-large}
use Rattle.b2_dec.proofs.Exact.{after_carry-digits}
use Rattle.b2_dec.proofs.Grid.{place_of-within, place_of-under}

-- ---- the thirteen digits at one place

below_edge : (mode : Mode) (n u : ℕ) → 0 < u → 2 * n < edge mode * u → whole_by mode n u < 10000000000000
below_edge Round n u h less =
    let double : 0 < 2 * u = omega arith in
    (div-lt_iff_lt-mul {x = 2 * n + u} {y = 10000000000000} double).1 (omega arith)
below_edge Cut n u h less = (div-lt_iff_lt-mul {x = n} {y = 10000000000000} h).1 (omega arith)

from_edge : (mode : Mode) (n u : ℕ) → 0 < u → edge mode * u ≤ 2 * n → n < 10000000000000 * u → whole_by mode n u ≡ 10000000000000
from_edge Round n u h more less = div-eq_of_lt-le (2 * u) (omega arith) (omega arith)
from_edge Cut n u h more less = absurd (omega arith)

edge-most : (mode : Mode) (u : ℕ) → edge mode * u ≤ 20000000000000 * u
edge-most Round u = omega arith
edge-most Cut u = omega arith

edge-least : (mode : Mode) (u : ℕ) → 2000000000000 * u ≤ edge mode * u
edge-least Round u = omega arith
edge-least Cut u = omega arith

-- ---- the answers at one place

after_carry-small : (neg : Bool) (c p : ℕ) → p < 110 → after_carry neg c p ≡ Err 60
after_carry-small neg c p h =
    let low : p < 111 = omega arith in
    let next : p + 1 < 111 = omega arith in
    elim (cases_Bool (c == 10000000000000)) [
      | inl up ↦ rw (up, lt-ltb _ _ next) refl
      | inr stay ↦ rw (stay, lt-ltb _ _ low) refl
    ]

record IsNumberOk (r : Result Number ℕ) : Type 0 where
  number : Number
  is : r ≡ Ok number

in_range-ok : (neg : Bool) (c p : ℕ) → 111 ≤ p → p ≤ 309 → IsNumberOk (in_range neg c p)
in_range-ok neg c p h k = record { number = record { neg = neg; coef = c; place = p - 111 }; is = rw (le-ltb _ _ h, le-ltb _ _ k) refl }

after_carry-full : (neg : Bool) (p : ℕ) → 110 ≤ p → p ≤ 308 → IsNumberOk (after_carry neg 10000000000000 p)
after_carry-full neg p h k = in_range-ok neg 1000000000000 (p + 1) (omega arith) (omega arith)

after_carry-part : (neg : Bool) (c p : ℕ) → c < 10000000000000 → 111 ≤ p → p ≤ 309 → IsNumberOk (after_carry neg c p)
after_carry-part neg c p few h k = subst IsNumberOk (sym (after_carry-digits neg c p few)) (in_range-ok neg c p h k)

after_carry-middle : (neg : Bool) (c p : ℕ) → 111 ≤ p → p ≤ 308 → IsNumberOk (after_carry neg c p)
after_carry-middle neg c p h k =
    elim (cases_Bool (c == 10000000000000)) [
      | inl up ↦ subst IsNumberOk (sym (next up)) (in_range-ok neg 1000000000000 (p + 1) (omega arith) (omega arith))
      | inr stay ↦ subst IsNumberOk (sym (here stay)) (in_range-ok neg c p h (omega arith))
    ]
  where
    next : (c == 10000000000000) ≡ true → after_carry neg c p ≡ in_range neg 1000000000000 (p + 1)
    next e = rw e refl

    here : (c == 10000000000000) ≡ false → after_carry neg c p ≡ in_range neg c p
    here e = rw e refl

-- ---- the answers of a fraction in units

parted : (k p d : ℕ) → 10 ^ (k + p) * d ≡ 10 ^ k * (10 ^ p * d)
parted k p d = ap (λ t. t * d) (pow-add 10 k p) ∙ mul_assoc (10 ^ k) (10 ^ p) d

too_small : (mode : Mode) (neg : Bool) (n d : ℕ) → 0 < d → 2 * n < edge mode * (10 ^ 110 * d) → of_units mode neg n d ≡ Err 60
unfolding of_units
too_small mode neg n d dpos less =
    let p : ℕ = place_of 310 n d in
    let under : n < 10 ^ (13 + 110) * d = omega (arith, edge-most mode (10 ^ 110 * d)) in
    elim (cases_lt p 110) [
      | inl lower ↦ after_carry-small neg (whole_by mode n (10 ^ p * d)) p lower
      | inr upper ↦ elim (cases_lt 110 p) [
        | inl far ↦
            let over : 10 ^ (12 + p) * d ≤ n = place_of-under 310 n d (omega arith) in
            let wider : 10 ^ (13 + 110) * d ≤ 10 ^ (12 + p) * d = mul-le-mul_right d (ten_le (13 + 110) (12 + p) (omega arith)) in
            absurd (omega arith)
        | inr near ↦
            let here : place_of 310 n d ≡ 110 = omega arith in
            let few : whole_by mode n (10 ^ 110 * d) < 10000000000000 = below_edge mode n (10 ^ 110 * d) (mul-pos {m = 10 ^ 110} (lit< tt) dpos) less in
            rw here (after_carry-digits neg (whole_by mode n (10 ^ 110 * d)) 110 few)
      ]
    ]

too_large : (mode : Mode) (neg : Bool) (n d : ℕ) → 0 < d → edge mode * (10 ^ 309 * d) ≤ 2 * n → of_units mode neg n d ≡ Err 61
unfolding of_units
too_large mode neg n d dpos more =
    elim (cases_lt n (10 ^ (13 + 309) * d)) [
      | inr above ↦
          let here : place_of 310 n d ≡ 310 = place_of-top 309 n d above in
          rw here (after_carry-large neg (whole_by mode n (10 ^ 310 * d)) 310 (lit< tt))
      | inl below ↦
          let low : 10 ^ (12 + 309) * d ≤ n = omega (arith, edge-least mode (10 ^ 309 * d)) in
          let here : place_of 310 n d ≡ 309 = place_of-is 310 n d 309 (lit≤ tt) low below in
          let under : n < 10000000000000 * (10 ^ 309 * d) = omega arith in
          let full : whole_by mode n (10 ^ 309 * d) ≡ 10000000000000 =
          from_edge mode n (10 ^ 309 * d) (mul-pos {m = 10 ^ 309} (lit< tt) dpos) more under in
          rw here (rw full refl)
    ]

in_limits : (mode : Mode) (neg : Bool) (n d : ℕ) → 0 < d → edge mode * (10 ^ 110 * d) ≤ 2 * n → 2 * n < edge mode * (10 ^ 309 * d)
    → IsNumberOk (of_units mode neg n d)
unfolding of_units
in_limits mode neg n d dpos low high =
    let p : ℕ = place_of 310 n d in
    let top : n < 10 ^ (13 + 309) * d = omega (arith, edge-most mode (10 ^ 309 * d)) in
    let wide : 10 ^ (13 + 309) * d ≤ 10 ^ (13 + 310) * d = mul-le-mul_right d (ten_le (13 + 309) (13 + 310) (lit≤ tt)) in
    let within : n < 10 ^ (13 + p) * d = place_of-within 310 n d (lt_of_lt_of_le top wide) in
    let least : 10 ^ (12 + 110) * d ≤ n = omega (arith, edge-least mode (10 ^ 110 * d)) in
    elim (cases_lt p 110) [
      | inl lower ↦
          let narrow : 10 ^ (13 + p) * d ≤ 10 ^ (12 + 110) * d = mul-le-mul_right d (ten_le (13 + p) (12 + 110) (omega arith)) in
          absurd (omega arith)
      | inr upper ↦ elim (cases_lt 309 p) [
        | inl far ↦
            let over : 10 ^ (12 + p) * d ≤ n = place_of-under 310 n d (omega arith) in
            let wider : 10 ^ (13 + 309) * d ≤ 10 ^ (12 + p) * d = mul-le-mul_right d (ten_le (13 + 309) (12 + p) (omega arith)) in
            absurd (omega arith)
        | inr near ↦ elim (cases_lt 110 p) [
          | inr first ↦
              let here : place_of 310 n d ≡ 110 = omega arith in
              let under : n < 10000000000000 * (10 ^ 110 * d) = omega (arith, subst (λ t. n < 10 ^ (13 + t) * d) here within) in
              let full : whole_by mode n (10 ^ 110 * d) ≡ 10000000000000 =
              from_edge mode n (10 ^ 110 * d) (mul-pos {m = 10 ^ 110} (lit< tt) dpos) low under in
              rw here (rw full (after_carry-full neg 110 (lit≤ tt) (lit≤ tt)))
          | inl more ↦ elim (cases_lt p 309) [
            | inl middle ↦ after_carry-middle neg (whole_by mode n (10 ^ p * d)) p more (omega arith)
            | inr last ↦
                let here : place_of 310 n d ≡ 309 = omega arith in
                let few : whole_by mode n (10 ^ 309 * d) < 10000000000000 = below_edge mode n (10 ^ 309 * d) (mul-pos {m = 10 ^ 309} (lit< tt) dpos) high in
                rw here (after_carry-part neg (whole_by mode n (10 ^ 309 * d)) 309 few (lit≤ tt) (lit≤ tt))
          ]
        ]
      ]
    ]

-- ---- the law

less-low : (e n d : ℕ) → 2 * (n * 10 ^ 222) < e * (10 ^ 110 * d) → 2 * n * 10 ^ 112 < e * d
less-low e n d h = omega arith

more-low : (e n d : ℕ) → e * (10 ^ 110 * d) ≤ 2 * (n * 10 ^ 222) → e * d ≤ 2 * n * 10 ^ 112
more-low e n d h = omega arith

less-high : (e n d : ℕ) → 2 * (n * 10 ^ 222) < e * (10 ^ 309 * d) → 2 * n < e * 10 ^ 87 * d
less-high e n d h = omega arith

more-high : (e n d : ℕ) → e * (10 ^ 309 * d) ≤ 2 * (n * 10 ^ 222) → e * 10 ^ 87 * d ≤ 2 * n
more-high e n d h = omega arith

pub rnd-limits : (mode : Mode) (neg : Bool) (n d : ℕ) → 0 < d → IsInLimits mode n d (rnd mode neg n d)
unfolding rnd
rnd-limits mode neg n d dpos =
    elim (eq-zero-or-pos n) [
      | inl none ↦ rw none (inl refl)
      | inr some ↦
          let other : n ≡ 0 → ⊥ = λ e. omega arith in
          elim (cases_lt (2 * (n * 10 ^ 222)) (edge mode * (10 ^ 110 * d))) [
            | inl small ↦ rw (ne_eqb n 0 other, too_small mode neg (n * 10 ^ 222) d dpos small) (inl (refl, (some, less-low (edge mode) n d small)))
            | inr enough ↦ elim (cases_lt (2 * (n * 10 ^ 222)) (edge mode * (10 ^ 309 * d))) [
              | inr large ↦ rw (ne_eqb n 0 other, too_large mode neg (n * 10 ^ 222) d dpos large) (inr (refl, more-high (edge mode) n d large))
              | inl within ↦
                  let found = in_limits mode neg (n * 10 ^ 222) d dpos enough within in
                  rw (ne_eqb n 0 other, found.is) (inr (more-low (edge mode) n d enough, less-high (edge mode) n d within))
            ]
          ]
    ]
