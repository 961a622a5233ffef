-- What rounding gives is a number, and so is what each operator and each function of numbers gives.
use Rattle.std.proofs.Common.{◌≡◌, ℕ, ◌+◌, ◌*◌, ◌/◌, ◌^◌, ◌<◌, ◌≤◌, ◌==◌, Bool, refl, ap, subst, ◌∙◌, inl, inr, lit≤, arith, pow-add, mul_assoc, mul-pos, mul-le-mul_right, lt-ltb, le-ltb, lt_of_lt_of_le}
use Rattle.std.proofs.lemmas.Bool.{cases_lt, cases_Bool, eqb-false}
use Rattle.std.proofs.lemmas.Nat.{le-div}
use Rattle.std.proofs.Math.Nat.{div-lt_iff_lt-mul}
use Rattle.b2_dec.specs.declared.number.Mode.{Mode}
use Rattle.b2_dec.specs.declared.number.Mode.TheVariants.{Round, Cut}
use Rattle.b2_dec.specs.Number.{zero_number, IsNumber}
use Rattle.b2_dec.specs.Rounding.{whole_by, place_of, in_range, after_carry, of_units, rnd}
use Rattle.b2_stmt_file.specs.SavedNumbers.{GivesNumber}
use Rattle.b2_dec.proofs.Grid.{place_of-within, place_of-under}
use Rattle.b2_dec.proofs.Places.{place_of-top}
use Rattle.b2_dec.proofs.TenLemmas.{ten_pos, ten_le}

pub zero_is_number : IsNumber zero_number
zero_is_number = record { digits = lit≤ tt; highest = lit≤ tt; spelling = λ h. refl }

-- thirteen digits at a place in range
in_range_gives : (neg : Bool) (c p : ℕ) → 1000000000000 ≤ c → c < 10000000000000 → GivesNumber (in_range neg c p)
in_range_gives neg c p least most =
    elim (cases_lt p 111) [
      | inl low ↦ rw (lt-ltb _ _ low) tt
      | inr low ↦ elim (cases_lt 309 p) [
        | inl high ↦ rw (le-ltb _ _ low, lt-ltb _ _ high) tt
        | inr high ↦ rw (le-ltb _ _ low, le-ltb _ _ high) (record { digits = most; highest = omega arith; spelling = λ h. absurd (omega arith) })
      ]
    ]

carry_gives : (neg : Bool) (c p : ℕ) → 1000000000000 ≤ c → c ≤ 10000000000000 → GivesNumber (after_carry neg c p)
carry_gives neg c p least most =
    elim (cases_Bool (c == 10000000000000)) [
      | inl next ↦ rw next (in_range_gives neg 1000000000000 (p + 1) (lit≤ tt) (lit≤ tt))
      | inr other ↦ let differ = eqb-false c 10000000000000 other in rw other (in_range_gives neg c p least (omega (arith, differ)))
    ]

-- the digits that are kept
kept_least : (mode : Mode) (n u : ℕ) → 0 < u → 1000000000000 * u ≤ n → 1000000000000 ≤ whole_by mode n u
kept_least Round n u some h = le-div 1000000000000 (2 * n + u) (2 * u) (omega arith) (omega arith)
kept_least Cut n u some h = le-div 1000000000000 n u some h

kept_most : (mode : Mode) (n u : ℕ) → 0 < u → n < 10000000000000 * u → whole_by mode n u ≤ 10000000000000
kept_most Round n u some h = let under : (2 * n + u) / (2 * u) < 10000000000001 = (div-lt_iff_lt-mul {k = 2 * u} {x = 2 * n + u} {y = 10000000000001} (omega arith)).1 (omega arith) in omega arith
kept_most Cut n u some h = let under : n / u < 10000000000001 = (div-lt_iff_lt-mul {k = u} {x = n} {y = 10000000000001} some).1 (omega arith) in omega arith

-- digits at a place that is too small for any
none_gives : (neg : Bool) (c p : ℕ) → p < 110 → GivesNumber (after_carry neg c p)
none_gives neg c p low =
    elim (cases_Bool (c == 10000000000000)) [
      | inl next ↦ rw (next, lt-ltb (p + 1) 111 (omega arith)) tt
      | inr other ↦ rw (other, lt-ltb p 111 (omega arith)) tt
    ]

-- and at one that is too large
beyond_gives : (neg : Bool) (c p : ℕ) → 309 < p → GivesNumber (after_carry neg c p)
beyond_gives neg c p high =
    elim (cases_Bool (c == 10000000000000)) [
      | inl next ↦ rw (next, le-ltb (p + 1) 111 (omega arith), lt-ltb 309 (p + 1) (omega arith)) tt
      | inr other ↦ rw (other, le-ltb p 111 (omega arith), lt-ltb 309 p (omega arith)) tt
    ]

-- a fraction that has thirteen digits at a place
digits_give : (mode : Mode) (neg : Bool) (n d p : ℕ) → 0 < d → 10 ^ (12 + p) * d ≤ n → n < 10 ^ (13 + p) * d → GivesNumber (after_carry neg (whole_by mode n (10 ^ p * d)) p)
digits_give mode neg n d p some under over =
    let unit : 0 < 10 ^ p * d = mul-pos (ten_pos p) some in
    let least : 1000000000000 * (10 ^ p * d) ≤ n = subst (λ t. t ≤ n) (ap (λ t. t * d) (pow-add 10 12 p) ∙ mul_assoc (10 ^ 12) (10 ^ p) d) under in
    let most : n < 10000000000000 * (10 ^ p * d) = subst (λ t. n < t) (ap (λ t. t * d) (pow-add 10 13 p) ∙ mul_assoc (10 ^ 13) (10 ^ p) d) over in
    carry_gives neg (whole_by mode n (10 ^ p * d)) p (kept_least mode n (10 ^ p * d) unit least) (kept_most mode n (10 ^ p * d) unit most)

units_give : (mode : Mode) (neg : Bool) (n d : ℕ) → 0 < d → GivesNumber (of_units mode neg n d)
unfolding of_units
units_give mode neg n d some =
    let p : ℕ = place_of 310 n d in
    let c : ℕ = whole_by mode n (10 ^ p * d) in
    elim (cases_lt n (10 ^ (13 + 309) * d)) [
      | inr above ↦ let top : p ≡ 310 = place_of-top 309 n d above in beyond_gives neg c p (omega (arith, top))
      | inl below ↦ elim (cases_lt p 110) [
        | inl low ↦ none_gives neg c p low
        | inr high ↦
            let wider : 10 ^ (13 + 309) * d ≤ 10 ^ (13 + 310) * d = mul-le-mul_right d (ten_le (13 + 309) (13 + 310) (lit≤ tt)) in
            digits_give mode neg n d p some (place_of-under 310 n d (omega arith)) (place_of-within 310 n d (lt_of_lt_of_le below wider))
      ]
    ]

pub rnd_gives : (mode : Mode) (neg : Bool) (n d : ℕ) → 0 < d → GivesNumber (rnd mode neg n d)
unfolding rnd
rnd_gives mode neg n d some =
    elim (cases_Bool (n == 0)) [
      | inl none ↦ rw none zero_is_number
      | inr other ↦ rw other (units_give mode neg (n * 10 ^ 222) d some)
    ]
