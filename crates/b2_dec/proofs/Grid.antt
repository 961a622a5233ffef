-- Why rounding gives the nearest number: numbers stand on a grid of units, and finer ones are smaller.
use Rattle.std.proofs.Common.{◌≡◌, ℕ, zero, suc, ◌+◌, ◌-◌, ◌*◌, ◌/◌, ◌^◌, ◌<◌, ◌≤◌, ◌==◌, Bool, Result, Ok, Err, sym, refl, ap, ◌∙◌, subst, arith, lit≤, pow-add, mul_assoc, mul-pos, mul-le-mul_right, le-leb, lt-ltb, le-ltb, lt_of_lt_of_le, lt_of_le_of_lt, zero-mul, div-mul-le_self, le-div_iff_mul-le, eqb-true, ne_eqb, inl, inr, ◌⊎◌, ⊎_elim, sub-add_cancel}
use borrow.Author.Tests.{lt-leb}
use Rattle.std.proofs.lemmas.Bool.{cases_lt, cases_Bool, cases_order}
use native.Mathlib.Nat.{mul-lt-mul_of_pos_right, lt-div-mul-add, add-mul, lt_of_mul-lt-mul_right, eq-zero-or-pos, le_of_mul-le-mul_right}
use Rattle.b2_dec.specs.declared.number.Mode.{Mode}
use Rattle.b2_dec.specs.declared.number.Mode.TheVariants.{Round, Cut}
use Rattle.b2_dec.specs.Number.{Number, zero_number, IsNumber, size}
use Rattle.b2_dec.specs.Rounding.{whole_by, place_of, in_range, after_carry, of_units, rnd}
use Rattle.b2_dec.specs.Laws.{gap, IsNearest, IsLargestBelow}
use Rattle.b2_dec.proofs.TenLemmas.{ten_pos, ten_le}
use Rattle.b2_dec.proofs.Places.{place_of-top}
use Rattle.b2_dec.proofs.Wholes.{carried}

-- ---- where the digits of a fraction stand

pub place_of-within : (k n d : ℕ) → n < 10 ^ (13 + k) * d → n < 10 ^ (13 + place_of k n d) * d
unfolding place_of
place_of-within zero n d h = h
place_of-within (suc k) n d h =
    elim (cases_lt n (10 ^ (13 + k) * d)) [
      | inl below ↦ rw (lt-leb _ _ below) (place_of-within k n d below)
      | inr above ↦ rw (le-leb _ _ above) h
    ]

pub place_of-under : (k n d : ℕ) → 0 < place_of k n d → 10 ^ (12 + place_of k n d) * d ≤ n
unfolding place_of
place_of-under zero n d h = absurd (omega arith)
place_of-under (suc k) n d h =
    elim (cases_lt n (10 ^ (13 + k) * d)) [
      | inl below ↦
          let same : place_of (suc k) n d ≡ place_of k n d = rw (lt-leb _ _ below) refl in
          rw same (place_of-under k n d (subst (λ t. 0 < t) same h))
      | inr above ↦
          let next : 12 + suc k ≡ 13 + k = omega arith in
          rw (le-leb _ _ above, next) above
    ]

-- ---- what an answer of rounding says

abbrev ok : Number → Result Number ℕ
ok x = Ok x

abbrev err : ℕ → Result Number ℕ
err c = Err c

-- x stands for c digits at a place
pub record Stands (c p : ℕ) (x : Number) : Type 0 where
  pub units : size x * 10 ^ 111 ≡ c * 10 ^ p
  pub low : 110 ≤ p
  pub high : p ≤ 309

ok_inj : (x y : Number) → ok x ≡ ok y → x ≡ y
ok_inj x y e = cc

not_ok : (x : Number) (c : ℕ) → err c ≡ ok x → ⊥
not_ok x c e = cc

units-are : (c p : ℕ) → 111 ≤ p → c * 10 ^ (p - 111) * 10 ^ 111 ≡ c * 10 ^ p
units-are c p h =
    mul_assoc c (10 ^ (p - 111)) (10 ^ 111) ∙ ap (λ t. c * t) (sym (pow-add 10 (p - 111) 111)) ∙ ap (λ t. c * 10 ^ t) (sub-add_cancel h)

stands_in_range : (neg : Bool) (c p : ℕ) (x : Number) → in_range neg c p ≡ Ok x → (size x * 10 ^ 111 ≡ c * 10 ^ p) × ((111 ≤ p) × (p ≤ 309))
stands_in_range neg c p x e =
    elim (cases_lt p 111) [
      | inl low ↦ let small : in_range neg c p ≡ err 60 = rw (lt-ltb _ _ low) refl in absurd (not_ok x 60 (sym small ∙ e))
      | inr low ↦ elim (cases_lt 309 p) [
        | inl high ↦ let large : in_range neg c p ≡ err 61 = rw (le-ltb _ _ low, lt-ltb _ _ high) refl in absurd (not_ok x 61 (sym large ∙ e))
        | inr high ↦
            let fits : in_range neg c p ≡ ok (record { neg = neg; coef = c; place = p - 111 }) = rw (le-ltb _ _ low, le-ltb _ _ high) refl in
            let same : record { neg = neg; coef = c; place = p - 111 } ≡ x = ok_inj _ x (sym fits ∙ e) in
            (ap (λ y. size y * 10 ^ 111) (sym same) ∙ units-are c p low, (low, high))
      ]
    ]

stands_fitted : (neg : Bool) (c p : ℕ) (x : Number) → after_carry neg c p ≡ Ok x → Stands c p x
stands_fitted neg c p x e =
    elim (cases_Bool (c == 10000000000000)) [
      | inl next ↦
          let up : after_carry neg c p ≡ in_range neg 1000000000000 (p + 1) = rw next refl in
          let parts = stands_in_range neg 1000000000000 (p + 1) x (sym up ∙ e) in
          record { units = parts.0 ∙ carried c p (eqb-true c 10000000000000 next); low = omega arith; high = omega arith }
      | inr other ↦
          let stay : after_carry neg c p ≡ in_range neg c p = rw other refl in
          let parts = stands_in_range neg c p x (sym stay ∙ e) in
          record { units = parts.0; low = omega arith; high = parts.1.1 }
    ]

-- A number is whole units of a place, or smaller than thirteen digits there.
grid : (y : Number) (p : ℕ) → IsNumber y → ((m : ℕ) × (size y * 10 ^ 111 ≡ m * 10 ^ p)) ⊎ (size y * 10 ^ 111 < 1000000000000 * 10 ^ p)
grid y p h =
    let at : size y * 10 ^ 111 ≡ y.coef * 10 ^ (y.place + 111) = mul_assoc y.coef (10 ^ y.place) (10 ^ 111) ∙ ap (λ t. y.coef * t) (sym (pow-add 10 y.place 111)) in
    elim (cases_lt (y.place + 111) p) [
      | inl finer ↦
          let under : y.coef * 10 ^ (y.place + 111) < 10 ^ 13 * 10 ^ (y.place + 111) = mul-lt-mul_of_pos_right h.digits (ten_pos (y.place + 111)) in
          let over : 10 ^ (13 + (y.place + 111)) ≤ 10 ^ (12 + p) = ten_le (13 + (y.place + 111)) (12 + p) (omega arith) in
          inr (rw at (lt_of_lt_of_le under (rw (← pow-add 10 13 (y.place + 111), ← pow-add 10 12 p) over)))
      | inr coarser ↦
          inl (
            y.coef * 10 ^ (y.place + 111 - p),
            at ∙ ap (λ t. y.coef * 10 ^ t) (sym (sub-add_cancel coarser)) ∙ ap (λ t. y.coef * t) (pow-add 10 (y.place + 111 - p) p)
                ∙ sym (mul_assoc y.coef (10 ^ (y.place + 111 - p)) (10 ^ p)),
          )
    ]

-- ---- the digits that are kept

record Kept (c p n d : ℕ) (x : Number) : Type 0 where
  stands : Stands c p x
  least : 1000000000000 * (10 ^ p * d) ≤ n
  most : n < 10000000000000 * (10 ^ p * d)

of_units-kept : (mode : Mode) (neg : Bool) (n d : ℕ) (x : Number) → of_units mode neg n d ≡ Ok x
    → (p : ℕ) × Kept (whole_by mode n (10 ^ p * d)) p n d x
unfolding of_units
of_units-kept mode neg n d x e =
    let p : ℕ = place_of 310 n d in
    let stands : Stands (whole_by mode n (10 ^ p * d)) p x = stands_fitted neg (whole_by mode n (10 ^ p * d)) p x e in
    let under : 10 ^ (12 + p) * d ≤ n = place_of-under 310 n d (omega (arith, stands.low)) in
    elim (cases_lt n (10 ^ (13 + 309) * d)) [
      | inr above ↦ let top : p ≡ 310 = place_of-top 309 n d above in absurd (omega (arith, stands.high, top))
      | inl below ↦
          let wider : 10 ^ (13 + 309) * d ≤ 10 ^ (13 + 310) * d = mul-le-mul_right d (ten_le (13 + 309) (13 + 310) (lit≤ tt)) in
          let over : n < 10 ^ (13 + p) * d = place_of-within 310 n d (lt_of_lt_of_le below wider) in (
            p,
            record {
              stands = stands;
              least = subst (λ t. t ≤ n) (ap (λ t. t * d) (pow-add 10 12 p) ∙ mul_assoc (10 ^ 12) (10 ^ p) d) under;
              most = subst (λ t. n < t) (ap (λ t. t * d) (pow-add 10 13 p) ∙ mul_assoc (10 ^ 13) (10 ^ p) d) over;
            },
          )
    ]

-- a number's size over d, in units of a place
multiple_over : (s m p d : ℕ) → s * 10 ^ 111 ≡ m * 10 ^ p → s * d * 10 ^ 111 ≡ m * (10 ^ p * d)
multiple_over s m p d e = let turned : s * d * 10 ^ 111 ≡ s * 10 ^ 111 * d = omega arith in turned ∙ ap (λ t. t * d) e ∙ mul_assoc m (10 ^ p) d

smaller_over : (s k p d : ℕ) → 0 < d → s * 10 ^ 111 < k * 10 ^ p → s * d * 10 ^ 111 < k * (10 ^ p * d)
smaller_over s k p d dpos h =
    let turned : s * d * 10 ^ 111 ≡ s * 10 ^ 111 * d = omega arith in
    rw (turned, ← mul_assoc k (10 ^ p) d) (mul-lt-mul_of_pos_right h dpos)

-- ---- cut

cut-kept : (n d p : ℕ) (x : Number) → 0 < d → Kept (whole_by Cut (n * 10 ^ 222) (10 ^ p * d)) p (n * 10 ^ 222) d x → IsLargestBelow n d x
cut-kept n d p x dpos kept =
    let u : ℕ = 10 ^ p * d in
    let upos : 0 < u = mul-pos (ten_pos p) dpos in
    let c : ℕ = n * 10 ^ 222 / u in
    let low : c * u ≤ n * 10 ^ 222 = div-mul-le_self (n * 10 ^ 222) u in
    let high : n * 10 ^ 222 < c * u + u = lt-div-mul-add {a = n * 10 ^ 222} upos in
    let some : 1000000000000 ≤ c = (le-div_iff_mul-le upos).1 kept.least in
    let here : size x * d * 10 ^ 111 ≡ c * u = multiple_over (size x) c p d kept.stands.units in
    record {
      below = omega arith;
      largest = λ y h under. elim (grid y p h) [
        | inl at ↦
            let there : size y * d * 10 ^ 111 ≡ at.0 * u = multiple_over (size y) at.0 p d at.1 in
            let less : at.0 * u < (c + 1) * u = omega (arith, add-mul c 1 u) in
            let few : at.0 < c + 1 = lt_of_mul-lt-mul_right u less in
            let most : at.0 ≤ c = omega arith in
            let units : at.0 * 10 ^ p ≤ c * 10 ^ p = mul-le-mul_right (10 ^ p) most in
            omega (arith, at.1, kept.stands.units)
        | inr small ↦
            let units : 1000000000000 * 10 ^ p ≤ c * 10 ^ p = mul-le-mul_right (10 ^ p) some in
            omega (arith, kept.stands.units)
      ];
    }

zero-ok : (mode : Mode) (neg : Bool) (d : ℕ) (x : Number) → rnd mode neg 0 d ≡ Ok x → zero_number ≡ x
unfolding rnd
zero-ok mode neg d x e = ok_inj zero_number x e

some-ok : (mode : Mode) (neg : Bool) (n d : ℕ) → (n ≡ 0 → ⊥) → rnd mode neg n d ≡ of_units mode neg (n * 10 ^ 222) d
unfolding rnd
some-ok mode neg n d some = rw (ne_eqb n 0 some) refl

pub rnd-largest : (neg : Bool) (n d : ℕ) (x : Number) → 0 < d → rnd Cut neg n d ≡ Ok x → IsLargestBelow n d x
rnd-largest neg n d x dpos e =
    elim (eq-zero-or-pos n) [
      | inl none ↦
          let plain : zero_number ≡ x = zero-ok Cut neg d x (subst (λ t. rnd Cut neg t d ≡ Ok x) none e) in
          subst (λ t. IsLargestBelow t d x) (sym none) (subst (λ t. IsLargestBelow 0 d t) plain (largest-zero d dpos))
      | inr some ↦
          let kept = of_units-kept Cut neg (n * 10 ^ 222) d x (sym (some-ok Cut neg n d (λ none. omega arith)) ∙ e) in
          cut-kept n d kept.0 x dpos kept.1
    ]
  where
    largest-zero : (d : ℕ) → 0 < d → IsLargestBelow 0 d zero_number
    largest-zero d dpos = record {
      below = omega (arith, zero-mul d);
      largest = λ y h under.
          let none : size y * d ≤ 0 * d = omega (arith, zero-mul d) in
          le_of_mul-le-mul_right none dpos;
    }

-- ---- nearest

-- How another number can stand beside x, which is not more than half a unit away from t.
data Beside (x y t u : ℕ) : Type 0 where
  same : y ≡ x → Beside x y t u
  above : x + u ≤ y → Beside x y t u
  under : y + u ≤ x → Beside x y t u
  between : y ≤ x → x ≤ t → Beside x y t u

record IsNearer (x y t : ℕ) : Type 0 where
  near : gap x t ≤ gap y t
  strict : x < y → gap x t < gap y t

-- The sizes are in units of 10^-111, and the unit u in those of 10^-222.
nearer : (x y t u : ℕ) → 2 * (x * 10 ^ 111) ≤ 2 * (t * 10 ^ 111) + u → 2 * (t * 10 ^ 111) < 2 * (x * 10 ^ 111) + u
    → Beside (x * 10 ^ 111) (y * 10 ^ 111) (t * 10 ^ 111) u → IsNearer x y t
nearer x y t u low high (same h) = let e : y ≡ x = omega arith in record { near = omega arith; strict = λ k. absurd (omega arith) }
nearer x y t u low high (above h) = record { near = omega arith; strict = λ k. omega arith }
nearer x y t u low high (under h) = record { near = omega arith; strict = λ k. omega arith }
nearer x y t u low high (between h k) = record { near = omega arith; strict = λ j. omega arith }

-- the next multiple of a unit is not above a larger one
next_below : (m c u : ℕ) → m < c → m * u + u ≤ c * u
next_below m c u h =
    let next : m + 1 ≤ c = omega arith in
    omega (arith, mul-le-mul_right u next, add-mul m 1 u)

-- where whole units stand
beside-units : (m c t u : ℕ) → Beside (c * u) (m * u) t u
beside-units m c t u =
    elim (cases_order m c) [
      | inl e ↦ same (ap (λ k. k * u) e)
      | inr other ↦ ⊎_elim (λ h. under (next_below m c u h)) (λ h. above (next_below c m u h)) other
    ]

beside : (c p n d : ℕ) (y : Number) → IsNumber y → 0 < d → 1000000000000 ≤ c → 1000000000000 * (10 ^ p * d) ≤ n
    → Beside (c * (10 ^ p * d)) (size y * d * 10 ^ 111) n (10 ^ p * d)
beside c p n d y h dpos some least =
    elim (grid y p h) [
      | inl at ↦ subst (λ t. Beside (c * (10 ^ p * d)) t n (10 ^ p * d)) (sym (multiple_over (size y) at.0 p d at.1)) (beside-units at.0 c n (10 ^ p * d))
      | inr small ↦
          let finer : size y * d * 10 ^ 111 < 1000000000000 * (10 ^ p * d) = smaller_over (size y) 1000000000000 p d dpos small in
          elim (cases_lt n (c * (10 ^ p * d))) [
            | inr below ↦
                let under_x : 1000000000000 * (10 ^ p * d) ≤ c * (10 ^ p * d) = mul-le-mul_right (10 ^ p * d) some in
                between (omega arith) below
            | inl over ↦
                let less : 1000000000000 * (10 ^ p * d) < c * (10 ^ p * d) = lt_of_le_of_lt least over in
                let more : 1000000000000 < c = lt_of_mul-lt-mul_right (10 ^ p * d) less in
                under (omega (arith, next_below 1000000000000 c (10 ^ p * d) more))
          ]
    ]

nearest-kept : (n d p : ℕ) (x : Number) → 0 < d → Kept (whole_by Round (n * 10 ^ 222) (10 ^ p * d)) p (n * 10 ^ 222) d x → IsNearest n d x
nearest-kept n d p x dpos kept =
    let u : ℕ = 10 ^ p * d in
    let upos : 0 < u = mul-pos (ten_pos p) dpos in
    let c : ℕ = whole_by Round (n * 10 ^ 222) u in
    let double : 0 < 2 * u = omega arith in
    let low : c * (2 * u) ≤ 2 * (n * 10 ^ 222) + u = div-mul-le_self (2 * (n * 10 ^ 222) + u) (2 * u) in
    let high : 2 * (n * 10 ^ 222) + u < c * (2 * u) + 2 * u = lt-div-mul-add {a = 2 * (n * 10 ^ 222) + u} double in
    let enough : 1000000000000 * (2 * u) ≤ 2 * (n * 10 ^ 222) + u = omega (arith, kept.least) in
    let some : 1000000000000 ≤ c = (le-div_iff_mul-le double).1 enough in
    let here : size x * d * 10 ^ 111 ≡ c * u = multiple_over (size x) c p d kept.stands.units in
    let scaled : n * 10 ^ 222 ≡ n * 10 ^ 111 * 10 ^ 111 = omega arith in
    let side : (y : Number) → IsNumber y → IsNearer (size x * d) (size y * d) (n * 10 ^ 111) = λ y h.
    nearer (size x * d) (size y * d) (n * 10 ^ 111) u (omega arith) (omega arith)
    (rw here (subst (λ t. Beside (c * u) (size y * d * 10 ^ 111) t u) scaled (beside c p (n * 10 ^ 222) d y h dpos some kept.least))) in
    record {
      nearest = λ y h. (side y h).near;
      half_up = λ y h k. (side y h).strict (mul-lt-mul_of_pos_right k dpos);
    }

pub rnd-nearest : (neg : Bool) (n d : ℕ) (x : Number) → 0 < d → rnd Round neg n d ≡ Ok x → IsNearest n d x
rnd-nearest neg n d x dpos e =
    elim (eq-zero-or-pos n) [
      | inl none ↦
          let plain : zero_number ≡ x = zero-ok Round neg d x (subst (λ t. rnd Round neg t d ≡ Ok x) none e) in
          subst (λ t. IsNearest t d x) (sym none) (subst (λ t. IsNearest 0 d t) plain (nearest-zero d dpos))
      | inr some ↦
          let kept = of_units-kept Round neg (n * 10 ^ 222) d x (sym (some-ok Round neg n d (λ none. omega arith)) ∙ e) in
          nearest-kept n d kept.0 x dpos kept.1
    ]
  where
    nearest-zero : (d : ℕ) → 0 < d → IsNearest 0 d zero_number
    nearest-zero d dpos = record {
      nearest = λ y h. omega (arith, zero-mul d);
      half_up = λ y h k. let more : 0 * d < size y * d = mul-lt-mul_of_pos_right k dpos in omega (arith, zero-mul d);
    }
