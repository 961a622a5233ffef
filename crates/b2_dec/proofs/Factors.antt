-- Products and quotients in code.
use Rattle.std.proofs.Common.{◌≡◌, ℕ, zero, suc, ◌+◌, ◌-◌, ◌*◌, ◌/◌, ◌%◌, ◌^◌, ◌<◌, ◌≤◌, ◌*ℤ◌, Bool, true, false, not, Result, Ok, sym, refl, ap, ap₂, ◌∙◌, subst, arith, lit<, pow-add, mul_assoc, mul-zero, zero-mul, mul-pos, mul-le-mul, mul-le-mul_right, le-div_iff_mul-le, le_trans, lt_of_lt_of_le, div-mul-le_self, ne_eqb, mod-eq_of_lt, ◌⊎◌, ⊎_elim}
use native.Mathlib.Nat.{mul-lt-mul_of_pos_right, mul-mul-mul_comm, lt-div-mul-add, div-div-eq-div-mul}
use mathlib.Core.Bool.{beq}
use Rattle.b2_dec.specs.declared.number.Mode.{Mode}
use Rattle.b2_dec.specs.Number.{Number, zero_number, size, signed, differ}
use Rattle.b2_dec.specs.Rounding.{rnd, rounded, IsWholePart}
use Rattle.b2_dec.specs.Arithmetic.{product_of, quotient_of}
use Rattle.b2_dec.proofs.TenLemmas.{ten_pos}
use Rattle.b2_dec.proofs.Signs.{rounded-signed}
use Rattle.b2_dec.proofs.Exact.{exact_is_whole, rnd-none}

pub differ-is : (s t : Bool) → not (beq s t) ≡ differ s t
differ-is true true = refl
differ-is true false = refl
differ-is false true = refl
differ-is false false = refl

pub signed-mul : (s t : Bool) (x y : ℕ) → signed s x *ℤ signed t y ≡ signed (differ s t) (x * y)
signed-mul false false x y = refl
signed-mul false true x zero = rw mul-zero refl
signed-mul false true x (suc y) = refl
signed-mul true false zero y = rw zero-mul refl
signed-mul true false (suc x) y = refl
signed-mul true true zero zero = refl
signed-mul true true zero (suc y) = rw zero-mul refl
signed-mul true true (suc x) zero = rw mul-zero refl
signed-mul true true (suc x) (suc y) = refl

pub product-sizes : (mode : Mode) (a b : Number) → product_of mode a b ≡ rnd mode (differ a.neg b.neg) (size a * size b) (10 ^ 222)
product-sizes mode a b =
    ap (λ z. rounded mode z (10 ^ 222)) (signed-mul a.neg b.neg (size a) (size b)) ∙ rounded-signed mode (differ a.neg b.neg) (size a * size b) (10 ^ 222)

size-mul : (a b : Number) → a.coef * b.coef * 10 ^ (a.place + b.place) ≡ size a * size b
size-mul a b = ap (λ t. a.coef * b.coef * t) (pow-add 10 a.place b.place) ∙ mul-mul-mul_comm a.coef b.coef (10 ^ a.place) (10 ^ b.place)

-- What a product has in units of 10^11, by the upper and the lower bits of what 2^11 leaves of it.
product-parts : (t : ℕ) → t / 274877906944 / 48828125 * 274877906944 + (t / 274877906944 % 48828125 * 274877906944 + t % 274877906944) / 48828125 ≡ t / 48828125
product-parts t = omega arith

pub product-code : (p : ℕ) → p < 100000000000000000000000000
    → p / 2048 / 274877906944 / 48828125 * 274877906944 % 18446744073709551616
    + (p / 2048 / 274877906944 % 48828125 * 274877906944 % 18446744073709551616 + p / 2048 % 274877906944) / 48828125 ≡ p / 100000000000
product-code p h =
    let t : ℕ = p / 2048 in
    let high : t / 274877906944 / 48828125 * 274877906944 < 18446744073709551616 = omega arith in
    let low : t / 274877906944 % 48828125 * 274877906944 < 18446744073709551616 = omega arith in
    ap₂ (λ u v. u + (v + t % 274877906944) / 48828125) (mod-eq_of_lt high) (mod-eq_of_lt low)
    ∙ product-parts t ∙ div-div-eq-div-mul p 2048 48828125

pub product-least : (x y : ℕ) → 1000000000000 ≤ x → 1000000000000 ≤ y → 10000000000000 ≤ x * y / 100000000000
product-least x y h k = (le-div_iff_mul-le {k = 100000000000} (lit< tt)).1 (mul-le-mul h k)

pub product-fits : (x y : ℕ) → x < 10000000000000 → y < 10000000000000 → x * y < 100000000000000000000000000
product-fits x y h k =
    let h' : x ≤ 9999999999999 = omega arith in
    let k' : y ≤ 9999999999999 = omega arith in
    let most : x * y ≤ 9999999999999 * 9999999999999 = mul-le-mul h' k' in
    omega arith

pub product-most : (x y : ℕ) → x < 10000000000000 → y < 10000000000000 → x * y / 100000000000 < 10 ^ 16
product-most x y h k = omega (arith, product-fits x y h k)

-- a whole part in larger units
larger_units : (m b n d : ℕ) → IsWholePart m b n d → IsWholePart (m / 100000000000) (b + 11) n d
larger_units m b n d whole =
    let unit : 10 ^ (b + 11) * d ≡ 100000000000 * (10 ^ b * d) = rw (pow-add 10 b 11) (omega arith) in
    let parts : (k : ℕ) → k * (10 ^ (b + 11) * d) ≡ k * 100000000000 * (10 ^ b * d) = λ k. ap (λ t. k * t) unit ∙ sym (mul_assoc k 100000000000 (10 ^ b * d)) in
    let under : m / 100000000000 * 100000000000 ≤ m = omega arith in
    let over : m + 1 ≤ (m / 100000000000 + 1) * 100000000000 = omega arith in
    record {
      low = rw (parts (m / 100000000000)) (le_trans (mul-le-mul_right (10 ^ b * d) under) whole.low);
      high = rw (parts (m / 100000000000 + 1)) (lt_of_lt_of_le whole.high (mul-le-mul_right (10 ^ b * d) over));
    }

pub product-is : (mode : Mode) (a b : Number) (x y p q : ℕ) (s t : Bool) (r : Result Number ℕ) → x ≡ a.coef → y ≡ b.coef → p ≡ a.place → q ≡ b.place
    → s ≡ a.neg → t ≡ b.neg → ((n d : ℕ) → 0 < d → IsWholePart (x * y / 100000000000) (p + q + 11) n d → r ≡ rnd mode (not (beq s t)) n d) → r ≡ product_of mode a b
product-is mode a b x y p q s t r ex ey ep eq es et made =
    let whole : IsWholePart (a.coef * b.coef) (a.place + b.place) (size a * size b) (10 ^ 222) =
    exact_is_whole (a.coef * b.coef) (a.place + b.place) (size a * size b) (10 ^ 222) (lit< tt)
    (sym (mul_assoc (a.coef * b.coef) (10 ^ (a.place + b.place)) (10 ^ 222)) ∙ ap (λ u. u * 10 ^ 222) (size-mul a b)) in
    made (size a * size b) (10 ^ 222) (lit< tt)
    (rw (ex, ey, ep, eq) (larger_units (a.coef * b.coef) (a.place + b.place) (size a * size b) (10 ^ 222) whole))
    ∙ ap (λ u. rnd mode u (size a * size b) (10 ^ 222)) (rw (es, et) (differ-is a.neg b.neg)) ∙ sym (product-sizes mode a b)

pub product-none : (mode : Mode) (a b : Number) → (a.coef ≡ 0) ⊎ (b.coef ≡ 0) → product_of mode a b ≡ Ok zero_number
product-none mode a b none =
    let nothing : size a * size b ≡ 0 = ⊎_elim
    (λ e. ap (λ t. t * 10 ^ a.place * size b) e ∙ ap (λ t. t * size b) (zero-mul (10 ^ a.place)) ∙ zero-mul (size b))
    (λ e. ap (λ t. size a * (t * 10 ^ b.place)) e ∙ ap (λ t. size a * t) (zero-mul (10 ^ b.place)) ∙ mul-zero (size a)) none in
    product-sizes mode a b ∙ rnd-none mode (differ a.neg b.neg) (size a * size b) (10 ^ 222) nothing

pub quotient-none : (mode : Mode) (a b : Number) → a.coef ≡ 0 → (b.coef ≡ 0 → ⊥) → quotient_of mode a b ≡ Ok zero_number
quotient-none mode a b none some =
    rw (ne_eqb b.coef 0 some) (rnd-none mode (differ a.neg b.neg) (size a) (size b) (rw none (zero-mul (10 ^ a.place))))

-- fourteen more digits of a dividend
quotient-part : (a b : Number) (at : ℕ) → 0 < b.coef → at + b.place ≡ a.place + 208
    → IsWholePart (a.coef * 100000000000000 / b.coef) at (size a) (size b)
quotient-part a b at some e =
    let q : ℕ = a.coef * 100000000000000 / b.coef in
    let u : ℕ = 10 ^ (a.place + 208) in
    let joined : 10 ^ at * 10 ^ b.place ≡ u = sym (pow-add 10 at b.place) ∙ ap (λ t. 10 ^ t) e in
    let unit : (k : ℕ) → k * (10 ^ at * size b) ≡ k * b.coef * u = λ k. rw (← joined) (omega arith) in
    let all : size a * 10 ^ 222 ≡ a.coef * 100000000000000 * u = rw (pow-add 10 a.place 208) (omega arith) in
    let least : q * b.coef ≤ a.coef * 100000000000000 = div-mul-le_self (a.coef * 100000000000000) b.coef in
    let most : a.coef * 100000000000000 < (q + 1) * b.coef = omega (arith, lt-div-mul-add {a = a.coef * 100000000000000} some) in
    record { low = rw (unit q, all) (mul-le-mul_right u least); high = rw (unit (q + 1), all) (mul-lt-mul_of_pos_right most (ten_pos (a.place + 208))) }

pub quotient-is : (mode : Mode) (a b : Number) (x y p q : ℕ) (s t : Bool) (r : Result Number ℕ) → x ≡ a.coef → y ≡ b.coef → p ≡ a.place → q ≡ b.place
    → s ≡ a.neg → t ≡ b.neg → (b.coef ≡ 0 → ⊥) → q ≤ 198
    → ((n d : ℕ) → 0 < d → IsWholePart (x * 100000000000000 / y) (p + 208 - q) n d → r ≡ rnd mode (not (beq s t)) n d) → r ≡ quotient_of mode a b
quotient-is mode a b x y p q s t r ex ey ep eq es et some small made =
    let sign : not (beq s t) ≡ differ a.neg b.neg = rw (es, et) (differ-is a.neg b.neg) in
    let bpos : 0 < b.coef = omega arith in
    let small' : b.place ≤ 198 = subst (λ u. u ≤ 198) eq small in
    let place : a.place + 208 - b.place + b.place ≡ a.place + 208 = omega arith in
    made (size a) (size b) (mul-pos bpos (ten_pos b.place)) (rw (ex, ey, ep, eq) (quotient-part a b (a.place + 208 - b.place) bpos place))
    ∙ ap (λ u. rnd mode u (size a) (size b)) sign
    ∙ rw (ne_eqb b.coef 0 some) refl
