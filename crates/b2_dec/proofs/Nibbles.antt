-- Digits in bytes.
use Rattle.std.proofs.Common.{◌≡◌, ℕ, zero, suc, ◌+◌, ◌*◌, ◌/◌, ◌%◌, ◌^◌, ◌<◌, ◌≤◌, sym, ap, ap₂, ◌∙◌, arith, lit<, mod-lt, div-add-mod', div-one, inl, inr, lt-ltb, le-ltb}
use Rattle.std.proofs.lemmas.Nat.{mod-mul-add, div-mul-add}
use Rattle.std.proofs.lemmas.Bool.{cases_lt}
use native.Mathlib.Nat.{div-div-eq-div-mul, div-lt_iff_lt-mul, pow-suc}
use Rattle.b2_dec.specs.Number.{Number, IsNumber}
use Rattle.b2_base.specs.Lexical.{decimal_byte, decimal_of}
use Rattle.b2_dec.specs.Packing.{exponent_size, signs, packed_digits, pairs, packed, pairs_value}

-- a nibble and another one
pub decimal_of-nibbles : (h l : ℕ) → l < 16 → decimal_of (16 * h + l) ≡ h * 10 + l
decimal_of-nibbles h l small =
    let turned : 16 * h + l ≡ h * 16 + l = omega arith in
    rw turned (ap₂ (λ t u. t * 10 + u) (div-mul-add h 16 l small) (mod-mul-add h 16 l small))

pub decimal_of-decimal_byte : (n : ℕ) → decimal_of (decimal_byte n) ≡ n
decimal_of-decimal_byte n =
    let small : n % 10 < 10 = mod-lt n (lit< tt) in
    let turned : n / 10 * 16 + n % 10 ≡ 16 * (n / 10) + n % 10 = omega arith in
    ap decimal_of turned ∙ decimal_of-nibbles (n / 10) (n % 10) (omega arith) ∙ div-add-mod' n 10

-- Digits that follow others.
pub pairs_value-pairs : (k n a : ℕ) → pairs_value (a + n / 100 ^ k) (pairs k n) ≡ a * 100 ^ k + n
pairs_value-pairs zero n a = rw (div-one n) (omega arith)
pairs_value-pairs (suc k) n a =
    let shorter : n / 100 ^ suc k ≡ n / 100 ^ k / 100 =
    ap (λ t. n / t) (pow-suc 100 k) ∙ sym (div-div-eq-div-mul n (100 ^ k) 100) in
    let step : (a + n / 100 ^ suc k) * 100 + decimal_of (decimal_byte (n / 100 ^ k % 100)) ≡ a * 100 + n / 100 ^ k =
    rw (shorter, decimal_of-decimal_byte (n / 100 ^ k % 100)) (omega (arith, div-add-mod' (n / 100 ^ k) 100)) in
    ap (λ t. pairs_value t (pairs k n)) step ∙ pairs_value-pairs k n (a * 100) ∙ rw (pow-suc 100 k) (omega arith)

-- All sixteen nibbles of a packed number.
pub pairs_value-packed : (x : Number) → packed_digits x < 1000000000000000 → pairs_value 0 (packed x) ≡ signs x * 1000000000000000 + packed_digits x
pairs_value-packed x few =
    let first : packed_digits x / 100000000000000 < 10 = (div-lt_iff_lt-mul {x = packed_digits x} {y = 10} (lit< tt)).1 few in
    let start : 0 * 100 + decimal_of (16 * signs x + packed_digits x / 100000000000000) ≡ signs x * 10 + packed_digits x / 100 ^ 7 =
    rw (decimal_of-nibbles (signs x) (packed_digits x / 100000000000000) (omega arith)) (omega arith) in
    let all : signs x * 10 * 100 ^ 7 + packed_digits x ≡ signs x * 1000000000000000 + packed_digits x = omega arith in
    ap (λ t. pairs_value t (pairs 7 (packed_digits x))) start ∙ pairs_value-pairs 7 (packed_digits x) (signs x * 10) ∙ all

-- what is read back
pub exponent_size-most : (x : Number) → x.place ≤ 198 → exponent_size x ≤ 99
exponent_size-most x h =
    elim (cases_lt x.place 99) [
      | inl low ↦ rw (lt-ltb _ _ low) (omega arith)
      | inr high ↦ rw (le-ltb _ _ high) (omega arith)
    ]

pub packed_digits-most : (x : Number) → IsNumber x → packed_digits x < 1000000000000000
packed_digits-most x h = omega (arith, exponent_size-most x h.highest, h.digits)

-- The first nibble, the next two digits and the others of a packed number.
pub signs-packed : (x : Number) → packed_digits x < 1000000000000000 → (16 * signs x + packed_digits x / 100000000000000) / 16 ≡ signs x
signs-packed x few =
    let first : packed_digits x / 100000000000000 < 10 = (div-lt_iff_lt-mul {x = packed_digits x} {y = 10} (lit< tt)).1 few in
    ap (λ t. t / 16) turned ∙ div-mul-add (signs x) 16 (packed_digits x / 100000000000000) (omega arith)
  where
    turned : 16 * signs x + packed_digits x / 100000000000000 ≡ signs x * 16 + packed_digits x / 100000000000000
    turned = omega arith

pub packed_digits-joined : (s d : ℕ) → d < 1000000000000000 → (s * 1000000000000000 + d) % 1000000000000000 ≡ d
packed_digits-joined s d h = mod-mul-add s 1000000000000000 d h

pub exponent-packed_digits : (x : Number) → IsNumber x → packed_digits x / 10000000000000 ≡ exponent_size x
exponent-packed_digits x h = div-mul-add (exponent_size x) 10000000000000 x.coef h.digits

pub coef-packed_digits : (x : Number) → IsNumber x → packed_digits x % 10000000000000 ≡ x.coef
coef-packed_digits x h = mod-mul-add (exponent_size x) 10000000000000 x.coef h.digits
