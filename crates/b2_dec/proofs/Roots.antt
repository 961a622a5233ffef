-- Square roots, and multiples of one unit.
use Rattle.std.proofs.Common.{◌≡◌, ℕ, zero, suc, ◌+◌, ◌-◌, ◌*◌, ◌/◌, ◌%◌, ◌^◌, ◌<◌, ◌≤◌, sym, refl, ap, ap₂, ◌∙◌, subst, arith, lit<, lit≤, pow-add, mul_assoc, mul-pos, mul-le-mul, mul-le-mul_right, lt_of_le_of_lt, le-leb, add_comm, zero-mul, inl, inr, add-sub_of_le, Result, Ok, IsOk, Bool, false, div-lt_iff_lt-mul, le-ltb}
use Rattle.b2_dec.proofs.Exact.{rnd-none, after_carry-digits}
use Rattle.b2_dec.proofs.Rounds.{rnd-whole_part}
use borrow.Author.Tests.{lt-leb}
use Rattle.std.proofs.lemmas.Bool.{cases_lt}
use native.Mathlib.Nat.{mul-lt-mul_of_pos_right, mul-mul-mul_comm, div-eq_of_lt-le, div-eq_of_lt, mul-div-mul_right}
use Rattle.b2_dec.specs.declared.number.Mode.TheVariants.{Round, Cut}
use Rattle.b2_dec.specs.Number.{Number, zero_number, size}
use Rattle.b2_dec.specs.Rounding.{whole_by, in_range, rnd, IsWholePart}
use Rattle.b2_dec.specs.Arithmetic.{root, root_of}
use Rattle.b2_dec.proofs.TenLemmas.{ten_pos, ten_le}
use Rattle.b2_dec.proofs.Signs.{in_units, size-lower}
use Rattle.b2_dec.proofs.Quotients.{half_of}

pub square_less : (a b : ℕ) → a * a < b * b → a < b
square_less a b h = elim (cases_lt a b) [ inl below ↦ below | inr above ↦ absurd (omega (arith, mul-le-mul above above)) ]

pub root-low : (n : ℕ) → root n * root n ≤ n
unfolding root
root-low zero = lit≤ tt
root-low (suc n) =
    elim (cases_lt (suc n) ((root n + 1) * (root n + 1))) [
      | inl below ↦ rw (lt-leb _ _ below) (omega (arith, root-low n))
      | inr above ↦ rw (le-leb _ _ above) above
    ]

pub root-high : (n : ℕ) → n < (root n + 1) * (root n + 1)
unfolding root
root-high zero = lit< tt
root-high (suc n) =
    elim (cases_lt (suc n) ((root n + 1) * (root n + 1))) [
      | inl below ↦ rw (lt-leb _ _ below) below
      | inr above ↦ rw (le-leb _ _ above) (omega (arith, root-high n))
    ]

-- the root of digits with an even number of places after them
pub root-part : (m r q : ℕ) → r * r ≤ m → m < (r + 1) * (r + 1) → (n : ℕ) → n ≡ m * (q * q) → 0 < q
    → (r * q ≤ root n) × (root n < (r + 1) * q)
root-part m r q low high n e qpos =
    let under : (r * q) * (r * q) ≤ n = rw (e, mul-mul-mul_comm r q r q) (mul-le-mul_right (q * q) low) in
    let over : n < ((r + 1) * q) * ((r + 1) * q) = rw (e, mul-mul-mul_comm (r + 1) q (r + 1) q) (mul-lt-mul_of_pos_right high (mul-pos qpos qpos)) in
    let first : r * q < root n + 1 = square_less (r * q) (root n + 1) (lt_of_le_of_lt under (root-high n)) in
    let second : root n < (r + 1) * q = square_less (root n) ((r + 1) * q) (lt_of_le_of_lt (root-low n) over) in
    (omega arith, second)

pub root-whole : (a : Number) (t r q : ℕ) → q + q + t ≡ a.place + 111 → r * r ≤ a.coef * 10 ^ t → a.coef * 10 ^ t < (r + 1) * (r + 1)
    → IsWholePart r (q + 111) (root (size a * 10 ^ 111)) (10 ^ 111)
root-whole a t r q e low high =
    let places : 10 ^ a.place * 10 ^ 111 ≡ 10 ^ t * (10 ^ q * 10 ^ q) =
    sym (pow-add 10 a.place 111) ∙ ap (λ p. 10 ^ p) (sym e ∙ add_comm (q + q) t) ∙ pow-add 10 t (q + q) ∙ ap (λ u. 10 ^ t * u) (pow-add 10 q q) in
    let all : size a * 10 ^ 111 ≡ a.coef * 10 ^ t * (10 ^ q * 10 ^ q) =
    mul_assoc a.coef (10 ^ a.place) (10 ^ 111) ∙ ap (λ u. a.coef * u) places ∙ sym (mul_assoc a.coef (10 ^ t) (10 ^ q * 10 ^ q)) in
    let part = root-part (a.coef * 10 ^ t) r (10 ^ q) low high (size a * 10 ^ 111) all (ten_pos q) in
    record {
      low = rw (in_units r q) (mul-le-mul_right (10 ^ 222) part.0);
      high = rw (in_units (r + 1) q) (mul-lt-mul_of_pos_right part.1 (lit< tt));
    }

pub root-digits : (c t r : ℕ) → 1000000000000 ≤ c → 14 ≤ t → c * 10 ^ t < (r + 1) * (r + 1) → 10000000000000 ≤ r
root-digits c t r some h high =
    let large : 10 ^ 12 * 10 ^ 14 ≤ c * 10 ^ t = mul-le-mul some (ten_le 14 t h) in
    let square : 10000000000000 * 10000000000000 < (r + 1) * (r + 1) = lt_of_le_of_lt large high in
    let more : 10000000000000 < r + 1 = square_less 10000000000000 (r + 1) square in
    omega arith

-- Multiples of one unit.
pub whole_by-multiple : (m u : ℕ) → 0 < u → whole_by Round (m * u) u ≡ m
whole_by-multiple m u h = div-eq_of_lt-le (2 * u) (omega arith) (omega arith)

pub whole_by-nothing : (n u : ℕ) → 2 * n < u → whole_by Round n u ≡ 0
whole_by-nothing n u h = div-eq_of_lt (omega arith)

pub whole_by-scaled : (c d p : ℕ) → 0 < p → whole_by Round (c * p) (d * p) ≡ whole_by Round c d
whole_by-scaled c d p h =
    let top : 2 * (c * p) + d * p ≡ (2 * c + d) * p = omega arith in
    let bottom : 2 * (d * p) ≡ 2 * d * p = omega arith in
    ap₂ ◌/◌ top bottom ∙ mul-div-mul_right (2 * c + d) (2 * d) h

pub nearest-itself : (a : Number) (last : ℕ) → last ≤ a.place → whole_by Round (size a) (10 ^ last) * 10 ^ last ≡ size a
nearest-itself a last h =
    let whole : size a ≡ a.coef * 10 ^ (a.place - last) * 10 ^ last = size-lower a last (a.place - last) (sym (add-sub_of_le h)) in
    rw whole (ap (λ t. t * 10 ^ last) (whole_by-multiple (a.coef * 10 ^ (a.place - last)) (10 ^ last) (ten_pos last)))

pub nearest-nothing : (a : Number) (last : ℕ) → 2 * size a < 10 ^ last → whole_by Round (size a) (10 ^ last) * 10 ^ last ≡ 0
nearest-nothing a last h = ap (λ t. t * 10 ^ last) (whole_by-nothing (size a) (10 ^ last) h) ∙ zero-mul (10 ^ last)

pub nearest-far : (a : Number) (last : ℕ) → a.coef < 10000000000000 → a.place + 13 < last → 2 * size a < 10 ^ last
nearest-far a last few far =
    let under : size a < 10 ^ 13 * 10 ^ a.place = mul-lt-mul_of_pos_right few (ten_pos a.place) in
    let over : 10 ^ (14 + a.place) ≤ 10 ^ last = ten_le (14 + a.place) last (omega arith) in
    omega (arith, pow-add 10 14 a.place)

pub nearest-scaled : (a : Number) (d last : ℕ) → last ≡ a.place + d → 1 ≤ d → (a.coef + 10 ^ d / 2) / 10 ^ d ≡ whole_by Round (size a) (10 ^ last)
nearest-scaled a d last e some =
    let unit : 10 ^ d * 10 ^ a.place ≡ 10 ^ last = sym (pow-add 10 d a.place) ∙ ap (λ t. 10 ^ t) (add_comm d a.place ∙ sym e) in
    half_of a.coef d some ∙ sym (whole_by-scaled a.coef (10 ^ d) (10 ^ a.place) (ten_pos a.place)) ∙ ap (whole_by Round (size a)) unit

pub nearest-is : (a : Number) (d last x u : ℕ) (s : Bool) (r : Result Number ℕ) → last ≡ a.place + d → 1 ≤ d → x ≡ a.coef → u ≡ 10 ^ d → s ≡ a.neg
    → ((n e : ℕ) → 0 < e → (x + u / 2) / u * (10 ^ (last + 111) * e) ≡ n * 10 ^ 222 → r ≡ rnd Cut s n e)
    → r ≡ rnd Cut a.neg (whole_by Round (size a) (10 ^ last) * 10 ^ last) (10 ^ 111)
nearest-is a d last x u s r e some ex eu es made =
    let k : ℕ = whole_by Round (size a) (10 ^ last) in
    let same : (x + u / 2) / u ≡ k = rw (ex, eu) (nearest-scaled a d last e some) in
    made (k * 10 ^ last) (10 ^ 111) (lit< tt) (rw same (in_units k last)) ∙ ap (λ t. rnd Cut t (k * 10 ^ last) (10 ^ 111)) es

root-zero : root 0 ≡ 0
unfolding root
root-zero = refl

pub root_of-none : (a : Number) → a.neg ≡ false → a.coef ≡ 0 → root_of a ≡ Ok zero_number
root_of-none a plain none =
    let nothing : size a * 10 ^ 111 ≡ 0 = omega (arith, ap (λ t. t * 10 ^ a.place) none ∙ zero-mul (10 ^ a.place)) in
    rw plain (rnd-none Cut false (root (size a * 10 ^ 111)) (10 ^ 111) (ap root nothing ∙ root-zero))

-- An even number of places is left.
pub even_places : (p : ℕ) → ((p + 333 - (14 + (p + 1) % 2)) / 2 - 111) + ((p + 333 - (14 + (p + 1) % 2)) / 2 - 111) + (14 + (p + 1) % 2) ≡ p + 111
even_places p = omega arith

pub above_places : (p : ℕ) → (p + 333 - (14 + (p + 1) % 2)) / 2 - 111 + 111 ≡ (p + 333 - (14 + (p + 1) % 2)) / 2
above_places p = omega arith

pub root-part_of : (a : Number) (r p x u : ℕ) → p ≡ a.place → x ≡ a.coef → u ≡ 10 ^ (14 + (p + 1) % 2) → r * r ≤ x * u → x * u < (r + 1) * (r + 1)
    → IsWholePart r ((p + 333 - (14 + (p + 1) % 2)) / 2) (root (size a * 10 ^ 111)) (10 ^ 111)
root-part_of a r p x u ep ex eu low high =
    let t : ℕ = 14 + (p + 1) % 2 in
    let at : ℕ = (p + 333 - t) / 2 in
    let part : IsWholePart r (at - 111 + 111) (root (size a * 10 ^ 111)) (10 ^ 111) =
    root-whole a t r (at - 111) (even_places p ∙ ap (λ k. k + 111) ep) (rw (← ex, ← eu) low) (rw (← ex, ← eu) high) in
    subst (λ k. IsWholePart r k (root (size a * 10 ^ 111)) (10 ^ 111)) (above_places p) part

pub root_of-is : (a : Number) (r p : ℕ) (x u : ℕ) (s : Result Number ℕ) → a.neg ≡ false → p ≡ a.place → x ≡ a.coef → u ≡ 10 ^ (14 + (p + 1) % 2)
    → r * r ≤ x * u → x * u < (r + 1) * (r + 1)
    → ((n d : ℕ) → 0 < d → IsWholePart r ((p + 333 - (14 + (p + 1) % 2)) / 2) n d → s ≡ rnd Cut false n d) → s ≡ root_of a
root_of-is a r p x u s plain ep ex eu low high made =
    made (root (size a * 10 ^ 111)) (10 ^ 111) (lit< tt) (root-part_of a r p x u ep ex eu low high) ∙ rw plain refl

-- A root has thirteen digits at a place in range.
pub root-most : (c t r : ℕ) → c < 10000000000000 → t ≤ 15 → r * r ≤ c * 10 ^ t → r < 100000000000000
root-most c t r few h low =
    let fifteen : 10 ^ t ≤ 10 ^ 15 = ten_le t 15 h in
    let few' : c ≤ 9999999999999 = omega arith in
    let under : c * 10 ^ t ≤ 9999999999999 * 10 ^ 15 = mul-le-mul few' fifteen in
    square_less r 100000000000000 (omega arith)

pub cut-ok : (r at n d : ℕ) → 10000000000000 ≤ r → r < 100000000000000 → 110 ≤ at → at ≤ 308 → 0 < d → IsWholePart r at n d → IsOk (rnd Cut false n d)
cut-ok r at n d least most low high dpos whole =
    let few : r / 10 < 10000000000000 = (div-lt_iff_lt-mul {x = r} {y = 10000000000000} (lit< tt)).1 most in
    let number : rnd Cut false n d ≡ Ok (record { neg = false; coef = r / 10; place = at + 1 - 111 }) =
    rnd-whole_part Cut false r at n d 0 dpos whole least most ∙ after_carry-digits false (r / 10) (at + 1) few ∙ in_range-ok (r / 10) (at + 1) (omega arith) (omega arith) in
    subst IsOk (sym number) refl
  where
    in_range-ok : (c p : ℕ) → 111 ≤ p → p ≤ 309 → in_range false c p ≡ Ok (record { neg = false; coef = c; place = p - 111 })
    in_range-ok c p h k = rw (le-ltb _ _ h, le-ltb _ _ k) refl

pub root_of-ok : (r p c x u : ℕ) (s : Result Number ℕ) → p ≤ 198 → c < 10000000000000 → x ≡ c → u ≡ 10 ^ (14 + (p + 1) % 2) → 10000000000000 ≤ r → r * r ≤ x * u
    → (n : ℕ) → IsWholePart r ((p + 333 - (14 + (p + 1) % 2)) / 2) n (10 ^ 111) → s ≡ rnd Cut false n (10 ^ 111) → IsOk s
root_of-ok r p c x u s h few ex eu least low n whole e =
    let most : r < 100000000000000 = root-most c (14 + (p + 1) % 2) r few (omega arith) (rw (← ex, ← eu) low) in
    subst IsOk (sym e) (cut-ok r ((p + 333 - (14 + (p + 1) % 2)) / 2) n (10 ^ 111) least most (omega arith) (omega arith) (lit< tt) whole)
