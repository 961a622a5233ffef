-- Whole numbers below and above a number.
use Rattle.std.proofs.Common.{◌≡◌, ℕ, zero, suc, ◌+◌, ◌-◌, ◌*◌, ◌/◌, ◌%◌, ◌^◌, ◌<◌, ◌≤◌, ℤ, pos, negsuc, ◌*ℤ◌, Bool, true, false, Ok, sym, refl, ap, ap₂, ◌∙◌, subst, arith, lit<, pow-add, mul_assoc, mul-pos, mul-le-mul_right, lt_of_lt_of_le, sub-add_cancel, mul-div_cancel, zero-mul, add-mul, one-mul, mod-lt, div-add-mod', true≢false, inl, inr, le-div_iff_mul-le, div-lt_iff_lt-mul, add-one}
use Rattle.std.proofs.lemmas.Int.{ints}
use Rattle.std.proofs.lemmas.Bool.{cases_lt}
use native.Mathlib.Nat.{mul-lt-mul_of_pos_right, div-eq_of_lt-le, div-eq_of_lt, eq-zero-or-pos}
use Rattle.b2_dec.specs.declared.number.Mode.{Mode}
use Rattle.b2_dec.specs.Number.{Number, zero_number, IsNumber, size, value, signed}
use Rattle.b2_dec.specs.Rounding.{rnd, rounded}
use Rattle.b2_dec.specs.Arithmetic.{floored, whole_above}
use Rattle.b2_dec.proofs.TenLemmas.{ten_pos}
use Rattle.b2_dec.proofs.Signs.{rounded-signed}
use Rattle.b2_dec.proofs.Factors.{signed-mul}
use Rattle.b2_dec.proofs.Exact.{rnd-digits, rnd-none, in_range-number}
use Rattle.b2_dec.proofs.Ranks.{something}
use Rattle.b2_dec.proofs.Parts.{size-high, size-div_low, one-low, below_one}

-- A number is what the fraction of its value is rounded to.
pub rnd-number_at : (mode : Mode) (x : Number) (n d : ℕ) → IsNumber x → 0 < d → size x * d ≡ n * 10 ^ 111 → rnd mode x.neg n d ≡ Ok x
rnd-number_at mode x n d h dpos e =
    elim (cases_lt x.coef 1000000000000) [
      | inl few ↦
          let none : x ≡ zero_number = h.spelling few in
          let nothing : 0 * 10 ^ 99 * d ≡ n * 10 ^ 111 = subst (λ y. size y * d ≡ n * 10 ^ 111) none e in
          let empty : n ≡ 0 = omega (arith, zero-mul d, nothing) in
          subst (λ y. rnd mode y.neg n d ≡ Ok y) (sym none) (rnd-none mode false n d empty)
      | inr many ↦
          let units : x.coef * (10 ^ (x.place + 111) * d) ≡ n * 10 ^ 222 =
          rw (pow-add 10 x.place 111) (omega (arith, e)) in
          rnd-digits mode x.neg x.coef (x.place + 111) n d many h.digits (omega arith) dpos units ∙ in_range-number x h.highest
    ]

-- the sign and the size, where it is not zero
pub signed-parts : (s t : Bool) (x y : ℕ) → 0 < y → signed s x ≡ signed t y → (s ≡ t) × (x ≡ y)
signed-parts true true x y h e = (refl, omega (arith, ints, e))
signed-parts true false x y h e = absurd (omega (arith, ints, e))
signed-parts false true x y h e = absurd (omega (arith, ints, e))
signed-parts false false x y h e = (refl, omega (arith, ints, e))

pub signed-nothing : (s : Bool) (x : ℕ) → signed s x ≡ pos 0 → x ≡ 0
signed-nothing true x e = omega (arith, ints, e)
signed-nothing false x e = omega (arith, ints, e)

pub signed-zero : (s : Bool) → signed s 0 ≡ pos 0
signed-zero true = refl
signed-zero false = refl

pub coef-nothing : (x : Number) → IsNumber x → size x ≡ 0 → x ≡ zero_number
coef-nothing x h none =
    elim (cases_lt x.coef 1000000000000) [
      | inl few ↦ h.spelling few
      | inr many ↦ let more : 0 < size x = something x (lt_of_lt_of_le (lit< tt) many) in absurd (omega arith)
    ]

-- A number whose value is whole is what that whole number is rounded to.
pub rnd-whole : (mode : Mode) (x : Number) (s : Bool) (n : ℕ) → IsNumber x → value x ≡ signed s (n * 10 ^ 111) → rnd mode s n 1 ≡ Ok x
rnd-whole mode x s n h e =
    elim (eq-zero-or-pos n) [
      | inl none ↦
          let nothing : size x ≡ 0 = signed-nothing x.neg (size x) (e ∙ ap (λ t. signed s (t * 10 ^ 111)) none ∙ ap (signed s) (zero-mul (10 ^ 111)) ∙ signed-zero s) in
          rnd-none mode s n 1 none ∙ ap Ok (sym (coef-nothing x h nothing))
      | inr some ↦
          let parts = signed-parts x.neg s (size x) (n * 10 ^ 111) (mul-pos some (lit< tt)) e in
          ap (λ t. rnd mode t n 1) (sym parts.0) ∙ rnd-number_at mode x n 1 h (lit< tt) (omega (arith, parts.1))
    ]

pub rounded-whole : (mode : Mode) (x : Number) (s : Bool) (n : ℕ) → IsNumber x → value x ≡ signed s (n * 10 ^ 111) → rounded mode (signed s n) 1 ≡ Ok x
rounded-whole mode x s n h e = rounded-signed mode s n 1 ∙ rnd-whole mode x s n h e

pub signed-times : (s : Bool) (n u : ℕ) → signed s n *ℤ pos u ≡ signed s (n * u)
signed-times true n u = signed-mul true false n u
signed-times false n u = refl

-- the whole number below a number, by its size
pub floored-above : (s d : ℕ) → 0 < s → floored (signed true s) d ≡ signed true (whole_above s d)
floored-above zero d h = absurd (omega arith)
floored-above (suc k) d h = let back : suc k - 1 ≡ k = omega arith in rw (back, add-one) refl

pub above-is : (s q u : ℕ) → q * u < s → s ≤ (q + 1) * u → whole_above s u ≡ q + 1
above-is s q u low high = ap (λ t. t + 1) (div-eq_of_lt-le u (omega arith) (omega arith))

pub above-exact : (s m u : ℕ) → 0 < u → 0 < m → s ≡ m * u → whole_above s u * u ≡ s
above-exact s zero u upos mpos e = absurd (omega arith)
above-exact s (suc k) u upos mpos e =
    let all : s ≡ (k + 1) * u = e ∙ ap (λ t. t * u) (sym (add-one k)) in
    let over : (k + 1) * u ≡ k * u + u = add-mul k 1 u ∙ ap (λ t. k * u + t) (one-mul u) in
    ap (λ t. t * u) (above-is s k u (omega arith) (omega arith)) ∙ sym all

-- a number that ends at the point or before it
pub kept-high : (x : Number) → 111 ≤ x.place → size x / 10 ^ 111 * 10 ^ 111 ≡ size x
kept-high x h = rw (size-high x h) (ap (λ t. t * 10 ^ 111) (mul-div_cancel (x.coef * 10 ^ (x.place - 111)) {n = 10 ^ 111} (lit< tt)))

pub kept-small : (x : Number) (s : Bool) → x.coef < 10000000000000 → x.place < 99 → signed s (size x / 10 ^ 111 * 10 ^ 111) ≡ pos 0
kept-small x s few low = rw (div-eq_of_lt (below_one x few low)) (signed-zero s)

pub kept-low : (x : Number) → x.place ≤ 111 → size x / 10 ^ 111 * 10 ^ 111 ≡ x.coef / 10 ^ (111 - x.place) * 10 ^ (111 - x.place) * 10 ^ x.place
kept-low x h = ap₂ ◌*◌ (size-div_low x h) (one-low x.place h) ∙ sym (mul_assoc (x.coef / 10 ^ (111 - x.place)) (10 ^ (111 - x.place)) (10 ^ x.place))

pub kept-least : (c k : ℕ) → k ≤ 12 → 1000000000000 ≤ c → 1000000000000 ≤ c / 10 ^ k * 10 ^ k
kept-least c k h least =
    let parts : 10 ^ 12 ≡ 10 ^ (12 - k) * 10 ^ k = ap (λ t. 10 ^ t) (sym (sub-add_cancel h)) ∙ pow-add 10 (12 - k) k in
    let under : 10 ^ (12 - k) * 10 ^ k ≤ c = rw (← parts) least in
    rw parts (mul-le-mul_right (10 ^ k) ((le-div_iff_mul-le (ten_pos k)).1 under))

-- the size of a negative number, raised to a whole one
pub raised-high : (x : Number) → 0 < x.coef → 111 ≤ x.place → whole_above (size x) (10 ^ 111) * 10 ^ 111 ≡ size x
raised-high x some h =
    above-exact (size x) (x.coef * 10 ^ (x.place - 111)) (10 ^ 111) (lit< tt) (mul-pos some (ten_pos (x.place - 111))) (size-high x h)

pub raised-small : (x : Number) → 0 < x.coef → x.coef < 10000000000000 → x.place < 99 → whole_above (size x) (10 ^ 111) * 10 ^ 111 ≡ 10 ^ 111
raised-small x some few low =
    let over : 0 < size x = something x some in
    let under : size x < 10 ^ 111 = below_one x few low in
    ap (λ t. t * 10 ^ 111) (above-is (size x) 0 (10 ^ 111) (omega arith) (omega arith))

pub raised-even : (x : Number) → 0 < x.coef → x.place ≤ 111 → x.coef % 10 ^ (111 - x.place) ≡ 0 → whole_above (size x) (10 ^ 111) * 10 ^ 111 ≡ size x
raised-even x some h e =
    let q : ℕ = x.coef / 10 ^ (111 - x.place) in
    let all : q * 10 ^ (111 - x.place) ≡ x.coef = omega (arith, div-add-mod' x.coef (10 ^ (111 - x.place)), e) in
    let whole : size x ≡ q * 10 ^ 111 =
    ap (λ t. t * 10 ^ x.place) (sym all) ∙ mul_assoc q (10 ^ (111 - x.place)) (10 ^ x.place) ∙ ap (λ t. q * t) (sym (one-low x.place h)) in
    let more : 0 < q * 10 ^ (111 - x.place) = rw all some in
    above-exact (size x) q (10 ^ 111) (lit< tt) (pos_of_left q (10 ^ (111 - x.place)) more) whole
  where
    pos_of_left : (a b : ℕ) → 0 < a * b → 0 < a
    pos_of_left zero b h = absurd (omega (arith, zero-mul b))
    pos_of_left (suc k) b h = omega arith

pub raised-rest : (x : Number) → x.place ≤ 111 → (x.coef % 10 ^ (111 - x.place) ≡ 0 → ⊥)
    → whole_above (size x) (10 ^ 111) * 10 ^ 111 ≡ (x.coef / 10 ^ (111 - x.place) + 1) * 10 ^ (111 - x.place) * 10 ^ x.place
raised-rest x h some =
    let u : ℕ = 10 ^ (111 - x.place) in
    let q : ℕ = x.coef / u in
    let parts = div-add-mod' x.coef u in
    let small : x.coef % u < u = mod-lt x.coef (ten_pos (111 - x.place)) in
    let low : q * u < x.coef = omega arith in
    let next : (q + 1) * u ≡ q * u + u = add-mul q 1 u ∙ ap (λ t. q * u + t) (one-mul u) in
    let high : x.coef ≤ (q + 1) * u = omega arith in
    let low' : q * u * 10 ^ x.place < size x = mul-lt-mul_of_pos_right low (ten_pos x.place) in
    let high' : size x ≤ (q + 1) * u * 10 ^ x.place = mul-le-mul_right (10 ^ x.place) high in
    let unit : (k : ℕ) → k * 10 ^ 111 ≡ k * u * 10 ^ x.place = λ k. ap (λ t. k * t) (one-low x.place h) ∙ sym (mul_assoc k u (10 ^ x.place)) in
    ap (λ t. t * 10 ^ 111) (above-is (size x) q (10 ^ 111) (rw (unit q) low') (rw (unit (q + 1)) high')) ∙ unit (q + 1)

-- one unit more than the whole units of thirteen digits
pub next-most : (c k : ℕ) → k ≤ 13 → c < 10000000000000 → (c / 10 ^ k + 1) * 10 ^ k ≤ 10000000000000
next-most c k h few =
    let parts : 10 ^ 13 ≡ 10 ^ (13 - k) * 10 ^ k = ap (λ t. 10 ^ t) (sym (sub-add_cancel h)) ∙ pow-add 10 (13 - k) k in
    let under : c < 10 ^ (13 - k) * 10 ^ k = rw (← parts) few in
    let less : c / 10 ^ k < 10 ^ (13 - k) = (div-lt_iff_lt-mul (ten_pos k)).1 under in
    let next : c / 10 ^ k + 1 ≤ 10 ^ (13 - k) = omega arith in
    rw parts (mul-le-mul_right (10 ^ k) next)

pub next-least : (c u : ℕ) → 0 < u → 1000000000000 ≤ c → 1000000000000 ≤ (c / u + 1) * u
next-least c u upos least =
    let small : c % u < u = mod-lt c upos in
    let next : (c / u + 1) * u ≡ c / u * u + u = add-mul (c / u) 1 u ∙ ap (λ t. c / u * u + t) (one-mul u) in
    omega (arith, div-add-mod' c u)

-- the same for a whole number with its sign
pub rounded-whole_ℤ : (mode : Mode) (x : Number) (z : ℤ) → IsNumber x → value x ≡ z *ℤ pos (10 ^ 111) → rounded mode z 1 ≡ Ok x
rounded-whole_ℤ mode x (pos n) h e = rounded-whole mode x false n h e
rounded-whole_ℤ mode x (negsuc n) h e = rounded-whole mode x true (suc n) h e

pub value-negative : (x : Number) → x.neg ≡ true → value x ≡ signed true (size x)
value-negative x e = ap (λ s. signed s (size x)) e

pub floored-positive : (x : Number) → x.neg ≡ false → floored (value x) (10 ^ 111) *ℤ pos (10 ^ 111) ≡ signed x.neg (size x / 10 ^ 111 * 10 ^ 111)
floored-positive x e = rw e refl

pub floored-negative : (x : Number) → x.neg ≡ true → 0 < size x → floored (value x) (10 ^ 111) *ℤ pos (10 ^ 111) ≡ signed true (whole_above (size x) (10 ^ 111) * 10 ^ 111)
floored-negative x e h =
    ap (λ z. floored z (10 ^ 111) *ℤ pos (10 ^ 111)) (value-negative x e)
    ∙ ap (λ z. z *ℤ pos (10 ^ 111)) (floored-above (size x) (10 ^ 111) h)
    ∙ signed-times true (whole_above (size x) (10 ^ 111)) (10 ^ 111)

-- a number below zero has digits
pub some_digits : (x : Number) → IsNumber x → x.neg ≡ true → 1000000000000 ≤ x.coef
some_digits x h s =
    elim (cases_lt x.coef 1000000000000) [
      | inl few ↦ absurd (true≢false (sym s ∙ ap (λ (y : Number). y.neg) (h.spelling few)))
      | inr many ↦ many
    ]

pub carried : (up p : ℕ) → up ≡ 10000000000000 → 10 ^ 12 * 10 ^ (p + 1) ≡ up * 10 ^ p
carried up p e = rw (e, pow-add 10 p 1) (omega arith)
