-- How numbers stand in order.
use Rattle.std.proofs.Common.{◌≡◌, ℕ, ◌+◌, ◌*◌, ◌^◌, ◌<◌, ◌≤◌, pos, neg_ℤ, ◌<ℤ◌, true, false, Less, Equal, Greater, nat_cmp, int_cmp, sym, ap, ◌∙◌, arith, pow-add, mul-pos, mul-le-mul_right, true≢false, zero-mul, ◌⊎◌, inl, inr, ⊎_elim}
use Rattle.std.specs.Ordering.{ordering_then}
use Rattle.std.specs.Cmp.{nat_cmp_is, int_cmp_is}
use Rattle.std.proofs.lemmas.Bool.{cases_order, cases_lt}
use Rattle.std.proofs.lemmas.Int.{ints}
use native.Mathlib.Nat.{mul-lt-mul_of_pos_right}
use Rattle.b2_dec.specs.Number.{Number, IsNumber, size, value}
use Rattle.b2_dec.proofs.TenLemmas.{ten_pos, ten_le}

cmp-less : (x y : ℕ) → x < y → nat_cmp x y ≡ Less
cmp-less x y h = sym (nat_cmp_is x y Less h)

cmp-same : (x y : ℕ) → x ≡ y → nat_cmp x y ≡ Equal
cmp-same x y h = sym (nat_cmp_is x y Equal h)

cmp-greater : (x y : ℕ) → y < x → nat_cmp x y ≡ Greater
cmp-greater x y h = sym (nat_cmp_is x y Greater h)

-- the same order of two other numbers
pub cmp-alike : (x y u v : ℕ) → (x < y → u < v) → (x ≡ y → u ≡ v) → (y < x → v < u) → nat_cmp x y ≡ nat_cmp u v
cmp-alike x y u v less same more =
    elim (cases_order x y) [
      | inl e ↦ cmp-same x y e ∙ sym (cmp-same u v (same e))
      | inr other ↦ ⊎_elim (λ h. cmp-less x y h ∙ sym (cmp-less u v (less h))) (λ h. cmp-greater x y h ∙ sym (cmp-greater u v (more h))) other
    ]

nothing : (x : Number) → x.coef ≡ 0 → size x ≡ 0
nothing x e = ap (λ t. t * 10 ^ x.place) e ∙ zero-mul (10 ^ x.place)

pub something : (x : Number) → 0 < x.coef → 0 < size x
something x h = mul-pos h (ten_pos x.place)

-- Where one of them is zero, numbers stand as their digits do.
pub cmp-zero : (a b : Number) → (a.coef ≡ 0) ⊎ (b.coef ≡ 0) → nat_cmp a.coef b.coef ≡ nat_cmp (size a) (size b)
cmp-zero a b none = ⊎_elim
    (λ e. cmp-alike a.coef b.coef (size a) (size b)
    (λ h. let more : 0 < b.coef = omega arith in rw (nothing a e) (something b more))
    (λ h. nothing a e ∙ sym (nothing b (sym h ∙ e)))
    (λ h. absurd (omega arith)))
    (λ e. cmp-alike a.coef b.coef (size a) (size b)
    (λ h. absurd (omega arith))
    (λ h. nothing a (h ∙ e) ∙ sym (nothing b e))
    (λ h. let more : 0 < a.coef = omega arith in rw (nothing b e) (something a more)))
    none

pub less_place : (x y : Number) → x.coef < 10000000000000 → 1000000000000 ≤ y.coef → x.place < y.place → size x < size y
less_place x y few some lower =
    let under : size x < 10 ^ 13 * 10 ^ x.place = mul-lt-mul_of_pos_right few (ten_pos x.place) in
    let apart : 10 ^ (13 + x.place) ≤ 10 ^ (12 + y.place) = ten_le (13 + x.place) (12 + y.place) (omega arith) in
    let over : 10 ^ 12 * 10 ^ y.place ≤ size y = mul-le-mul_right (10 ^ y.place) some in
    omega (arith, pow-add 10 13 x.place, pow-add 10 12 y.place)

same_place : (a b : Number) → a.place ≡ b.place → nat_cmp a.coef b.coef ≡ nat_cmp (size a) (size b)
same_place a b e =
    cmp-alike a.coef b.coef (a.coef * 10 ^ a.place) (b.coef * 10 ^ a.place)
    (λ h. mul-lt-mul_of_pos_right h (ten_pos a.place)) (λ h. ap (λ t. t * 10 ^ a.place) h) (λ h. mul-lt-mul_of_pos_right h (ten_pos a.place))
    ∙ ap (λ p. nat_cmp (size a) (b.coef * 10 ^ p)) e

-- Numbers with thirteen digits stand as their places do, and then as their digits.
pub cmp-places : (a b : Number) → 1000000000000 ≤ a.coef → a.coef < 10000000000000 → 1000000000000 ≤ b.coef → b.coef < 10000000000000
    → ordering_then (nat_cmp a.place b.place) (nat_cmp a.coef b.coef) ≡ nat_cmp (size a) (size b)
cmp-places a b some few some' few' =
    elim (cases_order a.place b.place) [
      | inl e ↦ rw (cmp-same a.place b.place e) (same_place a b e)
      | inr other ↦ ⊎_elim
          (λ h. rw (cmp-less a.place b.place h) (sym (cmp-less (size a) (size b) (less_place a b few some' h))))
          (λ h. rw (cmp-greater a.place b.place h) (sym (cmp-greater (size a) (size b) (less_place b a few' some h)))) other
    ]

pub below_zero : (x : Number) → IsNumber x → x.neg ≡ true → 0 < size x
below_zero x h s =
    elim (cases_lt x.coef 1000000000000) [
      | inl few ↦ absurd (true≢false (sym s ∙ ap (λ (y : Number). y.neg) (h.spelling few)))
      | inr many ↦ something x (omega arith)
    ]

pub value-less : (a b : Number) → IsNumber a → a.neg ≡ true → b.neg ≡ false → value a <ℤ value b
value-less a b h s t =
    let some : 0 < size a = below_zero a h s in
    let lower : neg_ℤ (pos (size a)) <ℤ pos (size b) = omega (arith, ints) in
    rw (s, t) lower

pub cmp-signed : (x y : ℕ) → nat_cmp x y ≡ int_cmp (pos x) (pos y)
cmp-signed x y =
    elim (cases_order x y) [
      | inl e ↦ cmp-same x y e ∙ int_cmp_is (pos x) (pos y) Equal (ap pos e)
      | inr other ↦ ⊎_elim (λ h. cmp-less x y h ∙ int_cmp_is (pos x) (pos y) Less (omega (arith, ints)))
          (λ h. cmp-greater x y h ∙ int_cmp_is (pos x) (pos y) Greater (omega (arith, ints))) other
    ]

pub cmp-negated : (x y : ℕ) → nat_cmp y x ≡ int_cmp (neg_ℤ (pos x)) (neg_ℤ (pos y))
cmp-negated x y =
    elim (cases_order y x) [
      | inl e ↦ cmp-same y x e ∙ int_cmp_is (neg_ℤ (pos x)) (neg_ℤ (pos y)) Equal (ap (λ t. neg_ℤ (pos t)) (sym e))
      | inr other ↦ ⊎_elim (λ h. cmp-less y x h ∙ int_cmp_is (neg_ℤ (pos x)) (neg_ℤ (pos y)) Less (omega (arith, ints)))
          (λ h. cmp-greater y x h ∙ int_cmp_is (neg_ℤ (pos x)) (neg_ℤ (pos y)) Greater (omega (arith, ints))) other
    ]

-- A number other than zero has thirteen digits.
pub thirteen : (x : Number) → IsNumber x → (x.coef ≡ 0 → ⊥) → 1000000000000 ≤ x.coef
thirteen x h some =
    elim (cases_lt x.coef 1000000000000) [
      | inl few ↦ absurd (some (ap (λ (y : Number). y.coef) (h.spelling few)))
      | inr many ↦ many
    ]
