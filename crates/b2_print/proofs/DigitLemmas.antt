-- The digits of a number, found among its thirteen.
use Rattle.std.proofs.Common.{◌≡◌, ℕ, suc, ◌+◌, ◌-◌, ◌*◌, ◌/◌, ◌%◌, ◌^◌, ◌<◌, ◌≤◌, ◌==◌, nat_le, true, false, sym, ap, ◌∙◌, subst, arith, lit<, pow-add, mul_assoc, sub-add_cancel, mul-le-mul_right, le_trans, lt_of_lt_of_le, mul-div_cancel, mul_comm, eq-eqb, inl, inr}
use Rattle.std.proofs.lemmas.Bool.{cases_lt}
use borrow.Author.Tests.{lt-leb, le-leb}
use native.Mathlib.Nat.{mul-div-mul_right, mul-mod_left, mul-lt-mul_of_pos_right, pow-le-pow_right, pow-succ', div-eq_of_lt, one-le-pow}
use Rattle.b2_dec.specs.Number.{Number, IsNumber, size}
use Rattle.b2_print.specs.Filling.{reaches}

pub ten_pos : (k : ℕ) → 0 < 10 ^ k
ten_pos k = one-le-pow k 10 (lit< tt)

pub ten_le : (i j : ℕ) → i ≤ j → 10 ^ i ≤ 10 ^ j
ten_le i j h = pow-le-pow_right {n = 10} (lit< tt) h

-- the power between two places
between : (up down : ℕ) → up ≤ down → 10 ^ down ≡ 10 ^ (down - up) * 10 ^ up
between up down h = ap (λ t. 10 ^ t) (sym (sub-add_cancel h)) ∙ pow-add 10 (down - up) up

pub shifted : (coef up down : ℕ) → up ≤ down → coef * 10 ^ up / 10 ^ down ≡ coef / 10 ^ (down - up)
shifted coef up down h = rw (between up down h) (mul-div-mul_right coef (10 ^ (down - up)) (ten_pos up))

-- left of the first of thirteen digits
pub digit-left : (coef up down : ℕ) → coef < 10 ^ 13 → up ≤ down → 12 < down - up → coef * 10 ^ up / 10 ^ down % 10 ≡ 0
digit-left coef up down few h far =
    let more : coef < 10 ^ (down - up) = lt_of_lt_of_le few (ten_le 13 (down - up) (omega arith)) in
    ap (λ t. t % 10) (shifted coef up down h ∙ div-eq_of_lt more)

-- right of the last one
pub digit-right : (coef up down : ℕ) → down < up → coef * 10 ^ up / 10 ^ down % 10 ≡ 0
digit-right coef up down h =
    let n = up - down - 1 in
    let up_is : suc n + down ≡ up = omega arith in
    let parts : coef * 10 ^ up ≡ coef * 10 ^ suc n * 10 ^ down =
    ap (λ t. coef * 10 ^ t) (sym up_is) ∙ ap (λ t. coef * t) (pow-add 10 (suc n) down) ∙ sym (mul_assoc coef (10 ^ suc n) (10 ^ down)) in
    let whole : coef * 10 ^ up / 10 ^ down ≡ coef * 10 ^ suc n = rw parts (mul-div_cancel (coef * 10 ^ suc n) {n = 10 ^ down} (ten_pos down)) in
    let tens : coef * 10 ^ suc n ≡ coef * 10 ^ n * 10 = ap (λ t. coef * t) (pow-succ' 10 n ∙ mul_comm 10 (10 ^ n)) ∙ sym (mul_assoc coef (10 ^ n) 10) in
    ap (λ t. t % 10) (whole ∙ tens) ∙ mul-mod_left (coef * 10 ^ n) 10

-- a number of thirteen digits reaches the power of its first digit, and no higher one
pub reaches-at : (x : Number) (k : ℕ) → 1000000000000 ≤ x.coef → x.coef < 10000000000000 → nat_le (99 + k) x.place ≡ reaches x k
reaches-at x k least digits =
    elim (cases_lt x.place (99 + k)) [
      | inl below ↦
          let upper : x.coef * 10 ^ x.place < 10 ^ 13 * 10 ^ x.place = mul-lt-mul_of_pos_right digits (ten_pos x.place) in
          let higher : 10 ^ 13 * 10 ^ x.place ≤ 10 ^ (111 + k) = subst (λ t. t ≤ 10 ^ (111 + k)) (pow-add 10 13 x.place) (ten_le (13 + x.place) (111 + k) (omega arith)) in
          lt-leb (99 + k) x.place below ∙ sym (lt-leb (10 ^ (111 + k)) (size x) (lt_of_lt_of_le upper higher))
      | inr above ↦
          let lower : 10 ^ 12 * 10 ^ x.place ≤ x.coef * 10 ^ x.place = mul-le-mul_right (10 ^ x.place) least in
          let less : 10 ^ (111 + k) ≤ 10 ^ 12 * 10 ^ x.place = subst (λ t. 10 ^ (111 + k) ≤ t) (pow-add 10 12 x.place) (ten_le (111 + k) (12 + x.place) (omega arith)) in
          le-leb (99 + k) x.place above ∙ sym (le-leb (10 ^ (111 + k)) (size x) (le_trans less lower))
    ]

pub reaches-zero : (x : Number) (k : ℕ) → x.coef ≡ 0 → reaches x k ≡ false
reaches-zero x k e =
    let none : size x ≡ 0 = ap (λ t. t * 10 ^ x.place) e ∙ omega arith in
    ap (λ t. nat_le (10 ^ (111 + k)) t) none ∙ lt-leb (10 ^ (111 + k)) 0 (ten_pos (111 + k))

-- a number that isn't zero has thirteen digits
pub least : (x : Number) → IsNumber x → (x.coef == 0) ≡ false → 1000000000000 ≤ x.coef
least x h some =
    elim (cases_lt x.coef 1000000000000) [
      | inl few ↦ absurd (none (eq-eqb x.coef 0 (ap (λ (y : Number). y.coef) (h.spelling few))))
      | inr many ↦ many
    ]
  where
    none : (x.coef == 0) ≡ true → ⊥
    none e = cc

pub size-up : (x : Number) (k : ℕ) → x.coef * 10 ^ (x.place + k) ≡ size x * 10 ^ k
size-up x k = ap (λ t. x.coef * t) (pow-add 10 x.place k) ∙ sym (mul_assoc x.coef (10 ^ x.place) (10 ^ k))
