-- The digits of a number in units of its last decimal, found among its thirteen.
use Rattle.std.proofs.Common.{◌≡◌, ℕ, suc, ◌+◌, ◌-◌, ◌*◌, ◌/◌, ◌%◌, ◌^◌, ◌<◌, ◌≤◌, nat_lt, true, sym, ap, ◌∙◌, subst, arith, pow-add, mul_assoc, sub-add_cancel, mul-le-mul_right, le_trans, lt_of_lt_of_le, mul-div_cancel, mul_comm, inl, inr, lt-ltb, le-ltb}
use Rattle.std.proofs.lemmas.Bool.{cases_lt}
use native.Mathlib.Nat.{mul-div-mul_right, mul-mod_left, mul-lt-mul_of_pos_right, pow-succ', div-eq_of_lt, div-div-eq-div-mul, div-lt_iff_lt-mul}
use Rattle.b2_dec.specs.Number.{Number, IsNumber, size}
use Rattle.b2_dec.proofs.TenLemmas.{ten_pos, ten_le}
use Rattle.b2_pack.specs.Rows.{cut_size}

-- the power between two places
between : (up down : ℕ) → up ≤ down → 10 ^ down ≡ 10 ^ (down - up) * 10 ^ up
between up down h = ap (λ t. 10 ^ t) (sym (sub-add_cancel h)) ∙ pow-add 10 (down - up) up

shifted : (coef up down : ℕ) → up ≤ down → coef * 10 ^ up / 10 ^ down ≡ coef / 10 ^ (down - up)
shifted coef up down h = rw (between up down h) (mul-div-mul_right coef (10 ^ (down - up)) (ten_pos up))

-- a digit of a number in units of a decimal, as one of its thirteen in their place
pub cut_digit-is : (x : Number) (decimals k : ℕ) → cut_size decimals x / 10 ^ k ≡ x.coef * 10 ^ (x.place + decimals) / 10 ^ (111 + k)
cut_digit-is x decimals k =
    div-div-eq-div-mul (size x * 10 ^ decimals) (10 ^ 111) (10 ^ k)
    ∙ ap (λ t. size x * 10 ^ decimals / t) (sym (pow-add 10 111 k))
    ∙ ap (λ t. t / 10 ^ (111 + k)) (mul_assoc x.coef (10 ^ x.place) (10 ^ decimals) ∙ ap (λ t. x.coef * t) (sym (pow-add 10 x.place decimals)))

pub digit-here : (x : Number) (decimals k : ℕ) → x.place + decimals ≤ 111 + k
    → x.coef / 10 ^ (111 + k - (x.place + decimals)) % 10 ≡ cut_size decimals x / 10 ^ k % 10
digit-here x decimals k h =
    ap (λ t. t % 10) (sym (cut_digit-is x decimals k ∙ shifted x.coef (x.place + decimals) (111 + k) h))

-- left of the first of thirteen digits
pub digit-left : (x : Number) (decimals k : ℕ) → x.coef < 10 ^ 13 → x.place + decimals ≤ 111 + k → 12 < 111 + k - (x.place + decimals)
    → 0 ≡ cut_size decimals x / 10 ^ k % 10
digit-left x decimals k few h far =
    let left : ℕ = 111 + k - (x.place + decimals) in
    let more : x.coef < 10 ^ left = lt_of_lt_of_le few (ten_le 13 left (omega arith)) in
    sym (ap (λ t. t % 10) (div-eq_of_lt more)) ∙ digit-here x decimals k h

-- right of the last one
pub digit-right : (x : Number) (decimals k : ℕ) → 111 + k < x.place + decimals → 0 ≡ cut_size decimals x / 10 ^ k % 10
digit-right x decimals k h =
    let coef = x.coef in
    let up : ℕ = x.place + decimals in
    let down : ℕ = 111 + k in
    let n : ℕ = up - down - 1 in
    let up_is : suc n + down ≡ up = omega arith in
    let parts : coef * 10 ^ up ≡ coef * 10 ^ suc n * 10 ^ down =
    ap (λ t. coef * 10 ^ t) (sym up_is) ∙ ap (λ t. coef * t) (pow-add 10 (suc n) down) ∙ sym (mul_assoc coef (10 ^ suc n) (10 ^ down)) in
    let whole : coef * 10 ^ up / 10 ^ down ≡ coef * 10 ^ suc n = rw parts (mul-div_cancel (coef * 10 ^ suc n) {n = 10 ^ down} (ten_pos down)) in
    let tens : coef * 10 ^ suc n ≡ coef * 10 ^ n * 10 = ap (λ t. coef * t) (pow-succ' 10 n ∙ mul_comm 10 (10 ^ n)) ∙ sym (mul_assoc coef (10 ^ n) 10) in
    sym (ap (λ t. t % 10) (cut_digit-is x decimals k ∙ whole ∙ tens) ∙ mul-mod_left (coef * 10 ^ n) 10)

-- a number that isn't zero has thirteen digits
least : (x : Number) → IsNumber x → (x.coef ≡ 0 → ⊥) → 1000000000000 ≤ x.coef
least x h some =
    elim (cases_lt x.coef 1000000000000) [
      | inl few ↦ absurd (some (ap (λ (y : Number). y.coef) (h.spelling few)))
      | inr many ↦ many
    ]

below : (t u d : ℕ) → 0 < u → t < d * u → t / u < d
below t u d some h = (div-lt_iff_lt-mul {x = t} {y = d} some).1 h

fits-no : (x : Number) (decimals digits : ℕ) → IsNumber x → (x.coef ≡ 0 → ⊥) → 99 + digits ≤ x.place + decimals
    → 10 ^ digits ≤ cut_size decimals x
fits-no x decimals digits h some far =
    let many = least x h some in
    let all : size x * 10 ^ decimals ≡ x.coef * 10 ^ (x.place + decimals) =
    mul_assoc x.coef (10 ^ x.place) (10 ^ decimals) ∙ ap (λ t. x.coef * t) (sym (pow-add 10 x.place decimals)) in
    let lower : 10 ^ 12 * 10 ^ (x.place + decimals) ≤ x.coef * 10 ^ (x.place + decimals) = mul-le-mul_right (10 ^ (x.place + decimals)) many in
    let less : 10 ^ (digits + 111) ≤ 10 ^ 12 * 10 ^ (x.place + decimals) = subst (λ t. 10 ^ (digits + 111) ≤ t) (pow-add 10 12 (x.place + decimals)) (ten_le (digits + 111) (12 + (x.place + decimals)) (omega arith)) in
    let units : 10 ^ digits * 10 ^ 111 ≤ size x * 10 ^ decimals = subst (λ t. t ≤ size x * 10 ^ decimals) (pow-add 10 digits 111) (rw all (le_trans less lower)) in
    elim (cases_lt (cut_size decimals x) (10 ^ digits)) [
      | inl small ↦ absurd (omega (arith, units, (div-lt_iff_lt-mul {x = size x * 10 ^ decimals} {y = 10 ^ digits} (ten_pos 111)).0 small))
      | inr large ↦ large
    ]

fits-yes : (x : Number) (decimals digits : ℕ) → IsNumber x → x.place + decimals < 99 + digits → cut_size decimals x < 10 ^ digits
fits-yes x decimals digits h near =
    let all : size x * 10 ^ decimals ≡ x.coef * 10 ^ (x.place + decimals) =
    mul_assoc x.coef (10 ^ x.place) (10 ^ decimals) ∙ ap (λ t. x.coef * t) (sym (pow-add 10 x.place decimals)) in
    let upper : x.coef * 10 ^ (x.place + decimals) < 10 ^ 13 * 10 ^ (x.place + decimals) = mul-lt-mul_of_pos_right h.digits (ten_pos (x.place + decimals)) in
    let higher : 10 ^ 13 * 10 ^ (x.place + decimals) ≤ 10 ^ (digits + 111) = subst (λ t. t ≤ 10 ^ (digits + 111)) (pow-add 10 13 (x.place + decimals)) (ten_le (13 + (x.place + decimals)) (digits + 111) (omega arith)) in
    below (size x * 10 ^ decimals) (10 ^ 111) (10 ^ digits) (ten_pos 111)
    (subst (λ t. size x * 10 ^ decimals < t) (pow-add 10 digits 111) (rw all (lt_of_lt_of_le upper higher)))

pub fits-zero : (x : Number) (decimals digits : ℕ) → x.coef ≡ 0 → true ≡ nat_lt (cut_size decimals x) (10 ^ digits)
fits-zero x decimals digits none =
    let nothing : size x * 10 ^ decimals ≡ 0 = ap (λ c. c * 10 ^ x.place * 10 ^ decimals) none ∙ omega arith in
    let small : cut_size decimals x ≡ 0 = ap (λ t. t / 10 ^ 111) nothing in
    rw small (sym (lt-ltb 0 (10 ^ digits) (ten_pos digits)))

-- a number of thirteen digits fits where its first digit has a place
pub fits-some : (x : Number) (decimals digits : ℕ) → IsNumber x → (x.coef ≡ 0 → ⊥)
    → nat_lt (x.place + decimals) (99 + digits) ≡ nat_lt (cut_size decimals x) (10 ^ digits)
fits-some x decimals digits h some =
    elim (cases_lt (x.place + decimals) (99 + digits)) [
      | inl near ↦ lt-ltb _ _ near ∙ sym (lt-ltb _ _ (fits-yes x decimals digits h near))
      | inr far ↦ le-ltb _ _ far ∙ sym (le-ltb _ _ (fits-no x decimals digits h some far))
    ]
