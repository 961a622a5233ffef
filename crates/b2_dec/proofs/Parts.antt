-- The whole part of a number.
use Rattle.std.proofs.Common.{◌≡◌, ℕ, zero, suc, ◌+◌, ◌-◌, ◌*◌, ◌/◌, ◌%◌, ◌^◌, ◌<◌, ◌≤◌, ◌&&◌, int_le, pos, negsuc, Bool, true, false, if◌then◌else◌, Some, None, sym, refl, ap, ◌∙◌, arith, lit<, pow-add, mul_assoc, mul-le-mul, lt_of_lt_of_le, sub-add_cancel, mul-div_cancel, mod-eq_of_lt, ne_eqb, eq-eqb, zero-mul, add-mul, mod-lt, div-add-mod', inl, inr}
use Rattle.std.proofs.lemmas.Bool.{cases_lt}
use Rattle.std.proofs.lemmas.Nat.{mod-mul-add}
use borrow.Author.Tests.{lt-leb}
use native.Mathlib.Nat.{mul-mod_left, mul-lt-mul_of_pos_right, mul-div-mul_right, eq_of_mul-eq-mul_right}
use Rattle.b2_dec.specs.Number.{Number, IsNumber, size, signed}
use Rattle.b2_dec.specs.Arithmetic.{fits_64, whole_of}
use Rattle.b2_dec.proofs.TenLemmas.{ten_pos, ten_le}
use Rattle.b2_dec.proofs.Ranks.{something}

-- a size in units of one, where no digit stands after the point
pub size-high : (x : Number) → 111 ≤ x.place → size x ≡ x.coef * 10 ^ (x.place - 111) * 10 ^ 111
size-high x h =
    let all : x.place - 111 + 111 ≡ x.place = sub-add_cancel h in
    ap (λ t. x.coef * 10 ^ t) (sym all) ∙ ap (λ t. x.coef * t) (pow-add 10 (x.place - 111) 111) ∙ sym (mul_assoc x.coef (10 ^ (x.place - 111)) (10 ^ 111))

-- one in units of a lower place
pub one-low : (p : ℕ) → p ≤ 111 → 10 ^ 111 ≡ 10 ^ (111 - p) * 10 ^ p
one-low p h = ap (λ t. 10 ^ t) (sym (sub-add_cancel h)) ∙ pow-add 10 (111 - p) p

pub mul-mod : (a b c : ℕ) → 0 < b → 0 < c → (a * c) % (b * c) ≡ a % b * c
mul-mod a b c bpos cpos =
    let parts : a * c ≡ a / b * (b * c) + a % b * c =
    ap (λ t. t * c) (sym (div-add-mod' a b)) ∙ add-mul (a / b * b) (a % b) c ∙ ap (λ t. t + a % b * c) (mul_assoc (a / b) b c) in
    let small : a % b * c < b * c = mul-lt-mul_of_pos_right (mod-lt a bpos) cpos in
    ap (λ t. t % (b * c)) parts ∙ mod-mul-add (a / b) (b * c) (a % b * c) small

pub size-div_low : (x : Number) → x.place ≤ 111 → size x / 10 ^ 111 ≡ x.coef / 10 ^ (111 - x.place)
size-div_low x h = rw (one-low x.place h) (mul-div-mul_right x.coef (10 ^ (111 - x.place)) (ten_pos x.place))

pub size-mod_low : (x : Number) → x.place ≤ 111 → size x % 10 ^ 111 ≡ x.coef % 10 ^ (111 - x.place) * 10 ^ x.place
size-mod_low x h = rw (one-low x.place h) (mul-mod x.coef (10 ^ (111 - x.place)) (10 ^ x.place) (ten_pos (111 - x.place)) (ten_pos x.place))

and-false : (b : Bool) → (b && false) ≡ false
and-false true = refl
and-false false = refl

pub whole_of-multiple : (x : Number) (n : ℕ) → size x ≡ n * 10 ^ 111 → whole_of x ≡ (if fits_64 (signed x.neg n) then Some (signed x.neg n) else None)
whole_of-multiple x n e =
    rw (e, eq-eqb _ 0 (mul-mod_left n (10 ^ 111)), mul-div_cancel n {n = 10 ^ 111} (lit< tt)) refl

pub whole_of-broken : (x : Number) → (size x % 10 ^ 111 ≡ 0 → ⊥) → whole_of x ≡ None
whole_of-broken x some = rw (ne_eqb _ 0 some) refl

pub too_large : (neg : Bool) (n : ℕ) → 10 ^ 19 ≤ n → fits_64 (signed neg n) ≡ false
too_large false n h = let over : 9223372036854775807 < n = omega arith in lt-leb n 9223372036854775807 over
too_large true zero h = absurd (omega arith)
too_large true (suc k) h =
    let over : 9223372036854775807 < k = omega arith in
    ap (λ t. t && int_le (negsuc k) (pos 9223372036854775807)) (lt-leb k 9223372036854775807 over)

-- Only numbers other than zero end elsewhere than zero does.
pub thirteen_elsewhere : (x : Number) → IsNumber x → (x.place ≡ 99 → ⊥) → 1000000000000 ≤ x.coef
thirteen_elsewhere x h other =
    elim (cases_lt x.coef 1000000000000) [
      | inl few ↦ absurd (other (ap (λ (y : Number). y.place) (h.spelling few)))
      | inr many ↦ many
    ]

pub whole_of-large : (x : Number) → IsNumber x → 117 < x.place → whole_of x ≡ None
whole_of-large x h far =
    let some : 10 ^ 12 ≤ x.coef = thirteen_elsewhere x h (λ e. omega arith) in
    let high : 10 ^ 7 ≤ 10 ^ (x.place - 111) = ten_le 7 (x.place - 111) (omega arith) in
    let large : 10 ^ 19 ≤ x.coef * 10 ^ (x.place - 111) = mul-le-mul some high in
    whole_of-multiple x (x.coef * 10 ^ (x.place - 111)) (size-high x (omega arith))
    ∙ ap (λ t. if t then Some (signed x.neg (x.coef * 10 ^ (x.place - 111))) else None) (too_large x.neg (x.coef * 10 ^ (x.place - 111)) large)

-- A number below one is not whole.
pub below_one : (x : Number) → x.coef < 10000000000000 → x.place < 99 → size x < 10 ^ 111
below_one x few low =
    let under : size x < 10 ^ 13 * 10 ^ x.place = mul-lt-mul_of_pos_right few (ten_pos x.place) in
    let apart : 10 ^ (13 + x.place) ≤ 10 ^ 111 = ten_le (13 + x.place) 111 (omega arith) in
    omega (arith, pow-add 10 13 x.place)

pub whole_of-small : (x : Number) → IsNumber x → x.place < 99 → whole_of x ≡ None
whole_of-small x h low =
    let some : 0 < size x = something x (lt_of_lt_of_le (lit< tt) (thirteen_elsewhere x h (λ e. omega arith))) in
    let under : size x < 10 ^ 111 = below_one x h.digits low in
    whole_of-broken x (λ e. let rest : size x ≡ 0 = sym (mod-eq_of_lt under) ∙ e in omega arith)

pub whole_of-divided : (x : Number) → x.place ≤ 111 → x.coef % 10 ^ (111 - x.place) ≡ 0
    → whole_of x ≡ (if fits_64 (signed x.neg (x.coef / 10 ^ (111 - x.place))) then Some (signed x.neg (x.coef / 10 ^ (111 - x.place))) else None)
whole_of-divided x h e =
    let n : ℕ = x.coef / 10 ^ (111 - x.place) in
    let all : n * 10 ^ (111 - x.place) ≡ x.coef = omega (arith, div-add-mod' x.coef (10 ^ (111 - x.place)), e) in
    whole_of-multiple x n (ap (λ t. t * 10 ^ x.place) (sym all) ∙ mul_assoc n (10 ^ (111 - x.place)) (10 ^ x.place) ∙ ap (λ t. n * t) (sym (one-low x.place h)))

pub whole_of-rest : (x : Number) → x.place ≤ 111 → (x.coef % 10 ^ (111 - x.place) ≡ 0 → ⊥) → whole_of x ≡ None
whole_of-rest x h some =
    whole_of-broken x (λ e. let none : x.coef % 10 ^ (111 - x.place) * 10 ^ x.place ≡ 0 = sym (size-mod_low x h) ∙ e in
    some (eq_of_mul-eq-mul_right (10 ^ x.place) (ten_pos x.place) (x.coef % 10 ^ (111 - x.place)) 0 (none ∙ sym (zero-mul (10 ^ x.place)))))
