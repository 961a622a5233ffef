-- The digits of a number that ends with zeros, and its printed form.
use Rattle.std.proofs.Common.{◌≡◌, ℕ, zero, suc, ◌+◌, ◌-◌, ◌*◌, ◌/◌, ◌%◌, ◌^◌, ◌<◌, ◌≤◌, ◌==◌, List, ◌∷◌, ◌++◌, length, take, drop, reverse, refl, sym, ap, ap₂, ◌∙◌, arith, lit<, pow-add, mul-pos, zero-add, length-append, inl, inr}
use native.Mathlib.Nat.{pow-succ'}
use Rattle.std.proofs.Math.Arith.{mod-mul}
use Rattle.std.proofs.Math.Nat.{div-div-eq-div-mul}
use Rattle.std.proofs.lemmas.Bool.{cases_lt}
use Rattle.std.proofs.lemmas.List.{append-nil, take-append-le, drop-append-le, drop_all, take_all, reverse-append}
use Rattle.std.specs.List.{prefix_len, suffix_len}
use Rattle.b2_dec.proofs.TenLemmas.{ten_pos}
use Rattle.b2_dectext.specs.Digits.{digit_bytes, without_last_zeros}
use Rattle.b2_dectext.specs.Printed.{with_point, after_point}
use Rattle.b2_dectext.proofs.ReadBack.{digit_bytes-length, zeros, zeros-reverse, zeros-length}

-- the digits of a number are those of its front, and those of the rest
split : (i k n c : ℕ) → n ≡ i + k → digit_bytes n c ≡ digit_bytes i (c / 10 ^ k) ++ digit_bytes k c
unfolding digit_bytes
split zero k n c e = let same : n ≡ k = omega (arith, e) in ap (λ m. digit_bytes m c) same
split (suc i) k zero c e = absurd (omega (arith, e))
split (suc i) k (suc n) c e =
    let rest : n ≡ i + k = omega (arith, e) in
    let turned : n ≡ k + i = omega (arith, e) in
    let digit : c / 10 ^ n ≡ c / 10 ^ k / 10 ^ i = ap (λ t. c / 10 ^ t) turned ∙ ap (λ t. c / t) (pow-add 10 k i) ∙ sym (div-div-eq-div-mul c (10 ^ k) (10 ^ i)) in
    ap₂ (λ t ds. (48 + t % 10) ∷ ds) digit (split i k n c rest)

none-times : (d u : ℕ) → 0 < u → d * u ≡ 0 → d ≡ 0
none-times d u some e =
    elim (cases_lt 0 d) [
      | inl more ↦ absurd (omega (arith, mul-pos more some, e))
      | inr less ↦ omega (arith, less)
    ]

-- the last digits of a number that is whole in units of ten
last-zeros : (k c : ℕ) → c % 10 ^ k ≡ 0 → digit_bytes k c ≡ zeros k
unfolding digit_bytes zeros
last-zeros zero c e = refl
last-zeros (suc k) c e =
    let d : ℕ = c / 10 ^ k % 10 in
    let parted : c % (10 * 10 ^ k) ≡ d * 10 ^ k + c % 10 ^ k = mod-mul c {m = 10} {c = 10 ^ k} (lit< tt) (ten_pos k) in
    let none : d * 10 ^ k + c % 10 ^ k ≡ 0 = sym parted ∙ ap (λ t. c % t) (sym (pow-succ' 10 k)) ∙ e in
    let front : d * 10 ^ k ≡ 0 = omega (arith, none) in
    let back : c % 10 ^ k ≡ 0 = omega (arith, none) in
    ap₂ (λ t ds. (48 + t) ∷ ds) (none-times d (10 ^ k) (ten_pos k) front) (last-zeros k c back)

prefix-zeros : (k : ℕ) (ys : List ℕ) → prefix_len (λ d. d == 48) (zeros k ++ ys) ≡ k + prefix_len (λ d. d == 48) ys
unfolding zeros
prefix-zeros zero ys = sym (zero-add _)
prefix-zeros (suc k) ys = let rest = prefix-zeros k ys in omega (arith, rest)

suffix-zeros : (k : ℕ) (ds : List ℕ) → suffix_len (λ d. d == 48) (ds ++ zeros k) ≡ k + suffix_len (λ d. d == 48) ds
suffix-zeros k ds =
    ap (prefix_len (λ d. d == 48)) (reverse-append ds (zeros k) ∙ ap (λ t. t ++ reverse ds) (zeros-reverse k)) ∙ prefix-zeros k (reverse ds)

without-zeros : (k : ℕ) (ds : List ℕ) → without_last_zeros (ds ++ zeros k) ≡ without_last_zeros ds
without-zeros k ds =
    let kept : length (ds ++ zeros k) - suffix_len (λ d. d == 48) (ds ++ zeros k) ≡ length ds - suffix_len (λ d. d == 48) ds =
    omega (arith, suffix-zeros k ds, length-append ds (zeros k), zeros-length k) in
    ap (λ n. take n (ds ++ zeros k)) kept ∙ take-append-le _ ds (zeros k) (omega arith)

-- zeros after the point don't show
with_point-zeros : (n k : ℕ) (ds : List ℕ) → n ≤ length ds → with_point n (ds ++ zeros k) ≡ with_point n ds
unfolding with_point
with_point-zeros n k ds within =
    ap₂ (λ w t. w ++ after_point t) (take-append-le n ds (zeros k) within)
    (ap without_last_zeros (drop-append-le n ds (zeros k) within) ∙ without-zeros k (drop n ds))

-- without digits after the point there is none
with_point-whole : (n : ℕ) (ds : List ℕ) → length ds ≡ n → with_point n ds ≡ ds
unfolding with_point
with_point-whole n ds long =
    ap₂ (λ w t. w ++ after_point (without_last_zeros t)) (take_all n ds (omega arith)) (drop_all n ds (omega arith)) ∙ append-nil ds

-- the last k digits are zeros after the point
pub with_point-left : (n i k c : ℕ) → n ≤ i → i + k ≡ 13 → c % 10 ^ k ≡ 0 → with_point n (digit_bytes i (c / 10 ^ k)) ≡ with_point n (digit_bytes 13 c)
with_point-left n i k c within all none =
    let ds : List ℕ = digit_bytes i (c / 10 ^ k) in
    sym (ap (with_point n) (split i k 13 c (sym all) ∙ ap (λ t. ds ++ t) (last-zeros k c none)) ∙ with_point-zeros n k ds (omega (arith, digit_bytes-length i (c / 10 ^ k))))

-- Where the last k digits are zeros after the point, the first n alone are shown.
pub whole-shown : (n k c m : ℕ) → n + k ≡ 13 → c % 10 ^ k ≡ 0 → m ≡ c / 10 ^ k → digit_bytes n m ≡ with_point n (digit_bytes 13 c)
whole-shown n k c m all none value =
    ap (digit_bytes n) value ∙ sym (with_point-whole n (digit_bytes n (c / 10 ^ k)) (digit_bytes-length n (c / 10 ^ k)))
    ∙ with_point-left n n k c (omega arith) all none

pub whole-small : (w : ℕ) → (1000000000 ≤ w → w ≡ 4294967295) → (w ≡ 4294967295 → ⊥) → w < 1000000000
whole-small w other some =
    elim (cases_lt w 1000000000) [
      | inl small ↦ small
      | inr large ↦ absurd (some (other large))
    ]
