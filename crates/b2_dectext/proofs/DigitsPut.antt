-- Digits put one by one, the last one first.
use Rattle.std.proofs.Common.{◌≡◌, ℕ, suc, ◌+◌, ◌-◌, ◌/◌, ◌%◌, ◌^◌, ◌<◌, ◌≤◌, List, ◌∷◌, ◌++◌, length, take, drop, set, refl, sym, ap, ap₂, ◌∙◌, subst, arith, pow-add, append_assoc, length-append}
use Rattle.std.proofs.Math.Nat.{div-div-eq-div-mul}
use Rattle.std.proofs.lemmas.List.{take-set, drop-set, take-take, take-append-drop, take_at, drop_at, length-take-le}
use Rattle.b2_dectext.specs.Digits.{digit_bytes}
use Rattle.b2_dectext.specs.Printed.{IsPut}
use Rattle.b2_dectext.proofs.ReadBack.{digit_bytes-length}

pub digits-none : (k n : ℕ) (rest : List ℕ) → k ≡ 0 → rest ≡ digit_bytes k n ++ rest
unfolding digit_bytes
digits-none k n rest none = subst (λ i. rest ≡ digit_bytes i n ++ rest) (sym none) refl

pub digits-left : (k m n left : ℕ) → m ≡ k + 1 → left ≡ n / 10 ^ k → left / 10 ≡ n / 10 ^ m
digits-left k m n left step value =
    ap (λ t. t / 10) value ∙ div-div-eq-div-mul n (10 ^ k) (10 ^ 1) ∙ ap (λ t. n / t) (sym (pow-add 10 k 1)) ∙ ap (λ t. n / 10 ^ t) (sym step)

pub digits-front : (i p : ℕ) (xs : List ℕ) (d : ℕ) (old : List ℕ) → i + 1 ≡ p → take p xs ≡ take p old → take i (set xs i d) ≡ take i old
digits-front i p xs d old next same =
    take-set xs i d ∙ sym (take-take i p xs (omega (arith, next))) ∙ ap (take i) same ∙ take-take i p old (omega (arith, next))

digit-more : (k n d : ℕ) → d ≡ 48 + n / 10 ^ k % 10 → d ∷ digit_bytes k n ≡ digit_bytes (suc k) n
unfolding digit_bytes
digit-more k n d e = ap (λ t. t ∷ digit_bytes k n) e

pub digits-back : (i p k m n left d : ℕ) (xs rest : List ℕ) → i + 1 ≡ p → m ≡ k + 1 → i < length xs → left ≡ n / 10 ^ k → d ≡ 48 + left / 1 % 10
    → drop p xs ≡ digit_bytes k n ++ rest → drop i (set xs i d) ≡ digit_bytes m n ++ rest
digits-back i p k m n left d xs rest next step inside value digit back =
    let one : left / 1 ≡ left = omega arith in
    let this : d ≡ 48 + n / 10 ^ k % 10 = digit ∙ ap (λ t. 48 + t % 10) (one ∙ value) in
    let more : suc k ≡ m = omega (arith, step) in
    drop-set xs i d inside ∙ ap (λ t. d ∷ t) (ap (λ j. drop j xs) next ∙ back) ∙ ap (λ ds. ds ++ rest) (digit-more k n d this ∙ ap (λ j. digit_bytes j n) more)

pub digits-put : (at count p n : ℕ) (old xs : List ℕ) → p ≡ at → at ≤ length old → take p xs ≡ take p old
    → drop p xs ≡ digit_bytes (at + count - p) n ++ drop (at + count) old → IsPut (digit_bytes count n) at old xs (at + count)
digits-put at count p n old xs here within front back =
    let few : at + count - p ≡ count = omega (arith, here) in
    let before : take at xs ≡ take at old = subst (λ i. take i xs ≡ take i old) here front in
    let after : drop at xs ≡ digit_bytes count n ++ drop (at + count) old = ap (λ i. drop i xs) (sym here) ∙ back ∙ ap (λ i. digit_bytes i n ++ drop (at + count) old) few in
    let text : List ℕ = take at old ++ digit_bytes count n in
    let all : xs ≡ text ++ drop (at + count) old =
    sym (take-append-drop at xs) ∙ ap₂ (λ a b. a ++ b) before after ∙ sym (append_assoc (take at old) (digit_bytes count n) (drop (at + count) old)) in
    let long : length text ≡ at + count = omega (arith, length-append (take at old) (digit_bytes count n), length-take-le at old within, digit_bytes-length count n) in
    record {
      len = omega (arith, digit_bytes-length count n);
      front = ap (take (at + count)) all ∙ take_at text (drop (at + count) old) (at + count) long;
      rest = ap (drop (at + count)) all ∙ drop_at text (drop (at + count) old) (at + count) long;
    }
