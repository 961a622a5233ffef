-- Names by their numbers: no two have one.
use Rattle.std.proofs.Common.{◌≡◌, ℕ, zero, suc, ◌+◌, ◌-◌, ◌*◌, ◌/◌, ◌%◌, ◌≤◌, ◌==◌, ◌&&◌, Bool, true, false, cond, if◌then◌else◌, eqb-true, Option, Some, None, refl, ap, sym, ◌∙◌, arith, true≢false}
use Rattle.std.specs.Option.{option_map_or}
use Rattle.std.proofs.lemmas.Bool.Decides.{nat_tests}
use Rattle.b2_base.specs.Lexical.{is_digit, is_letter}
use Rattle.b2_vars.specs.declared.name.Var.{Var}
use Rattle.b2_vars.specs.Names.{is_legal_name, scalar_named}
use Rattle.b2_vars.specs.Block.{kind_of, digit_number, number_of}

left_true : (a b : Bool) → a && b ≡ true → a ≡ true
left_true true b p = refl
left_true false b p = absurd (true≢false (sym p))

right_true : (a b : Bool) → a && b ≡ true → b ≡ true
right_true true b p = p
right_true false b p = absurd (true≢false (sym p))

letter_least : (b : ℕ) → is_letter b ≡ true → 65 ≤ b
letter_least b is = grind (arith, nat_tests)

pub letter_most : (b : ℕ) → is_letter b ≡ true → b ≤ 90
letter_most b is = grind (arith, nat_tests)

-- the number of a scalar that is named by the number of its digit
pub scalar_number : (letter digit a b : ℕ) → a ≡ letter - 65 → b ≡ digit → (a * 11 + b) * 4 ≡ number_of (scalar_named letter digit)
scalar_number letter digit a b p q = by (digit == 0) refl
  where
    by : (none : Bool) → (digit == 0) ≡ none → (a * 11 + b) * 4 ≡ ((letter - 65) * 11 + digit_number (if none then None else Some (digit + 47))) * 4 + 0
    by true is = let e : (a * 11 + b) * 4 ≡ ((letter - 65) * 11 + 0) * 4 + 0 = omega (arith, p, q, eqb-true digit 0 is) in e
    by false is = let e : (a * 11 + b) * 4 ≡ ((letter - 65) * 11 + (digit + 47 - 47)) * 4 + 0 = omega (arith, p, q) in e

pub scalar_legal : (letter digit : ℕ) → is_letter letter ≡ true → digit ≤ 10 → is_legal_name (scalar_named letter digit) ≡ true
scalar_legal letter zero is few = grind (arith, nat_tests)
scalar_legal letter (suc n) is few = grind (arith, nat_tests)

digit_least : (b : ℕ) → is_digit b ≡ true → 48 ≤ b
digit_least b is = grind (arith, nat_tests)

digit_most : (b : ℕ) → is_digit b ≡ true → b ≤ 57
digit_most b is = grind (arith, nat_tests)

few_digits : (d : Option ℕ) → option_map_or is_digit d true ≡ true → digit_number d ≤ 10
few_digits None is = omega arith
few_digits (Some d) is = omega (arith, digit_most d is)

digit-back : (a b : Option ℕ) → option_map_or is_digit a true ≡ true → option_map_or is_digit b true ≡ true → digit_number a ≡ digit_number b → a ≡ b
digit-back None None p q e = refl
digit-back None (Some b) p q e = absurd (omega (arith, digit_least b q, e))
digit-back (Some a) None p q e = absurd (omega (arith, digit_least a p, e))
digit-back (Some a) (Some b) p q e = ap Some (omega (arith, digit_least a p, digit_least b q, e))

abbrev pub kind : Bool → Bool → ℕ
kind array alpha = cond array 1 0 + cond alpha 2 0

few_kinds : (array alpha : Bool) → kind array alpha ≤ 3
few_kinds true true = omega arith
few_kinds true false = omega arith
few_kinds false true = omega arith
few_kinds false false = omega arith

array-back : (array alpha : Bool) → (kind array alpha % 2 == 1) ≡ array
array-back true true = refl
array-back true false = refl
array-back false true = refl
array-back false false = refl

alpha-back : (array alpha : Bool) → (kind array alpha / 2 == 1) ≡ alpha
alpha-back true true = refl
alpha-back true false = refl
alpha-back false true = refl
alpha-back false false = refl

-- parts of a number
high_parts : (a b k j : ℕ) → k ≤ 3 → j ≤ 3 → a * 4 + k ≡ b * 4 + j → a ≡ b
high_parts a b k j p q e = omega (arith, e, p, q)

low_parts : (a b k j : ℕ) → k ≤ 3 → j ≤ 3 → a * 4 + k ≡ b * 4 + j → k ≡ j
low_parts a b k j p q e = omega (arith, e, p, q)

high_names : (a b k j : ℕ) → k ≤ 10 → j ≤ 10 → a * 11 + k ≡ b * 11 + j → a ≡ b
high_names a b k j p q e = omega (arith, e, p, q)

low_names : (a b k j : ℕ) → k ≤ 10 → j ≤ 10 → a * 11 + k ≡ b * 11 + j → k ≡ j
low_names a b k j p q e = omega (arith, e, p, q)

pub number-back : (q v : Var) → is_legal_name q ≡ true → is_legal_name v ≡ true → number_of q ≡ number_of v → q ≡ v
number-back q v p r e =
    let pd = right_true (is_letter q.letter) _ p in
    let rd = right_true (is_letter v.letter) _ r in
    let qk = few_kinds q.array q.alpha in
    let vk = few_kinds v.array v.alpha in
    let kinds : kind q.array q.alpha ≡ kind v.array v.alpha = low_parts ((q.letter - 65) * 11 + digit_number q.digit) ((v.letter - 65) * 11 + digit_number v.digit) (kind_of q) (kind_of v) qk vk e in
    let tops : (q.letter - 65) * 11 + digit_number q.digit ≡ (v.letter - 65) * 11 + digit_number v.digit = high_parts ((q.letter - 65) * 11 + digit_number q.digit) ((v.letter - 65) * 11 + digit_number v.digit) (kind_of q) (kind_of v) qk vk e in
    let qd = few_digits q.digit pd in
    let vd = few_digits v.digit rd in
    let digits = digit-back q.digit v.digit pd rd (low_names (q.letter - 65) (v.letter - 65) (digit_number q.digit) (digit_number v.digit) qd vd tops) in
    let lows = high_names (q.letter - 65) (v.letter - 65) (digit_number q.digit) (digit_number v.digit) qd vd tops in
    let letters : q.letter ≡ v.letter = omega (arith, lows, letter_least q.letter (left_true _ _ p), letter_least v.letter (left_true _ _ r)) in
    let arrays = sym (array-back q.array q.alpha) ∙ ap (λ (n : ℕ). n % 2 == 1) kinds ∙ array-back v.array v.alpha in
    let alphas = sym (alpha-back q.array q.alpha) ∙ ap (λ (n : ℕ). n / 2 == 1) kinds ∙ alpha-back v.array v.alpha in
    λ i. record { letter = letters i; digit = digits i; alpha = alphas i; array = arrays i }
