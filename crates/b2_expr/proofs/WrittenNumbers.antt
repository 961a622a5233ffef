-- A number that is written with digits and a point or none: how far it goes, and what it comes to.
use Rattle.std.proofs.Common.{◌≡◌, ◌<◌, ◌≤◌, ℕ, zero, suc, ◌+◌, ◌-◌, ◌*◌, ◌^◌, ◌==◌, ◌&&◌, not, nat_lt, Bool, true, false, Ok, if◌then◌else◌, lit≤, List, [], ◌∷◌, ◌++◌, Option, Some, None, length, drop, take, get_or, refl, sym, ap, ap₂, ◌∙◌, subst, arith, add-zero, mul-one, eqb-true, ne_eqb, lt-ltb, inl, inr, length-drop}
use Rattle.std.proofs.Math.Seq.{take-add}
use Rattle.std.proofs.lemmas.Bool.{cases_Bool}
use Rattle.std.proofs.lemmas.Bool.Decides.{nat_tests}
use Rattle.std.proofs.lemmas.List.{append-nil, drop-drop, length-take-le}
use Rattle.b2_base.specs.Byte as byte
use Rattle.b2_base.specs.Lexical.{first, is_digit, digits_width}
use Rattle.b2_dec.specs.declared.number.Mode.TheVariants.{Round}
use Rattle.b2_dec.specs.Number.{Number, zero_number}
use Rattle.b2_dec.specs.Rounding.{rnd}
use Rattle.b2_dec.proofs.Exact.{whole-rnd, rnd-none}
use Rattle.b2_atom.specs.Words.{Text}
use Rattle.b2_atom.specs.Leaves.{number_width, number_width_by, mantissa_width, mantissa_of}
use Rattle.b2_atom.specs.declared.words.Origin.TheVariants.{Atoms}
use Rattle.b2_atom.specs.declared.rows.TheConstants as row
use Rattle.b2_rows.specs.Rows.{is_phrase, tree_at, after_phrase}
use Rattle.b2_expr.specs.Plain.{is_one_digit}
use Rattle.b2_expr.specs.Reads.{Finds}
use Rattle.b2_expr.specs.Value.{literal_number, literal_value}
use Rattle.b2_expr.specs.declared.evaluated.Evaluated.{Evaluated}
use Rattle.b2_expr.proofs.Chained.{finds_with}
use Rattle.b2_expr.proofs.Operands.{literal_is, literal_rest, literal_here}
use Rattle.b2_dectext.specs.Digits.{AreDigits, value_after}
use Rattle.b2_dectext.specs.NumberText.{Parts, parts_value, number_len}
use Rattle.b2_dectext.specs.Grammar.{spelling_text, parts, fraction_digits}
use Rattle.b2_dectext.specs.Grammar as grammar
use Rattle.b2_dectext.proofs.Lengths.{digits_at_front, digits_width-le-length}
use Rattle.b2_dectext.proofs.Longest.{plain, plain-read, IsReadWhole}
use Rattle.b2_dectext.proofs.Scales.{value_of-multiplied}

-- the byte at a place is the first of what is left there
pub at_place : (n : ℕ) (t : List ℕ) → get_or t n 0 ≡ first (drop n t)
at_place zero [] = refl
at_place zero (b ∷ bs) = refl
at_place (suc n) [] = refl
at_place (suc n) (b ∷ bs) = at_place n bs

-- a text that begins with a point
after_point : (t : List ℕ) → (first t == byte.point) ≡ true → t ≡ byte.point ∷ drop 1 t
after_point [] h = cc
after_point (b ∷ bs) h = ap (λ (d : ℕ). d ∷ bs) (eqb-true b byte.point h)

-- What a plain number comes to: its digits, divided by ten as often as digits stand after the point.
plain_value : (w : List ℕ) (f : Option (List ℕ)) → AreDigits w → AreDigits (fraction_digits f) → 0 < length w + length (fraction_digits f)
    → literal_value (spelling_text (plain grammar.unsigned w f)) ≡ rnd Round false (value_after (value_after 0 w) (fraction_digits f)) (10 ^ length (fraction_digits f))
plain_value w f hw hf some =
    let p : Parts = parts (plain grammar.unsigned w f) in
    let whole : IsReadWhole (spelling_text (plain grammar.unsigned w f)) (parts_value p) = plain-read grammar.unsigned w f hw hf some in
    let there : (number_len (spelling_text (plain grammar.unsigned w f)) == 0) ≡ false = ne_eqb _ 0 (λ e. absurd (omega (arith, whole.some, e))) in
    rw there (whole.value ∙ sym (value_of-multiplied p refl)
    ∙ ap (λ n. rnd Round false n (10 ^ length (fraction_digits f))) (mul-one (value_after (value_after 0 w) (fraction_digits f))))

-- a number whose digits and point take some bytes, after which no exponent stands
no_exponent : (m : ℕ) (t : Text) → (first (drop m t) == byte.upper_e) ≡ false → number_width_by Atoms m t ≡ m
no_exponent zero t end = refl
no_exponent (suc m) t end = let some : (suc m == 0) ≡ false = ne_eqb (suc m) 0 (λ e. absurd (omega arith)) in rw (some, end) (add-zero (suc m))

-- how wide a number without a point is
whole_width : (t : Text) → (first (drop (digits_width t) t) == byte.point) ≡ false → (first (drop (digits_width t) t) == byte.upper_e) ≡ false
    → number_width Atoms t ≡ digits_width t
whole_width t point end =
    let n : ℕ = digits_width t in
    let width : mantissa_width t ≡ n = rw (at_place n t, point) refl in
    ap (λ m. number_width_by Atoms m t) width ∙ no_exponent n t end

-- and one with a point
record IsPointed (n f width : ℕ) : Type 0 where
  wide : width ≡ n + suc f
  some : 0 < n + f

one_digit : (n f : ℕ) → (n == 0 && f == 0) ≡ false → 0 < n + f
one_digit zero zero h = cc
one_digit zero (suc f) h = omega arith
one_digit (suc n) f h = omega arith

no_digit : (n f : ℕ) → (n == 0 && f == 0) ≡ true → mantissa_of n f ≡ 0
no_digit n f h = rw h refl

some_digit : (n f : ℕ) → (n == 0 && f == 0) ≡ false → mantissa_of n f ≡ n + suc f
some_digit n f h = rw h (omega arith)

none_wide : nat_lt 0 0 ≡ true → ⊥
none_wide h = cc

mantissa_pointed : (n f : ℕ) → nat_lt 0 (mantissa_of n f) ≡ true → IsPointed n f (mantissa_of n f)
mantissa_pointed n f h =
    elim (cases_Bool (n == 0 && f == 0)) [
      | inl none ↦ absurd (none_wide (ap (nat_lt 0) (sym (no_digit n f none)) ∙ h))
      | inr some ↦ record { wide = some_digit n f some; some = one_digit n f some }
    ]

nothing_wide : (m : ℕ) (t : Text) → nat_lt 0 (number_width_by Atoms m t) ≡ true → nat_lt 0 m ≡ true
nothing_wide zero t h = h
nothing_wide (suc m) t h = lt-ltb 0 (suc m) (omega arith)

-- what stands after the point and its digits
pointed_rest : (t : Text) (n f : ℕ) → drop (n + suc f) t ≡ drop f (drop 1 (drop n t))
pointed_rest t n f =
    let all : n + suc f ≡ n + 1 + f = omega arith in
    ap (λ m. drop m t) all ∙ sym (drop-drop f (n + 1) t) ∙ ap (drop f) (sym (drop-drop 1 n t))

-- the bytes of a number with a point
pointed_text : (t : Text) (n f : ℕ) → (first (drop n t) == byte.point) ≡ true
    → take (n + suc f) t ≡ take n t ++ (byte.point ∷ (take f (drop 1 (drop n t)) ++ []))
pointed_text t n f point =
    take-add n (suc f) t
    ∙ ap (λ (u : Text). take n t ++ take (suc f) u) (after_point (drop n t) point)
    ∙ ap (λ (u : Text). take n t ++ (byte.point ∷ u)) (sym (append-nil (take f (drop 1 (drop n t)))))

pointed_width : (t : Text) (n f : ℕ) → digits_width t ≡ n → (first (drop n t) == byte.point) ≡ true → digits_width (drop 1 (drop n t)) ≡ f
    → (first (drop f (drop 1 (drop n t))) == byte.upper_e) ≡ false → nat_lt 0 (number_width Atoms t) ≡ true → IsPointed n f (number_width Atoms t)
pointed_width t n f whole point digits end there =
    let next : drop (n + 1) t ≡ drop 1 (drop n t) = sym (drop-drop 1 n t) in
    let width : mantissa_width t ≡ mantissa_of n f =
    rw (whole, at_place n t, point) (ap (λ (u : Text). mantissa_of n (digits_width u)) next ∙ ap (mantissa_of n) digits) in
    let wide : number_width Atoms t ≡ number_width_by Atoms (mantissa_of n f) t = ap (λ m. number_width_by Atoms m t) width in
    let some : nat_lt 0 (mantissa_of n f) ≡ true = nothing_wide (mantissa_of n f) t (ap (nat_lt 0) (sym wide) ∙ there) in
    let p : IsPointed n f (mantissa_of n f) = mantissa_pointed n f some in
    let left : drop (mantissa_of n f) t ≡ drop f (drop 1 (drop n t)) =
    ap (λ m. drop m t) p.wide ∙ pointed_rest t n f in
    let last : (first (drop (mantissa_of n f) t) == byte.upper_e) ≡ false = ap (λ (u : Text). first u == byte.upper_e) left ∙ end in
    subst (IsPointed n f) (sym (wide ∙ no_exponent (mantissa_of n f) t last)) p

wide_some : (n : ℕ) → nat_lt 0 n ≡ true → 0 < n
wide_some zero h = absurd (none_wide h)
wide_some (suc n) h = omega arith

-- A number without a point, by its digits.
pub whole_number : (t : Text) (n : ℕ) → nat_lt 0 (number_width Atoms t) ≡ true → digits_width t ≡ n
    → (first (drop n t) == byte.point) ≡ false → (first (drop n t) == byte.upper_e) ≡ false
    → (literal_value (take (number_width Atoms t) t) ≡ rnd Round false (value_after 0 (take n t)) (10 ^ 0)) × (drop (number_width Atoms t) t ≡ drop n t)
whole_number t n there digits point end =
    let wide : number_width Atoms t ≡ n = whole_width t (rw digits point) (rw digits end) ∙ digits in
    let some : 0 < n = wide_some n (ap (nat_lt 0) (sym wide) ∙ there) in
    let few : n ≤ length t = rw (← digits) (digits_width-le-length t) in
    let count : length (take n t) ≡ n = length-take-le n t few in
    let are : AreDigits (take n t) = digits_at_front t n (omega (arith, digits)) in
    let none : AreDigits [] = record { each = λ k h. absurd (omega arith) } in
    let text : take n t ≡ take n t ++ [] = sym (append-nil (take n t)) in (
      ap (λ m. literal_value (take m t)) wide ∙ ap literal_value text ∙ plain_value (take n t) None are none (omega (arith, count, some)),
      ap (λ m. drop m t) wide,
    )

-- A number with a point, by its digits.
pub pointed_number : (t : Text) (n f : ℕ) → nat_lt 0 (number_width Atoms t) ≡ true → digits_width t ≡ n
    → (first (drop n t) == byte.point) ≡ true → digits_width (drop 1 (drop n t)) ≡ f → (first (drop f (drop 1 (drop n t))) == byte.upper_e) ≡ false
    → (literal_value (take (number_width Atoms t) t) ≡ rnd Round false (value_after (value_after 0 (take n t)) (take f (drop 1 (drop n t)))) (10 ^ f)) × (drop (number_width Atoms t) t ≡ drop f (drop 1 (drop n t)))
pointed_number t n f there whole point digits end =
    let fraction : Text = drop 1 (drop n t) in
    let p : IsPointed n f (number_width Atoms t) = pointed_width t n f whole point digits end there in
    let few : n ≤ length t = rw (← whole) (digits_width-le-length t) in
    let count : length (take n t) ≡ n = length-take-le n t few in
    let places : length (take f fraction) ≡ f = length-take-le f fraction (rw (← digits) (digits_width-le-length fraction)) in
    let are : AreDigits (take n t) = digits_at_front t n (omega (arith, whole)) in
    let also : AreDigits (take f fraction) = digits_at_front fraction f (omega (arith, digits)) in (
      ap (λ m. literal_value (take m t)) p.wide ∙ ap literal_value (pointed_text t n f point)
          ∙ plain_value (take n t) (Some (take f fraction)) are also (omega (arith, count, places, p.some))
          ∙ ap (λ k. rnd Round false (value_after (value_after 0 (take n t)) (take f fraction)) (10 ^ k)) places,
      ap (λ m. drop m t) p.wide ∙ pointed_rest t n f,
    )

-- What is taken of a number in one pass: its digits, where no point stands after them,
pub whole_taken : (t after : Text) (whole : ℕ) → is_phrase row.NUMBER t ≡ true
    → (is_digit (first after) ≡ false → whole ≡ value_after 0 (take (digits_width t) t)) → (is_digit (first after) ≡ false → after ≡ drop (digits_width t) t)
    → (first after ≡ byte.point → ⊥) → is_digit (first after) ≡ false → (first after == byte.upper_e) ≡ false
    → (literal_number (tree_at row.NUMBER t) ≡ rnd Round false whole (10 ^ 0)) × (after ≡ after_phrase row.NUMBER t)
whole_taken t after whole there value left point stop end =
    let is : after ≡ drop (digits_width t) t = left stop in
    let other : (first (drop (digits_width t) t) == byte.point) ≡ false = ap (λ (u : Text). first u == byte.point) (sym is) ∙ ne_eqb _ _ point in
    let last : (first (drop (digits_width t) t) == byte.upper_e) ≡ false = ap (λ (u : Text). first u == byte.upper_e) (sym is) ∙ end in
    let number = whole_number t (digits_width t) (literal_here t there) refl other last in
    (literal_is t there ∙ number.0 ∙ ap (λ n. rnd Round false n (10 ^ 0)) (sym (value stop)), is ∙ sym (literal_rest t there ∙ number.1))

-- and the digits on both sides of a point.
pub pointed_taken : (t after fraction rest : Text) (whole digits : ℕ) → is_phrase row.NUMBER t ≡ true
    → (is_digit (first after) ≡ false → whole ≡ value_after 0 (take (digits_width t) t)) → (is_digit (first after) ≡ false → after ≡ drop (digits_width t) t)
    → first after ≡ byte.point → fraction ≡ drop 1 after
    → (is_digit (first rest) ≡ false → digits ≡ value_after whole (take (digits_width fraction) fraction)) → (is_digit (first rest) ≡ false → rest ≡ drop (digits_width fraction) fraction)
    → is_digit (first rest) ≡ false → (first rest == byte.upper_e) ≡ false
    → (literal_number (tree_at row.NUMBER t) ≡ rnd Round false digits (10 ^ (length fraction - length rest))) × (rest ≡ after_phrase row.NUMBER t)
pointed_taken t after fraction rest whole digits there value left point tail more others stop end =
    let seen : is_digit (first after) ≡ false = ap is_digit point in
    let is : after ≡ drop (digits_width t) t = left seen in
    let same : fraction ≡ drop 1 (drop (digits_width t) t) = tail ∙ ap (drop 1) is in
    let f : ℕ = digits_width fraction in
    let here : rest ≡ drop f (drop 1 (drop (digits_width t) t)) = others stop ∙ ap (drop f) same in
    let dot : (first (drop (digits_width t) t) == byte.point) ≡ true = ap (λ (u : Text). first u == byte.point) (sym is) ∙ ap (λ b. b == byte.point) point in
    let last : (first (drop f (drop 1 (drop (digits_width t) t))) == byte.upper_e) ≡ false = ap (λ (u : Text). first u == byte.upper_e) (sym here) ∙ end in
    let number = pointed_number t (digits_width t) f (literal_here t there) refl dot (ap digits_width (sym same)) last in
    let places : length fraction - length rest ≡ f = omega (arith, ap length (others stop), length-drop f fraction, digits_width-le-length fraction) in
    let read : digits ≡ value_after (value_after 0 (take (digits_width t) t)) (take f (drop 1 (drop (digits_width t) t))) =
    more stop ∙ ap₂ (λ m (u : Text). value_after m (take f u)) (value seen) same in
    (literal_is t there ∙ number.0 ∙ ap₂ (λ m k. rnd Round false m (10 ^ k)) (sym read) (sym places), here ∙ sym (literal_rest t there ∙ number.1))

-- A single digit: it is the whole number,
one_wide : (x : Bool) → x ≡ true → (if x then suc 0 else 0) ≡ 1
one_wide true h = refl
one_wide false h = cc

first_wide : (x y : Bool) (n : ℕ) → x ≡ true → y ≡ false → (if x then suc (if y then suc n else 0) else 0) ≡ 1
first_wide true false n h k = refl
first_wide true true n h k = cc
first_wide false y n h k = cc

one_wide_text : (t : Text) → is_digit (first t) ≡ true → is_digit (get_or t 1 0) ≡ false → digits_width t ≡ 1
one_wide_text [] h k = cc
one_wide_text (b ∷ []) h k = one_wide (is_digit b) h
one_wide_text (b ∷ c ∷ t) h k = first_wide (is_digit b) (is_digit c) (digits_width t) h k

digit_value : (t : Text) → value_after 0 (take 1 t) ≡ first t - 48
digit_value [] = refl
digit_value (b ∷ t) = let e : 10 * 0 + (b - 48) ≡ b - 48 = omega arith in e

begins_with_digit : (b c : ℕ) → (is_digit b && (not (is_digit c) && (not (c == byte.point) && not (c == byte.upper_e)))) ≡ true → is_digit b ≡ true
begins_with_digit b c h = grind (arith, nat_tests)

no_second_digit : (b c : ℕ) → (is_digit b && (not (is_digit c) && (not (c == byte.point) && not (c == byte.upper_e)))) ≡ true → is_digit c ≡ false
no_second_digit b c h = grind (arith, nat_tests)

no_point_after : (b c : ℕ) → (is_digit b && (not (is_digit c) && (not (c == byte.point) && not (c == byte.upper_e)))) ≡ true → (c == byte.point) ≡ false
no_point_after b c h = grind (arith, nat_tests)

no_exponent_after : (b c : ℕ) → (is_digit b && (not (is_digit c) && (not (c == byte.point) && not (c == byte.upper_e)))) ≡ true → (c == byte.upper_e) ≡ false
no_exponent_after b c h = grind (arith, nat_tests)

pub begins_digit : (t : Text) → is_one_digit t ≡ true → is_digit (first t) ≡ true
begins_digit t h = begins_with_digit (first t) (get_or t 1 0) h

digit_small : (digit value : ℕ) → is_digit digit ≡ true → value ≡ digit - 48 → value < 10
digit_small digit value h is = grind (arith, nat_tests)

pub digit_finds : (t : Text) (x : Number) (f : Evaluated) → is_phrase row.NUMBER t ≡ true → is_one_digit t ≡ true → rnd Round false (first t - 48) 1 ≡ Ok x
    → f ≡ record { number = Ok x; left = length t - 1 } → Finds (literal_number (tree_at row.NUMBER t)) (after_phrase row.NUMBER t) f
digit_finds t x f there one got is_f =
    let point : (first (drop 1 t) == byte.point) ≡ false = ap (λ b. b == byte.point) (sym (at_place 1 t)) ∙ no_point_after (first t) (get_or t 1 0) one in
    let end : (first (drop 1 t) == byte.upper_e) ≡ false = ap (λ b. b == byte.upper_e) (sym (at_place 1 t)) ∙ no_exponent_after (first t) (get_or t 1 0) one in
    let number = whole_number t 1 (literal_here t there) (one_wide_text t (begins_digit t one) (no_second_digit (first t) (get_or t 1 0) one)) point end in
    finds_with _ _ (drop 1 t) x f (is_f ∙ ap (λ (n : ℕ). record { number = Ok x; left = n }) (sym (length-drop 1 t)))
    (literal_is t there ∙ number.0 ∙ ap (λ n. rnd Round false n (10 ^ 0)) (digit_value t) ∙ got)
    (sym (literal_rest t there ∙ number.1))

-- and what it comes to
pub zero_digit : (digit value : ℕ) (x : Number) → value ≡ digit - 48 → value ≡ 0 → x ≡ zero_number → rnd Round false (digit - 48) 1 ≡ Ok x
zero_digit digit value x is none is_x = rnd-none Round false (digit - 48) 1 (sym is ∙ none) ∙ ap Ok (sym is_x)

pub some_digit_is : (digit value : ℕ) (x : Number) → is_digit digit ≡ true → value ≡ digit - 48 → (value ≡ 0 → ⊥) → x ≡ record { neg = false; coef = value * 1000000000000; place = 99 } → rnd Round false (digit - 48) 1 ≡ Ok x
some_digit_is digit value x h is some is_x =
    let few : value < 10 = digit_small digit value h is in
    let least : 1 ≤ value = omega (arith, some) in
    ap (λ n. rnd Round false n 1) (sym is) ∙ whole-rnd Round value 0 (lit≤ tt) least few ∙ ap Ok (sym is_x)
