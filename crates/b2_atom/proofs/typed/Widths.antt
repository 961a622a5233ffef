-- What is typed by hand has its width, whatever stands after it that doesn't run on: numbers, digits, literals, images.
use Rattle.std.proofs.Common.{◌≡◌, ℕ, zero, suc, ◌+◌, ◌-◌, ◌*◌, ◌<◌, ◌≤◌, Bool, true, false, not, if◌then◌else◌, ◌==◌, ◌||◌, ◌&&◌, [], ◌∷◌, ◌++◌, length, drop, get_or, min, refl, sym, ap, ◌∙◌, arith, nat_le, nat_lt, length-drop, inl, inr, ◌⊎◌}
use Rattle.std.proofs.lemmas.Bool.Decides.{nat_tests}
use Rattle.b2_base.specs.Lexical.{capped_value, digits_width, first, is_digit, is_printable}
use Rattle.b2_atom.specs.Words.{Text, kept_byte}
use Rattle.b2_atom.specs.Leaves.{until_quote, mantissa_of, mantissa_width, sign_width, exponent_of, exponent_width, number_width_by, number_width, one_more, signed_number_width, literal_width, small_width, slot_width}
use Rattle.b2_atom.specs.declared.words.Origin.{Origin}
use Rattle.b2_atom.specs.declared.words.Origin.TheVariants.{Program, Immediate, Atoms}
use Rattle.b2_atom.proofs.Booleans.{false_true, equal}

pub get_first : (x : Text) → get_or x 0 0 ≡ first x
get_first [] = refl
get_first (b ∷ x) = refl

-- a test of one byte, where it fails at the end and after it
pub test_at : (p : ℕ → Bool) (w x : Text) (i : ℕ) → i ≤ length w → p 0 ≡ false → p (first x) ≡ false → p (get_or (w ++ x) i 0) ≡ p (get_or w i 0)
test_at p [] x zero le at_end stop = ap p (get_first x) ∙ stop ∙ sym at_end
test_at p [] x (suc i) le at_end stop = absurd (omega arith)
test_at p (b ∷ w) x zero le at_end stop = refl
test_at p (b ∷ w) x (suc i) le at_end stop = let less : i ≤ length w = omega arith in test_at p w x i less at_end stop

pub get_front : (w x : Text) (i : ℕ) → i < length w → get_or (w ++ x) i 0 ≡ get_or w i 0
get_front [] x i h = absurd (omega arith)
get_front (b ∷ w) x zero h = refl
get_front (b ∷ w) x (suc i) h = let less : i < length w = omega arith in get_front w x i less

pub get_none : (w : Text) (i : ℕ) → length w ≤ i → get_or w i 0 ≡ 0
get_none [] i h = refl
get_none (b ∷ w) zero h = absurd (omega arith)
get_none (b ∷ w) (suc i) h = let more : length w ≤ i = omega arith in get_none w i more

pub drop_front : (w x : Text) (i : ℕ) → i ≤ length w → drop i (w ++ x) ≡ drop i w ++ x
drop_front w x zero h = refl
drop_front [] x (suc i) h = absurd (omega arith)
drop_front (b ∷ w) x (suc i) h = let less : i ≤ length w = omega arith in drop_front w x i less

-- digits
pub digits_stop : (x : Text) → is_digit (first x) ≡ false → digits_width x ≡ 0
digits_stop [] h = refl
digits_stop (b ∷ x) h = rw h refl

same_if : (b : Bool) (x y z : ℕ) → x ≡ y → (if b then x else z) ≡ (if b then y else z)
same_if true x y z h = h
same_if false x y z h = refl

pub digits_more : (w x : Text) → is_digit (first x) ≡ false → digits_width (w ++ x) ≡ digits_width w
digits_more [] x h = digits_stop x h
digits_more (b ∷ w) x h = same_if (is_digit b) (suc (digits_width (w ++ x))) (suc (digits_width w)) 0 (ap suc (digits_more w x h))

pub if_most : (b : Bool) (x n : ℕ) → x ≤ n → (if b then x else 0) ≤ n
if_most true x n h = h
if_most false x n h = omega arith

pub digits_most : (w : Text) → digits_width w ≤ length w
digits_most [] = omega arith
digits_most (b ∷ w) = let less = digits_most w in let more : suc (digits_width w) ≤ suc (length w) = omega arith in if_most (is_digit b) (suc (digits_width w)) (suc (length w)) more

-- digits with a point or none
pub behind : (w : Text) (n : ℕ) → (n < length w) ⊎ (length w ≤ n)
behind w n = grind arith

pub pointed : (w : Text) (n : ℕ) → (get_or w n 0 == 46) ≡ true → n < length w
pointed w n h = elim (behind w n) [ inl less ↦ less | inr none ↦ absurd (false_true (ap (λ (b : ℕ). b == 46) (sym (get_none w n none)) ∙ h)) ]

part_more : (w x : Text) (n : ℕ) (b : Bool) → (get_or w n 0 == 46) ≡ b → is_digit (first x) ≡ false
    → (if b then mantissa_of n (digits_width (drop (n + 1) (w ++ x))) else n) ≡ (if b then mantissa_of n (digits_width (drop (n + 1) w)) else n)
part_more w x n false is stop = refl
part_more w x n true is stop =
    let less = pointed w n is in
    let fits : n + 1 ≤ length w = omega arith in
    ap (λ (m : ℕ). mantissa_of n m) (ap digits_width (drop_front w x (n + 1) fits) ∙ digits_more (drop (n + 1) w) x stop)

mantissa_at : (w x : Text) (n : ℕ) → n ≤ length w → is_digit (first x) ≡ false → (first x == 46) ≡ false
    → (if get_or (w ++ x) n 0 == 46 then mantissa_of n (digits_width (drop (n + 1) (w ++ x))) else n) ≡ (if get_or w n 0 == 46 then mantissa_of n (digits_width (drop (n + 1) w)) else n)
mantissa_at w x n le stop point =
    ap (λ (b : Bool). if b then mantissa_of n (digits_width (drop (n + 1) (w ++ x))) else n) (test_at (λ b. b == 46) w x n le refl point)
    ∙ part_more w x n (get_or w n 0 == 46) refl stop

pub mantissa_more : (w x : Text) → is_digit (first x) ≡ false → (first x == 46) ≡ false → mantissa_width (w ++ x) ≡ mantissa_width w
mantissa_more w x stop point =
    ap (λ (n : ℕ). if get_or (w ++ x) n 0 == 46 then mantissa_of n (digits_width (drop (n + 1) (w ++ x))) else n) (digits_more w x stop)
    ∙ mantissa_at w x (digits_width w) (digits_most w) stop point

-- an exponent
digit_inside : (w : Text) (n : ℕ) → is_digit (get_or w n 0) ≡ true → n < length w
digit_inside w n h = elim (behind w n) [ inl less ↦ less | inr none ↦ absurd (false_true (ap is_digit (sym (get_none w n none)) ∙ h)) ]

two_digits_more : (t x : Text) (sign : ℕ) (b : Bool) → is_digit (get_or t (1 + sign) 0) ≡ b → is_digit (first x) ≡ false
    → (if b then (if is_digit (get_or (t ++ x) (2 + sign) 0) then 3 + sign else 2 + sign) else 0) ≡ (if b then (if is_digit (get_or t (2 + sign) 0) then 3 + sign else 2 + sign) else 0)
two_digits_more t x sign false is stop = refl
two_digits_more t x sign true is stop =
    let less = digit_inside t (1 + sign) is in
    let fits : 2 + sign ≤ length t = omega arith in
    ap (λ (b : Bool). if b then 3 + sign else 2 + sign) (test_at is_digit t x (2 + sign) fits refl stop)

exponent_of_more : (sign : ℕ) (t x : Text) → 1 + sign ≤ length t → is_digit (first x) ≡ false → exponent_of sign (t ++ x) ≡ exponent_of sign t
exponent_of_more sign t x fits stop =
    ap (λ (b : Bool). if b then (if is_digit (get_or (t ++ x) (2 + sign) 0) then 3 + sign else 2 + sign) else 0) (test_at is_digit t x (1 + sign) fits refl stop)
    ∙ two_digits_more t x sign (is_digit (get_or t (1 + sign) 0)) refl stop

sign_least : (b : ℕ) → sign_width b ≤ 1
sign_least b = grind (arith, nat_tests)

pub no_exponent : (b : Bool) → ◌≡◌ {A = ℕ} (if b then 0 else 0) 1 → ⊥
no_exponent true h = cc
no_exponent false h = cc

pub kept_e : (o : Origin) → kept_byte o 69 ≡ 69
kept_e Program = refl
kept_e Immediate = refl
kept_e Atoms = refl

with_e : (a n m : ℕ) (b : Bool) → (a == 69) ≡ b → (if b then n else 0) ≡ suc m → (a ≡ 69) × (n ≡ suc m)
with_e a n m true is h = (equal a 69 is, h)
with_e a n m false is h = cc

-- the first byte after a number: no digit, no point, no E
abbrev pub ends_number : ℕ → Bool
ends_number n = not (is_digit n || (n == 46 || (n == 69 || n == 101)))

ends_digits : (n : ℕ) → ends_number n ≡ true → is_digit n ≡ false
ends_digits n h = grind (arith, nat_tests)

ends_point : (n : ℕ) → ends_number n ≡ true → (n == 46) ≡ false
ends_point n h = grind (arith, nat_tests)

ends_e : (o : Origin) (n : ℕ) → ends_number n ≡ true → (kept_byte o n == 69) ≡ false
ends_e Program n h = grind (arith, nat_tests)
ends_e Immediate n h = grind (arith, nat_tests)
ends_e Atoms n h = grind (arith, nat_tests)

pub exponent_more : (o : Origin) (v x : Text) → exponent_width Atoms v ≡ length v → ends_number (first x) ≡ true → exponent_width o (v ++ x) ≡ length v
exponent_more o [] x whole stop = rw (ends_e o (first x) stop) refl
exponent_more o (a ∷ []) x whole stop = absurd (no_exponent (a == 69) whole)
exponent_more o (a ∷ b ∷ v) x whole stop =
    let is = with_e a (exponent_of (sign_width b) (a ∷ b ∷ v)) (suc (length v)) (a == 69) refl whole in
    let short = sign_least b in
    let fits : 1 + sign_width b ≤ suc (suc (length v)) = omega arith in
    let e : (kept_byte o a == 69) ≡ true = ap (λ (n : ℕ). kept_byte o n == 69) is.0 ∙ ap (λ (n : ℕ). n == 69) (kept_e o) in
    ap (λ (c : Bool). if c then exponent_of (sign_width b) (a ∷ b ∷ (v ++ x)) else 0) e
    ∙ exponent_of_more (sign_width b) (a ∷ b ∷ v) x fits (ends_digits (first x) stop)
    ∙ is.1

-- numbers
pub number_parts : (m e n : ℕ) (b : Bool) → (m == 0) ≡ b → (if b then 0 else m + e) ≡ suc n → (b ≡ false) × (m + e ≡ suc n)
number_parts m e n true is h = cc
number_parts m e n false is h = (refl, h)

length_rest : (w : Text) (m e : ℕ) → m + e ≡ length w → e ≡ length (drop m w)
length_rest w m e h = omega (arith, length-drop m w)

pub number_more : (o : Origin) (d : ℕ) (w x : Text) → number_width Atoms (d ∷ w) ≡ suc (length w) → ends_number (first x) ≡ true
    → number_width o (d ∷ (w ++ x)) ≡ suc (length w)
number_more o d w x whole stop =
    let t : Text = d ∷ w in
    let m : ℕ = mantissa_width t in
    let is = number_parts m (exponent_width Atoms (drop m t)) (length w) (m == 0) refl whole in
    let fits : m ≤ length t = (let sum = is.1 in omega arith) in
    let tail : exponent_width Atoms (drop m t) ≡ length (drop m t) = length_rest t m _ is.1 in
    ap (λ (n : ℕ). number_width_by o n (t ++ x)) (mantissa_more t x (ends_digits (first x) stop) (ends_point (first x) stop))
    ∙ ap (λ (b : Bool). if b then 0 else m + exponent_width o (drop m (t ++ x))) is.0
    ∙ ap (λ (l : Text). m + exponent_width o l) (drop_front t x m fits)
    ∙ ap (λ (n : ℕ). m + n) (exponent_more o (drop m t) x tail stop ∙ sym tail)
    ∙ is.1

pub signed_parts : (n m : ℕ) → one_more n ≡ suc m → n ≡ m
signed_parts n m h = grind (arith, nat_tests)

pub one_more_suc : (n : ℕ) → one_more (suc n) ≡ suc (suc n)
one_more_suc n = grind (arith, nat_tests)

signed_by : (o : Origin) (d : ℕ) (w x : Text) (b : Bool) → (if b then one_more (number_width Atoms w) else number_width Atoms (d ∷ w)) ≡ suc (length w)
    → ends_number (first x) ≡ true → (if b then one_more (number_width o (w ++ x)) else number_width o (d ∷ (w ++ x))) ≡ suc (length w)
signed_by o d w x false whole stop = number_more o d w x whole stop
signed_by o d [] x true whole stop = cc
signed_by o d (e ∷ w) x true whole stop =
    ap one_more (number_more o e w x (signed_parts (number_width Atoms (e ∷ w)) (suc (length w)) whole) stop) ∙ one_more_suc (length w)

pub signed_number_more : (o : Origin) (d : ℕ) (w x : Text) → signed_number_width Atoms (d ∷ w) ≡ suc (length w) → ends_number (first x) ≡ true
    → signed_number_width o (d ∷ (w ++ x)) ≡ suc (length w)
signed_number_more o d w x whole stop = signed_by o d w x (d == 43 || d == 45) whole stop

-- small numbers
value_stop : (n : ℕ) (x : Text) → is_digit (first x) ≡ false → capped_value 999 n x ≡ n
value_stop n [] h = refl
value_stop n (b ∷ x) h = rw h refl

pub small_value_more : (n : ℕ) (w x : Text) → is_digit (first x) ≡ false → capped_value 999 n (w ++ x) ≡ capped_value 999 n w
small_value_more n [] x h = value_stop n x h
small_value_more n (b ∷ w) x h =
    same_if (is_digit b) _ _ n (small_value_more (min (n * 10 + (b - 48)) 999) w x h)

pub small_more : (w x : Text) → is_digit (first x) ≡ false → small_width (w ++ x) ≡ small_width w
small_more w x h =
    ap (λ (n : ℕ). if nat_le n 255 then digits_width (w ++ x) else 0) (small_value_more 0 w x h)
    ∙ ap (λ (n : ℕ). if nat_le (capped_value 999 0 w) 255 then n else 0) (digits_more w x h)

pub slot_more : (d : ℕ) (w x : Text) → is_digit (first x) ≡ false → slot_width (d ∷ (w ++ x)) ≡ slot_width (d ∷ w)
slot_more d w x h =
    ap (λ (n : ℕ). if d == 35 && (nat_lt 0 n && nat_le (capped_value 999 0 (w ++ x)) 15) then n + 1 else 0) (digits_more w x h)
    ∙ ap (λ (n : ℕ). if d == 35 && (nat_lt 0 (digits_width w) && nat_le n 15) then digits_width w + 1 else 0) (small_value_more 0 w x h)

-- literals
quote_by : (b : Bool) (w x : Text) → (if b then 0 else suc (until_quote w)) < suc (length w) → (until_quote w < length w → until_quote (w ++ x) ≡ until_quote w)
    → ◌≡◌ {A = ℕ} (if b then 0 else suc (until_quote (w ++ x))) (if b then 0 else suc (until_quote w))
quote_by true w x h more = refl
quote_by false w x h more = let less : until_quote w < length w = omega arith in ap suc (more less)

pub until_quote_more : (w x : Text) → until_quote w < length w → until_quote (w ++ x) ≡ until_quote w
until_quote_more [] x h = absurd (omega arith)
until_quote_more (b ∷ w) x h = quote_by (b == 34 || not (is_printable b)) w x h (until_quote_more w x)

get_more : (w x : Text) (n : ℕ) → n < length w → (get_or (w ++ x) n 0 == 34) ≡ (get_or w n 0 == 34)
get_more w x n h = ap (λ (b : ℕ). b == 34) (get_front w x n h)

literal_parts : (a : Bool) (n m : ℕ) (b : Bool) → (if a && (nat_lt 0 n && b) then n + 2 else 0) ≡ suc m → n < m
literal_parts true n m true h = grind (arith, nat_tests)
literal_parts true n m false h = grind (arith, nat_tests)
literal_parts false n m b h = cc

pub literal_more : (d : ℕ) (w x : Text) → literal_width (d ∷ w) ≡ suc (length w) → literal_width (d ∷ (w ++ x)) ≡ suc (length w)
literal_more d w x whole =
    let inside : until_quote w < length w = literal_parts (d == 34) (until_quote w) (length w) (get_or (d ∷ w) (until_quote w + 1) 0 == 34) whole in
    let less : until_quote w + 1 < length (d ∷ w) = omega arith in
    ap (λ (n : ℕ). if d == 34 && (nat_lt 0 n && get_or (d ∷ (w ++ x)) (n + 1) 0 == 34) then n + 2 else 0) (until_quote_more w x inside)
    ∙ ap (λ (b : Bool). if d == 34 && (nat_lt 0 (until_quote w) && b) then until_quote w + 2 else 0) (get_more (d ∷ w) x (until_quote w + 1) less)
    ∙ whole
