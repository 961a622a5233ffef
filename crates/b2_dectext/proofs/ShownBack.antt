-- A number is read back as what it shows.
use Rattle.std.proofs.Common.{◌≡◌, ℕ, zero, suc, ◌+◌, ◌-◌, ◌*◌, ◌/◌, ◌%◌, ◌^◌, ◌<◌, ◌≤◌, ◌==◌, ◌||◌, Bool, true, false, if◌then◌else◌, List, [], ◌∷◌, ◌++◌, length, take, drop, Some, Ok, refl, sym, ap, ap₂, ◌∙◌, subst, arith, append_assoc, ne_eqb, pow-add, mod-eq_of_lt, inl, inr, lt-ltb, le-ltb}
use Rattle.std.proofs.Math.Nat.{div-div-eq-div-mul}
use Rattle.std.proofs.lemmas.Bool.{cases_Bool, cases_lt, eqb-false}
use Rattle.std.proofs.lemmas.List.{length-take, length-drop, take-append-drop}
use Rattle.b2_dec.specs.declared.number.Mode.TheVariants.{Round}
use Rattle.b2_dec.specs.Number.{Number, IsNumber}
use Rattle.b2_dec.specs.Rounding.{rnd}
use Rattle.b2_dec.proofs.Ranks.{thirteen}
use Rattle.b2_dectext.specs.Digits.{digit_byte, digit_bytes, digits_value, AreDigits}
use Rattle.b2_dectext.specs.NumberText.{number_len, number_read, in_result, parts_value}
use Rattle.b2_dectext.specs.Printed.{nine_digits, exponent_shown, is_fixed, is_plain, as_shown, sign_shown, shown_size, without_spaces, printed}
use Rattle.b2_dectext.specs.Grammar.{Sign, Spelling, exponent_text, is_minus, spelling_text, parts}
use Rattle.b2_dectext.specs.Grammar as grammar
use Rattle.b2_dectext.proofs.Longest.{IsReadWhole, with_exponent, with_exponent-read}
use Rattle.b2_dectext.proofs.ReadBack.{digit_bytes-value, digit_bytes-length, are_digits, take_digits, drop_digits, sign_for, sign_for-text, sign_for-minus, shown-number, read_as, plain-back}

-- the first digits of a number are the digits of its front
front : (k m n c : ℕ) → n ≡ k + m → take k (digit_bytes n c) ≡ digit_bytes k (c / 10 ^ m)
unfolding digit_bytes
front zero m n c e = refl
front (suc k) m zero c e = absurd (omega (arith, e))
front (suc k) m (suc n) c e =
    let rest : n ≡ k + m = omega (arith, e) in
    let turned : n ≡ m + k = omega (arith, e) in
    let digit : c / 10 ^ n ≡ c / 10 ^ m / 10 ^ k = ap (λ t. c / 10 ^ t) turned ∙ ap (λ t. c / t) (pow-add 10 m k) ∙ sym (div-div-eq-div-mul c (10 ^ m) (10 ^ k)) in
    ap₂ (λ t ds. (48 + t % 10) ∷ ds) digit (front k m n c rest)

-- what nine digits of thirteen are
abbrev nine : ℕ → List ℕ
nine c = digit_bytes 9 (c / 10000)

nine_digits-split : (c : ℕ) → nine_digits (digit_bytes 13 c) ≡ take 1 (take 9 (digit_bytes 13 c)) ++ (46 ∷ drop 1 (take 9 (digit_bytes 13 c)))
unfolding nine_digits digit_bytes
nine_digits-split c = refl

nine_digits-front : (c : ℕ) → nine_digits (digit_bytes 13 c) ≡ take 1 (nine c) ++ (46 ∷ drop 1 (nine c))
nine_digits-front c = nine_digits-split c ∙ ap (λ t. take 1 t ++ (46 ∷ drop 1 t)) (front 9 4 13 c refl)

nine-value : (c : ℕ) → c < 10000000000000 → digits_value (take 1 (nine c) ++ drop 1 (nine c)) * 10 ^ 4 ≡ c / 10000 * 10000
nine-value c small =
    let few : c / 10000 < 1000000000 = omega (arith, small) in
    let rest : c / 10000 % 1000000000 ≡ c / 10000 = mod-eq_of_lt few in
    let value : digits_value (nine c) ≡ c / 10000 = digit_bytes-value 9 0 (c / 10000) ∙ omega (arith, rest) in
    ap (λ t. digits_value t * 10 ^ 4) (take-append-drop 1 (nine c)) ∙ ap (λ n. n * 10 ^ 4) value

-- the two digits of an exponent
two : ℕ → List ℕ
two n = digit_byte 1 n ∷ digit_byte 0 n ∷ []

two-bytes : (n : ℕ) → digit_bytes 2 n ≡ two n
unfolding digit_bytes two
two-bytes n = refl

two-value : (n : ℕ) → n ≤ 99 → digits_value (two n) ≡ n
two-value n small =
    let below : n < 100 = omega (arith, small) in
    let rest : n % 100 ≡ n = mod-eq_of_lt below in
    ap digits_value (sym (two-bytes n)) ∙ digit_bytes-value 2 0 n ∙ omega (arith, rest)

two-digits : (n : ℕ) → AreDigits (two n)
two-digits n = subst AreDigits (two-bytes n) (are_digits 2 n)

exponent-low : (place : ℕ) → place < 99 → exponent_text grammar.minus (two (99 - place)) ≡ exponent_shown place
unfolding exponent_shown two
exponent-low place low = rw (lt-ltb _ _ low) (ap (λ t. 69 ∷ 45 ∷ t) (sym (two-bytes (99 - place))))

exponent-high : (place : ℕ) → 99 ≤ place → exponent_text grammar.plus (two (place - 99)) ≡ exponent_shown place
unfolding exponent_shown two
exponent-high place high = rw (le-ltb _ _ high) (ap (λ t. 69 ∷ 43 ∷ t) (sym (two-bytes (place - 99))))

size-shown : (x : Number) → (x.coef == 0) ≡ false → is_fixed x.place ≡ false → nine_digits (digit_bytes 13 x.coef) ++ exponent_shown x.place ≡ shown_size x
unfolding shown_size
size-shown x some far = rw (some, far) refl

-- the spelling of a number that is shown with an exponent, of a sign and n
spelling_of : Number → Sign → ℕ → Spelling
spelling_of x h n = with_exponent (sign_for x.neg) (take 1 (nine x.coef)) (drop 1 (nine x.coef)) h (digit_byte 1 n) (digit_byte 0 n ∷ [])

text-shown : (x : Number) (h : Sign) (n : ℕ) → (x.coef == 0) ≡ false → is_fixed x.place ≡ false → exponent_text h (two n) ≡ exponent_shown x.place
    → spelling_text (spelling_of x h n) ≡ without_spaces x
unfolding spelling_of two
text-shown x h n some far shown =
    let w : List ℕ = take 1 (nine x.coef) in
    let f : List ℕ = 46 ∷ drop 1 (nine x.coef) in
    ap₂ (λ s e. s ++ (w ++ (f ++ e))) (sign_for-text x.neg) shown
    ∙ ap (λ t. (if x.neg then 45 ∷ [] else []) ++ t)
    (sym (append_assoc w f (exponent_shown x.place)) ∙ ap (λ t. t ++ exponent_shown x.place) (sym (nine_digits-front x.coef)) ∙ size-shown x some far)

-- the number that nine of its digits say
cut : Number → Number
cut x = record x { coef = x.coef / 10000 * 10000 }

cut-number : (x : Number) → IsNumber x → 1000000000000 ≤ x.coef → IsNumber (cut x)
unfolding cut
cut-number x h least =
    let digits : x.coef < 10000000000000 = h.digits in
    record {
      digits = omega (arith, digits);
      highest = h.highest;
      spelling = λ few. absurd (omega (arith, least, few));
    }

spelling-value : (x : Number) (h : Sign) (n : ℕ) → digits_value (two n) ≡ n
    → parts_value (parts (spelling_of x h n))
    ≡ rnd Round x.neg (digits_value (take 1 (nine x.coef) ++ drop 1 (nine x.coef)) * 10 ^ (if is_minus h then 0 else n)) (10 ^ (length (drop 1 (nine x.coef)) + (if is_minus h then n else 0)))
unfolding parts_value spelling_of two
spelling-value x h n size =
    let m : ℕ = digits_value (take 1 (nine x.coef) ++ drop 1 (nine x.coef)) in
    let long : ℕ = length (drop 1 (nine x.coef)) in
    ap₂ (λ s e. rnd Round s (m * 10 ^ (if is_minus h then 0 else e)) (10 ^ (long + (if is_minus h then e else 0)))) (sign_for-minus x.neg) size

spelling-number : (x : Number) (h : Sign) (n up down : ℕ) → IsNumber x → 1000000000000 ≤ x.coef → n ≤ 99
    → (if is_minus h then 0 else n) ≡ up → 8 + (if is_minus h then n else 0) ≡ down → down + 4 + x.place ≡ 111 + up
    → parts_value (parts (spelling_of x h n)) ≡ Ok (cut x)
unfolding cut
spelling-number x h n up down is least small ups downs place =
    let m : ℕ = digits_value (take 1 (nine x.coef) ++ drop 1 (nine x.coef)) in
    let y : Number = record x { coef = x.coef / 10000 * 10000 } in
    let fine : IsNumber y = cut-number x is least in
    let most : 1000000000000 ≤ x.coef / 10000 * 10000 = omega (arith, least) in
    let long : length (drop 1 (nine x.coef)) ≡ 8 = omega (arith, length-drop 1 (nine x.coef), digit_bytes-length 9 (x.coef / 10000)) in
    spelling-value x h n (two-value n small)
    ∙ ap₂ (λ u d. rnd Round x.neg (m * 10 ^ u) (10 ^ d)) ups (ap (λ l. l + (if is_minus h then n else 0)) long ∙ downs)
    ∙ shown-number y m 4 up down most fine (nine-value x.coef is.digits) place

spelling-read : (x : Number) (h : Sign) (n up down : ℕ) → IsNumber x → (x.coef == 0) ≡ false → is_fixed x.place ≡ false → exponent_text h (two n) ≡ exponent_shown x.place → n ≤ 99
    → (if is_minus h then 0 else n) ≡ up → 8 + (if is_minus h then n else 0) ≡ down → down + 4 + x.place ≡ 111 + up
    → IsReadWhole (without_spaces x) (Ok (cut x))
unfolding spelling_of two
spelling-read x h n up down is some far shown small ups downs place =
    let least : 1000000000000 ≤ x.coef = thirteen x is (eqb-false x.coef 0 some) in
    let t : List ℕ = nine x.coef in
    let digits : AreDigits t = are_digits 9 (x.coef / 10000) in
    let count : 0 < length (take 1 t) + length (drop 1 t) = omega (arith, length-take 1 t, digit_bytes-length 9 (x.coef / 10000)) in
    read_as _ _ _ _ (text-shown x h n some far shown) (spelling-number x h n up down is least small ups downs place)
    (with_exponent-read (sign_for x.neg) (take 1 t) (drop 1 t) h (digit_byte 1 n) (digit_byte 0 n ∷ []) (take_digits 1 t digits) (drop_digits 1 t digits) count (two-digits n) (omega arith))

exponent-back : (x : Number) → IsNumber x → (x.coef == 0) ≡ false → is_fixed x.place ≡ false → IsReadWhole (without_spaces x) (Ok (cut x))
exponent-back x is some far =
    let highest : x.place ≤ 198 = is.highest in
    elim (cases_lt x.place 99) [
      | inl low ↦ spelling-read x grammar.minus (99 - x.place) 0 (8 + (99 - x.place)) is some far (exponent-low x.place low) (omega arith) refl refl (omega (arith, low))
      | inr high ↦ spelling-read x grammar.plus (x.place - 99) (x.place - 99) 8 is some far (exponent-high x.place high) (omega (arith, highest)) refl refl (omega (arith, high))
    ]

neither : (a b : Bool) → (a || b) ≡ false → (a ≡ false) × (b ≡ false)
neither false b e = (refl, e)
neither true b e = absurd (cc)

-- Every number is read back as what it shows.
pub shown-back : (x : Number) → IsNumber x → IsReadWhole (without_spaces x) (Ok (as_shown x))
unfolding cut
shown-back x is =
    elim (cases_Bool (is_plain x)) [
      | inl plainly ↦ rw plainly (plain-back x is plainly)
      | inr far ↦ let both = neither (x.coef == 0) (is_fixed x.place) far in rw far (exponent-back x is both.0 both.1)
    ]

pub shown-len : (x : Number) → IsNumber x → number_len (without_spaces x) ≡ length (without_spaces x)
shown-len x is = let read = shown-back x is in read.len

pub shown-read : (x : Number) → IsNumber x → number_read (without_spaces x) ≡ Some (as_shown x)
unfolding number_read
shown-read x is =
    let read = shown-back x is in
    let other : (number_len (without_spaces x) == 0) ≡ false = ne_eqb _ 0 (λ e. absurd (omega (arith, read.some, e))) in
    rw other (ap in_result read.value)

pub plain-shown : (x : Number) → is_plain x ≡ true → as_shown x ≡ x
plain-shown x plainly = rw plainly refl

-- What is shown is shown alike again.
nine-again : (c : ℕ) → nine_digits (digit_bytes 13 (c / 10000 * 10000)) ≡ nine_digits (digit_bytes 13 c)
nine-again c =
    let same : c / 10000 * 10000 / 10000 ≡ c / 10000 = omega arith in
    nine_digits-front (c / 10000 * 10000) ∙ ap (λ n. take 1 (digit_bytes 9 n) ++ (46 ∷ drop 1 (digit_bytes 9 n))) same ∙ sym (nine_digits-front c)

size-again : (x : Number) → IsNumber x → (x.coef == 0) ≡ false → is_fixed x.place ≡ false → shown_size (record x { coef = x.coef / 10000 * 10000 }) ≡ shown_size x
size-again x is some far =
    let least : 1000000000000 ≤ x.coef = thirteen x is (eqb-false x.coef 0 some) in
    let other : (x.coef / 10000 * 10000 == 0) ≡ false = ne_eqb _ 0 (λ e. absurd (omega (arith, least, e))) in
    sym (size-shown (record x { coef = x.coef / 10000 * 10000 }) other far) ∙ ap (λ t. t ++ exponent_shown x.place) (nine-again x.coef) ∙ size-shown x some far

pub shown-again : (x : Number) → IsNumber x → printed (as_shown x) ≡ printed x
unfolding printed
shown-again x is =
    elim (cases_Bool (is_plain x)) [
      | inl plainly ↦ rw plainly refl
      | inr far ↦
          let both = neither (x.coef == 0) (is_fixed x.place) far in
          rw far (ap (λ t. (sign_shown x.neg ∷ []) ++ t ++ (32 ∷ [])) (size-again x is both.0 both.1))
    ]
