-- A number that is shown without an exponent is read back.
use Rattle.std.proofs.Common.{◌≡◌, ℕ, zero, suc, ◌+◌, ◌-◌, ◌*◌, ◌/◌, ◌%◌, ◌^◌, ◌<◌, ◌≤◌, ◌==◌, ◌&&◌, nat_le, Bool, true, false, if◌then◌else◌, List, [], ◌∷◌, ◌++◌, length, take, drop, reverse, get_or, Option, Some, None, Result, Ok, refl, sym, ap, ap₂, ◌∙◌, subst, arith, lit<, one-add, append_assoc, length-append, le-leb, eqb-true, eq-eqb, pow-add, mod-lt, mod-eq_of_lt, mul_assoc, inl, inr}
use native.Mathlib.Nat.{pow-succ'}
use Rattle.std.proofs.Math.Arith.{mod-mul}
use Rattle.std.proofs.Math.Seq.{take-append_seam}
use Rattle.std.proofs.lemmas.Bool.{cases_Bool, cases_lt, leb-true}
use Rattle.b2_base.specs.Lexical.{is_digit}
use Rattle.b2_dectext.proofs.Putting.{shown_size-fixed}
use Rattle.std.proofs.lemmas.List.{append-nil, length-take, length-take-le, length-reverse, reverse-append, reverse-reverse, take-append-drop, length-drop, get_or-take, get_or-drop}
use Rattle.std.proofs.lemmas.List.Sums.{fold-append}
use Rattle.std.specs.List.{prefix_len, suffix_len}
use Rattle.b2_dec.specs.declared.number.Mode.TheVariants.{Round}
use Rattle.b2_dec.specs.Number.{Number, IsNumber, zero_number}
use Rattle.b2_dec.specs.Rounding.{rnd}
use Rattle.b2_dec.proofs.TenLemmas.{ten_pos}
use Rattle.b2_dec.proofs.Exact.{rnd-digits, in_range-number, rnd-zero}
use Rattle.b2_dec.proofs.Ranks.{thirteen}
use Rattle.b2_dectext.specs.NumberText.{parts_value}
use Rattle.b2_dectext.specs.Printed.{after_point, with_point, is_plain, shown_size, without_spaces, printed}
use Rattle.b2_dectext.specs.Grammar.{Sign, Spelling, sign_text, point_text, spelling_text, fraction_digits, parts, is_minus}
use Rattle.b2_dectext.specs.Grammar as grammar
use Rattle.b2_dectext.proofs.Longest.{plain, plain-read, IsReadWhole}
use Rattle.b2_dectext.specs.Digits.{digit_byte, digit_bytes, without_last_zeros, AreDigits, value_after, digits_value}

-- The last k digits of n write n, where it has no more.
pub digit_bytes-value : (k m n : ℕ) → value_after m (digit_bytes k n) ≡ m * 10 ^ k + n % 10 ^ k
unfolding digit_bytes
digit_bytes-value zero m n = omega arith
digit_bytes-value (suc k) m n =
    let d : ℕ = n / 10 ^ k % 10 in
    let rest : value_after (10 * m + (48 + d - 48)) (digit_bytes k n) ≡ (10 * m + (48 + d - 48)) * 10 ^ k + n % 10 ^ k = digit_bytes-value k (10 * m + (48 + d - 48)) n in
    let parted : n % (10 * 10 ^ k) ≡ d * 10 ^ k + n % 10 ^ k = mod-mul n {m = 10} {c = 10 ^ k} (lit< tt) (ten_pos k) in
    let plain : 48 + d - 48 ≡ d = omega arith in
    rest ∙ ap (λ e. (10 * m + e) * 10 ^ k + n % 10 ^ k) plain ∙ rw (pow-succ' 10 k, parted) (omega arith)

pub digit_bytes-length : (k n : ℕ) → length (digit_bytes k n) ≡ k
unfolding digit_bytes
digit_bytes-length zero n = refl
digit_bytes-length (suc k) n = ap suc (digit_bytes-length k n)

is-digit : (n k : ℕ) → is_digit (digit_byte k n) ≡ true
is-digit n k =
    let d : ℕ = n / 10 ^ k % 10 in
    let small : d < 10 = mod-lt (n / 10 ^ k) (lit< tt) in
    let low : 48 ≤ 48 + d = omega arith in
    let high : 48 + d ≤ 57 = omega arith in
    rw (le-leb _ _ low, le-leb _ _ high) refl

digits_at : (k n i : ℕ) → i < length (digit_bytes k n) → is_digit (get_or (digit_bytes k n) i 0) ≡ true
unfolding digit_bytes
digits_at zero n i h = absurd (omega arith)
digits_at (suc k) n zero h = is-digit n k
digits_at (suc k) n (suc i) h = digits_at k n i (omega arith)

pub are_digits : (k n : ℕ) → AreDigits (digit_bytes k n)
are_digits k n = record { each = digits_at k n }

-- zeros at the end
unfoldable pub zeros : ℕ → List ℕ
zeros zero = []
zeros (suc k) = 48 ∷ zeros k

zeros-more : (k : ℕ) → zeros k ++ (48 ∷ []) ≡ 48 ∷ zeros k
unfolding zeros
zeros-more zero = refl
zeros-more (suc k) = ap (λ t. 48 ∷ t) (zeros-more k)

pub zeros-reverse : (k : ℕ) → reverse (zeros k) ≡ zeros k
unfolding zeros
zeros-reverse zero = refl
zeros-reverse (suc k) = reverse-append (48 ∷ []) (zeros k) ∙ ap (λ t. t ++ (48 ∷ [])) (zeros-reverse k) ∙ zeros-more k

pub zeros-length : (k : ℕ) → length (zeros k) ≡ k
unfolding zeros
zeros-length zero = refl
zeros-length (suc k) = ap suc (zeros-length k)

zeros-value : (k m : ℕ) → value_after m (zeros k) ≡ m * 10 ^ k
unfolding zeros
zeros-value zero m = omega arith
zeros-value (suc k) m = zeros-value k (10 * m + 0) ∙ rw (pow-succ' 10 k) (omega arith)

zeros-front : (xs : List ℕ) → take (prefix_len (λ d. d == 48) xs) xs ≡ zeros (prefix_len (λ d. d == 48) xs)
unfolding zeros
zeros-front [] = refl
zeros-front (x ∷ xs) =
    let n : ℕ = prefix_len (λ d. d == 48) xs in
    elim (cases_Bool (x == 48)) [
      | inl same ↦ rw same (ap (λ k. take k (x ∷ xs)) (one-add n) ∙ ap₂ (λ d t. d ∷ t) (eqb-true x 48 same) (zeros-front xs) ∙ ap zeros (sym (one-add n)))
      | inr other ↦ rw other refl
    ]

without_last_zeros-split : (ds : List ℕ) → ds ≡ without_last_zeros ds ++ zeros (suffix_len (λ d. d == 48) ds)
without_last_zeros-split ds =
    let n : ℕ = suffix_len (λ d. d == 48) ds in
    let kept : List ℕ = reverse (drop n (reverse ds)) in
    let all : ds ≡ kept ++ zeros n =
    sym (reverse-reverse ds) ∙ ap reverse (sym (take-append-drop n (reverse ds)) ∙ ap (λ t. t ++ drop n (reverse ds)) (zeros-front (reverse ds)))
    ∙ reverse-append (zeros n) (drop n (reverse ds)) ∙ ap (λ t. kept ++ t) (zeros-reverse n) in
    let long : length kept ≡ length ds - n = omega (arith, length-reverse (drop n (reverse ds)), length-drop n (reverse ds), length-reverse ds) in
    let front : without_last_zeros ds ≡ kept = ap (take (length ds - n)) all ∙ ap (λ k. take k (kept ++ zeros n)) (sym long) ∙ take-append_seam kept (zeros n) in
    all ∙ ap (λ t. t ++ zeros n) (sym front)

pub sign_for : Bool → Sign
sign_for neg = if neg then grammar.minus else grammar.unsigned

fraction_for : List ℕ → Option (List ℕ)
fraction_for [] = None
fraction_for (d ∷ ds) = Some (d ∷ ds)

pub sign_for-text : (neg : Bool) → sign_text (sign_for neg) ≡ (if neg then 45 ∷ [] else [])
unfolding sign_for
sign_for-text true = refl
sign_for-text false = refl

pub sign_for-minus : (neg : Bool) → is_minus (sign_for neg) ≡ neg
unfolding sign_for
sign_for-minus true = refl
sign_for-minus false = refl

fraction_for-text : (ds : List ℕ) → point_text (fraction_for ds) ++ [] ≡ after_point ds
unfolding fraction_for
fraction_for-text [] = refl
fraction_for-text (d ∷ ds) = append-nil (46 ∷ d ∷ ds)

fraction_for-digits : (ds : List ℕ) → fraction_digits (fraction_for ds) ≡ ds
unfolding fraction_for
fraction_for-digits [] = refl
fraction_for-digits (d ∷ ds) = refl

pub take_digits : (n : ℕ) (ds : List ℕ) → AreDigits ds → AreDigits (take n ds)
take_digits n ds h = record {
  each = λ k below.
      let within : k < n = omega (arith, length-take n ds) in
      let there : k < length ds = omega (arith, length-take n ds) in
      ap is_digit (get_or-take n ds k 0 within) ∙ h.each k there;
}

pub drop_digits : (n : ℕ) (ds : List ℕ) → AreDigits ds → AreDigits (drop n ds)
drop_digits n ds h = record {
  each = λ k below.
      let there : n + k < length ds = omega (arith, length-drop n ds) in
      ap is_digit (get_or-drop n ds k 0) ∙ h.each (n + k) there;
}

-- the digits that are shown are those of the number, but for the last zeros
shown-digits : (n c : ℕ) → n ≤ 13 → c < 10000000000000
    → digits_value (take n (digit_bytes 13 c) ++ without_last_zeros (drop n (digit_bytes 13 c))) * 10 ^ suffix_len (λ d. d == 48) (drop n (digit_bytes 13 c)) ≡ c
shown-digits n c few small =
    let ds : List ℕ = digit_bytes 13 c in
    let w : List ℕ = take n ds in
    let t : List ℕ = without_last_zeros (drop n ds) in
    let z : ℕ = suffix_len (λ d. d == 48) (drop n ds) in
    let all : ds ≡ (w ++ t) ++ zeros z =
    sym (take-append-drop n ds) ∙ ap (λ u. w ++ u) (without_last_zeros-split (drop n ds)) ∙ sym (append_assoc w t (zeros z)) in
    let rest : c % 10000000000000 ≡ c = mod-eq_of_lt small in
    let value : digits_value ds ≡ c = digit_bytes-value 13 0 c ∙ omega (arith, rest) in
    sym (zeros-value z (digits_value (w ++ t))) ∙ sym (fold-append (λ m d. 10 * m + (d - 48)) 0 (w ++ t) (zeros z)) ∙ ap digits_value (sym all) ∙ value

shown-count : (n c : ℕ) → n ≤ 13 → length (without_last_zeros (drop n (digit_bytes 13 c))) + suffix_len (λ d. d == 48) (drop n (digit_bytes 13 c)) ≡ 13 - n
shown-count n c few =
    let rest : List ℕ = drop n (digit_bytes 13 c) in
    let long : length rest ≡ 13 - n = omega (arith, length-drop n (digit_bytes 13 c), digit_bytes-length 13 c) in
    let split : length rest ≡ length (without_last_zeros rest) + length (zeros (suffix_len (λ d. d == 48) rest)) = ap length (without_last_zeros-split rest) ∙ length-append (without_last_zeros rest) (zeros (suffix_len (λ d. d == 48) rest)) in
    omega (arith, long, split, zeros-length (suffix_len (λ d. d == 48) rest))

no_item : (xs : List ℕ) → length xs ≡ 0 → xs ≡ []
no_item [] e = refl
no_item (x ∷ xs) e = absurd (omega arith)

-- a number other than zero shows a digit
shown-some : (n c : ℕ) → n ≤ 13 → c < 10000000000000 → 1000000000000 ≤ c → 0 < n + length (without_last_zeros (drop n (digit_bytes 13 c)))
shown-some n c few small least =
    let ds : List ℕ = digit_bytes 13 c in
    let t : List ℕ = without_last_zeros (drop n ds) in
    let shown : List ℕ = take n ds ++ t in
    elim (cases_lt 0 (n + length t)) [
      | inl some ↦ some
      | inr none ↦
          let long : length shown ≡ 0 = omega (arith, length-append (take n ds) t, length-take n ds) in
          let value : digits_value shown * 10 ^ suffix_len (λ d. d == 48) (drop n ds) ≡ c = shown-digits n c few small in
          let nothing : digits_value shown ≡ 0 = ap digits_value (no_item shown long) in
          let nought : 0 * 10 ^ suffix_len (λ d. d == 48) (drop n ds) ≡ c = subst (λ m. m * 10 ^ suffix_len (λ d. d == 48) (drop n ds) ≡ c) nothing value in
          absurd (omega arith)
    ]

-- Thirteen digits, of which the last ones are left out, in units of their place, times ten as often as an exponent says.
pub shown-number : (x : Number) (m z up down : ℕ) → 1000000000000 ≤ x.coef → IsNumber x → m * 10 ^ z ≡ x.coef → down + z + x.place ≡ 111 + up
    → rnd Round x.neg (m * 10 ^ up) (10 ^ down) ≡ Ok x
shown-number x m z up down least h value place =
    let tens : 10 ^ z * (10 ^ (x.place + 111) * 10 ^ down) ≡ 10 ^ up * 10 ^ 222 =
    ap (λ t. 10 ^ z * t) (sym (pow-add 10 (x.place + 111) down)) ∙ sym (pow-add 10 z (x.place + 111 + down))
    ∙ ap (λ t. 10 ^ t) (let sum : z + (x.place + 111 + down) ≡ up + 222 = omega arith in sum) ∙ pow-add 10 up 222 in
    let exact : x.coef * (10 ^ (x.place + 111) * 10 ^ down) ≡ m * 10 ^ up * 10 ^ 222 =
    ap (λ c. c * (10 ^ (x.place + 111) * 10 ^ down)) (sym value) ∙ mul_assoc m (10 ^ z) (10 ^ (x.place + 111) * 10 ^ down) ∙ ap (λ t. m * t) tens
    ∙ sym (mul_assoc m (10 ^ up) (10 ^ 222)) in
    rnd-digits Round x.neg x.coef (x.place + 111) (m * 10 ^ up) (10 ^ down) least h.digits (omega arith) (ten_pos down) exact
    ∙ in_range-number x h.highest

both : (a b : Bool) → (a && b) ≡ true → (a ≡ true) × (b ≡ true)
both true b e = (refl, e)
both false b e = absurd (cc)

pub read_as : (text other : List ℕ) (x y : Result Number ℕ) → other ≡ text → x ≡ y → IsReadWhole other x → IsReadWhole text y
read_as text other x y same number h = subst (λ t. IsReadWhole t y) same (subst (IsReadWhole other) number h)

zero-shown : spelling_text (plain grammar.unsigned (48 ∷ []) None) ≡ without_spaces zero_number
unfolding shown_size
zero-shown = refl

zero-value : parts_value (parts (plain grammar.unsigned (48 ∷ []) None)) ≡ Ok zero_number
unfolding parts_value
zero-value = rnd-zero Round false 1

zero-digit : (k : ℕ) → k < 1 → is_digit (get_or (48 ∷ []) k 0) ≡ true
zero-digit zero h = refl
zero-digit (suc k) h = absurd (omega arith)

zero-back : IsReadWhole (without_spaces zero_number) (Ok zero_number)
zero-back =
    read_as _ _ _ _ zero-shown zero-value
    (plain-read grammar.unsigned (48 ∷ []) None (record { each = zero-digit }) (record { each = λ k h. absurd (omega arith) }) (omega arith))

number-shown : (x : Number) → (x.coef == 0) ≡ false → 98 ≤ x.place → x.place ≤ 111
    → spelling_text (plain (sign_for x.neg) (take (x.place - 98) (digit_bytes 13 x.coef)) (fraction_for (without_last_zeros (drop (x.place - 98) (digit_bytes 13 x.coef))))) ≡ without_spaces x
unfolding with_point
number-shown x some low high =
    let w : List ℕ = take (x.place - 98) (digit_bytes 13 x.coef) in
    ap₂ (λ s b. s ++ (w ++ b)) (sign_for-text x.neg) (fraction_for-text (without_last_zeros (drop (x.place - 98) (digit_bytes 13 x.coef))))
    ∙ ap (λ t. (if x.neg then 45 ∷ [] else []) ++ t) (shown_size-fixed x some low high)

number-value : (x : Number) (w t : List ℕ) → rnd Round x.neg (digits_value (w ++ t) * 10 ^ 0) (10 ^ (length t + 0)) ≡ Ok x
    → parts_value (parts (plain (sign_for x.neg) w (fraction_for t))) ≡ Ok x
unfolding parts_value
number-value x w t h =
    ap (λ s. rnd Round s (digits_value (w ++ fraction_digits (fraction_for t)) * 10 ^ 0) (10 ^ (length (fraction_digits (fraction_for t)) + 0))) (sign_for-minus x.neg)
    ∙ ap (λ u. rnd Round x.neg (digits_value (w ++ u) * 10 ^ 0) (10 ^ (length u + 0))) (fraction_for-digits t) ∙ h

number-back : (x : Number) → IsNumber x → (x.coef == 0) ≡ false → 98 ≤ x.place → x.place ≤ 111 → IsReadWhole (without_spaces x) (Ok x)
number-back x h some low high =
    let n : ℕ = x.place - 98 in
    let ds : List ℕ = digit_bytes 13 x.coef in
    let w : List ℕ = take n ds in
    let t : List ℕ = without_last_zeros (drop n ds) in
    let z : ℕ = suffix_len (λ d. d == 48) (drop n ds) in
    let few : n ≤ 13 = omega arith in
    let least : 1000000000000 ≤ x.coef = thirteen x h (λ e. let zero_there : (x.coef == 0) ≡ true = eq-eqb x.coef 0 e in absurd (cc (some, zero_there))) in
    let value : digits_value (w ++ t) * 10 ^ z ≡ x.coef = shown-digits n x.coef few h.digits in
    let count : length t + z ≡ 13 - n = shown-count n x.coef few in
    let place : length t + 0 + z + x.place ≡ 111 + 0 = omega arith in
    let fraction : fraction_digits (fraction_for t) ≡ t = fraction_for-digits t in
    let rest_digits : AreDigits t = take_digits _ (drop n ds) (drop_digits n ds (are_digits 13 x.coef)) in
    let long : length w ≡ n = length-take-le n ds (omega (arith, digit_bytes-length 13 x.coef)) in
    let any : 0 < length w + length (fraction_digits (fraction_for t)) = rw fraction (omega (arith, long, shown-some n x.coef few h.digits least)) in
    read_as _ _ _ _ (number-shown x some low high) (number-value x w t (shown-number x (digits_value (w ++ t)) z 0 (length t + 0) least h value place))
    (plain-read (sign_for x.neg) w (fraction_for t) (take_digits n ds (are_digits 13 x.coef)) (subst AreDigits (sym fraction) rest_digits) any)

-- Every number that is shown without an exponent is read back.
pub plain-back : (x : Number) → IsNumber x → is_plain x ≡ true → IsReadWhole (without_spaces x) (Ok x)
plain-back x h plainly =
    elim (cases_Bool (x.coef == 0)) [
      | inl none ↦
          let nought : x ≡ zero_number = h.spelling (let e : x.coef ≡ 0 = eqb-true x.coef 0 none in omega arith) in
          subst (λ y. IsReadWhole (without_spaces y) (Ok y)) (sym nought) zero-back
      | inr some ↦
          let range = rw some at plainly in
          let sides = both (nat_le 98 x.place) (nat_le x.place 111) range in
          number-back x h some (leb-true 98 x.place sides.0) (leb-true x.place 111 sides.1)
    ]

pub printed-spaces : (x : Number) → printed x ≡ (if x.neg then [] else 32 ∷ []) ++ without_spaces x ++ (32 ∷ [])
unfolding printed
printed-spaces x = elim (cases_Bool x.neg) [ inl minus ↦ rw minus refl | inr plus ↦ rw plus refl ]
