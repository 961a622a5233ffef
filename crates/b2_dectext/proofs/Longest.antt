-- No spelling at the front of a text is longer than what is read.
use Rattle.std.proofs.Common.{Result, Bool, ◌≡◌, ℕ, suc, ◌+◌, ◌<◌, ◌≤◌, ◌==◌, min, true, false, List, [], ◌∷◌, ◌++◌, length, take, drop, Option, Some, None, refl, sym, ap, ap₂, ◌∙◌, subst, arith, ne_eqb, append_assoc, length-append}
use Rattle.std.proofs.Math.Seq.{drop-append_seam, take-append_seam}
use Rattle.std.proofs.lemmas.Bool.{eqb-false}
use Rattle.std.proofs.lemmas.List.{append-nil, length-take-le, take-append-drop}
use Rattle.b2_base.specs.Byte as byte
use Rattle.b2_base.specs.Lexical.{is_digit, digits_width, first}
use Rattle.b2_dec.specs.Number.{Number}
use Rattle.b2_dectext.specs.Digits.{AreDigits}
use Rattle.b2_dectext.specs.NumberText.{Parts, sign_len, unsigned, whole_part, fraction_part, point_len, mantissa_len, exponent_digits, exponent_len, number_len, number_value, parts_of, parts_value}
use Rattle.b2_dectext.specs.Grammar.{Sign, Spelling, sign_text, point_text, exponent_text, spelling_text, fraction_digits, parts, is_minus, IsSpelling, IsNumberText, IsLongest}
use Rattle.b2_dectext.specs.Grammar as grammar
use Rattle.b2_dectext.proofs.Lengths.{digits_width-le-length}
use Rattle.b2_dectext.proofs.Spellings.{read-number}

digits_rest : (d : ℕ) (ds : List ℕ) → AreDigits (d ∷ ds) → AreDigits ds
digits_rest d ds h = record { each = λ k below. h.each (suc k) (omega arith) }

first_digit : (d : ℕ) (ds : List ℕ) → AreDigits (d ∷ ds) → is_digit d ≡ true
first_digit d ds h = h.each 0 (omega arith)

-- digits at the front are counted first
digits_width-append : (ds t : List ℕ) → AreDigits ds → digits_width (ds ++ t) ≡ length ds + digits_width t
digits_width-append [] t h = omega arith
digits_width-append (d ∷ ds) t h =
    let more : digits_width (ds ++ t) ≡ length ds + digits_width t = digits_width-append ds t (digits_rest d ds h) in
    rw (first_digit d ds h) (omega arith)

not_sign : (b d : ℕ) → is_digit b ≡ false → is_digit d ≡ true → (d == b) ≡ false
not_sign b d other digit = ne_eqb d b (λ e. let both : is_digit b ≡ true = subst (λ x. is_digit x ≡ true) e digit in absurd (cc (other, both)))

-- a text that begins with a digit or a point
pub record IsBody (text : List ℕ) : Type 0 where
  pub plus : (first text == byte.plus) ≡ false
  pub minus : (first text == byte.minus) ≡ false

digit_body : (d : ℕ) (t : List ℕ) → is_digit d ≡ true → IsBody (d ∷ t)
digit_body d t h = record { plus = not_sign 43 d refl h; minus = not_sign 45 d refl h }

sign-skipped : (g : Sign) (t : List ℕ) → IsBody t → sign_len (sign_text g ++ t) ≡ length (sign_text g)
unfolding sign_len
sign-skipped grammar.unsigned t h = rw (h.plus, h.minus) refl
sign-skipped grammar.plus t h = refl
sign-skipped grammar.minus t h = refl

unsigned-skipped : (g : Sign) (t : List ℕ) → IsBody t → unsigned (sign_text g ++ t) ≡ t
unsigned-skipped g t h = ap (λ n. drop n (sign_text g ++ t)) (sign-skipped g t h) ∙ drop-append_seam (sign_text g) t

-- an exponent is read whole
exponent-read : (g : Sign) (ds t : List ℕ) → AreDigits ds → length ds ≤ 2 → length (exponent_text g ds) ≤ exponent_len (exponent_text g ds ++ t)
unfolding exponent_len exponent_digits
exponent-read g [] t h few = omega arith
exponent-read g (d ∷ ds) t h few =
    let all : List ℕ = d ∷ ds in
    let text : List ℕ = (sign_text g ++ all) ++ t in
    let body : IsBody (all ++ t) = digit_body d (ds ++ t) (first_digit d ds h) in
    let apart : text ≡ sign_text g ++ (all ++ t) = append_assoc (sign_text g) all t in
    let skipped : sign_len text ≡ length (sign_text g) = ap sign_len apart ∙ sign-skipped g (all ++ t) body in
    let rest : unsigned text ≡ all ++ t = ap unsigned apart ∙ unsigned-skipped g (all ++ t) body in
    let count : digits_width (all ++ t) ≡ length all + digits_width t = digits_width-append all t h in
    let within : digits_width (all ++ t) ≤ length (all ++ t) = digits_width-le-length (all ++ t) in
    let found : length (take (min (digits_width (unsigned text)) 2) (unsigned text)) ≡ min (digits_width (all ++ t)) 2 =
    ap (λ u. length (take (min (digits_width u) 2) u)) rest ∙ length-take-le (min (digits_width (all ++ t)) 2) (all ++ t) (omega arith) in
    let some : (length (take (min (digits_width (unsigned text)) 2) (unsigned text)) == 0) ≡ false = ne_eqb _ 0 (λ e. absurd (omega arith)) in
    rw some (omega (arith, length-append (sign_text g) all))

mantissa-is : (body : List ℕ) → 0 < digits_width body + length (fraction_part (drop (digits_width body) body))
    → mantissa_len body ≡ digits_width body + point_len (drop (digits_width body) body)
unfolding mantissa_len
mantissa-is body some =
    let other : (digits_width body + length (fraction_part (drop (digits_width body) body)) == 0) ≡ false = ne_eqb _ 0 (λ e. absurd (omega arith)) in
    rw other refl

fraction-count : (t : List ℕ) → length (fraction_part (46 ∷ t)) ≡ digits_width t
unfolding fraction_part
fraction-count t = length-take-le (digits_width t) t (digits_width-le-length t)

fraction-none : (t : List ℕ) → (first t == byte.point) ≡ false → fraction_part t ≡ []
unfolding fraction_part
fraction-none t none = rw none refl

point-none : (t : List ℕ) → (first t == byte.point) ≡ false → point_len t ≡ 0
point-none t none = rw none refl

-- where a point stands after the digits
record IsPointed (body : List ℕ) (n fraction : ℕ) : Type 0 where
  digits : digits_width body ≡ n
  count : length (fraction_part (drop (digits_width body) body)) ≡ fraction
  point : point_len (drop (digits_width body) body) ≡ 1 + fraction

pointed : (w fs r : List ℕ) → AreDigits w → AreDigits fs → IsPointed (w ++ (46 ∷ (fs ++ r))) (length w) (length fs + digits_width r)
pointed w fs r hw hf =
    let t : List ℕ = 46 ∷ (fs ++ r) in
    let stop : digits_width t ≡ 0 = refl in
    let n : digits_width (w ++ t) ≡ length w = omega (arith, digits_width-append w t hw, stop) in
    let here : drop (digits_width (w ++ t)) (w ++ t) ≡ t = ap (λ k. drop k (w ++ t)) n ∙ drop-append_seam w t in
    let count : length (fraction_part t) ≡ length fs + digits_width r = fraction-count (fs ++ r) ∙ digits_width-append fs r hf in
    record {
      digits = n;
      count = ap (λ u. length (fraction_part u)) here ∙ count;
      point = ap point_len here ∙ ap (λ k. 1 + k) count;
    }

-- at least as many bytes are read as are spelled before the exponent
mantissa-least : (w r : List ℕ) (f : Option (List ℕ)) → AreDigits w → AreDigits (fraction_digits f) → 0 < length w + length (fraction_digits f)
    → length w + length (point_text f) ≤ mantissa_len (w ++ (point_text f ++ r))
mantissa-least w r None hw hf some =
    let n : digits_width (w ++ r) ≡ length w + digits_width r = digits_width-append w r hw in
    let m = mantissa-is (w ++ r) (omega arith) in omega arith
mantissa-least w r (Some fs) hw hf some =
    let p = pointed w fs r hw hf in
    let m = mantissa-is (w ++ (46 ∷ (fs ++ r))) (omega (arith, p.digits, p.count)) in omega (arith, p.digits, p.point, m)

-- and exactly as many where no digit and no point follows
mantissa-exact : (w r : List ℕ) (f : Option (List ℕ)) → AreDigits w → AreDigits (fraction_digits f) → 0 < length w + length (fraction_digits f)
    → digits_width r ≡ 0 → (first r == byte.point) ≡ false → mantissa_len (w ++ (point_text f ++ r)) ≡ length w + length (point_text f)
mantissa-exact w r None hw hf some stop none =
    let n : digits_width (w ++ r) ≡ length w = omega (arith, digits_width-append w r hw) in
    let here : drop (digits_width (w ++ r)) (w ++ r) ≡ r = ap (λ k. drop k (w ++ r)) n ∙ drop-append_seam w r in
    let last : point_len (drop (digits_width (w ++ r)) (w ++ r)) ≡ 0 = ap point_len here ∙ point-none r none in
    let m = mantissa-is (w ++ r) (omega arith) in omega (arith, n, last, m)
mantissa-exact w r (Some fs) hw hf some stop none =
    let p = pointed w fs r hw hf in
    let m = mantissa-is (w ++ (46 ∷ (fs ++ r))) (omega (arith, p.digits, p.count)) in omega (arith, p.digits, p.point, m)

mantissa-skipped : (w r : List ℕ) (f : Option (List ℕ)) → drop (length w + length (point_text f)) (w ++ (point_text f ++ r)) ≡ r
mantissa-skipped w r f =
    ap₂ drop (sym (length-append w (point_text f))) (sym (append_assoc w (point_text f) r)) ∙ drop-append_seam (w ++ point_text f) r

-- as many bytes are read as are spelled after the sign
body-least : (w : List ℕ) (f : Option (List ℕ)) (g : Sign) (ds t : List ℕ) → AreDigits w → AreDigits (fraction_digits f) → 0 < length w + length (fraction_digits f)
    → AreDigits ds → length ds ≤ 2
    → let body = w ++ (point_text f ++ (exponent_text g ds ++ t)) in
    length w + length (point_text f) + length (exponent_text g ds) ≤ mantissa_len body + exponent_len (drop (mantissa_len body) body)
body-least w f g [] t hw hf some hd few = omega (arith, mantissa-least w t f hw hf some)
body-least w f g (d ∷ ds) t hw hf some hd few =
    let r : List ℕ = exponent_text g (d ∷ ds) ++ t in
    let body : List ℕ = w ++ (point_text f ++ r) in
    let m : mantissa_len body ≡ length w + length (point_text f) = mantissa-exact w r f hw hf some refl refl in
    let here : drop (mantissa_len body) body ≡ r = ap (λ k. drop k body) m ∙ mantissa-skipped w r f in
    let e : length (exponent_text g (d ∷ ds)) ≤ exponent_len r = exponent-read g (d ∷ ds) t hd few in
    let same : exponent_len (drop (mantissa_len body) body) ≡ exponent_len r = ap exponent_len here in
    omega (arith, m, e, same)

body-begins : (w : List ℕ) (f : Option (List ℕ)) (r : List ℕ) → AreDigits w → 0 < length w + length (fraction_digits f) → IsBody (w ++ (point_text f ++ r))
body-begins [] None r hw some = absurd (omega arith)
body-begins [] (Some fs) r hw some = record { plus = refl; minus = refl }
body-begins (d ∷ ds) f r hw some = digit_body d (ds ++ (point_text f ++ r)) (first_digit d ds hw)

apart : (a b c d t : List ℕ) → (a ++ (b ++ (c ++ d))) ++ t ≡ a ++ (b ++ (c ++ (d ++ t)))
apart a b c d t =
    append_assoc a (b ++ (c ++ d)) t ∙ ap (λ u. a ++ u) (append_assoc b (c ++ d) t ∙ ap (λ u. b ++ u) (append_assoc c d t))

pub spelled-length : (a b c d : List ℕ) → length (a ++ (b ++ (c ++ d))) ≡ length a + (length b + length c + length d)
spelled-length a b c d = omega (arith, length-append a (b ++ (c ++ d)), length-append b (c ++ d), length-append c d)

pub some_text : (w : List ℕ) (f : Option (List ℕ)) → 0 < length w + length (fraction_digits f) → length w + length (point_text f) ≤ 0 → ⊥
some_text w None some none = omega arith
some_text w (Some fs) some none = omega arith

spelled-least : (s : Spelling) (t : List ℕ) → IsSpelling s → length (spelling_text s) ≤ number_len (spelling_text s ++ t)
unfolding number_len
spelled-least s t h =
    let text : List ℕ = spelling_text s ++ t in
    let body : List ℕ = s.whole ++ (point_text s.fraction ++ (exponent_text s.exponent_sign s.exponent ++ t)) in
    let begun : IsBody body = body-begins s.whole s.fraction (exponent_text s.exponent_sign s.exponent ++ t) h.whole h.some in
    let split : text ≡ sign_text s.sign ++ body = apart (sign_text s.sign) s.whole (point_text s.fraction) (exponent_text s.exponent_sign s.exponent) t in
    let sign : sign_len text ≡ length (sign_text s.sign) = ap sign_len split ∙ sign-skipped s.sign body begun in
    let rest : unsigned text ≡ body = ap unsigned split ∙ unsigned-skipped s.sign body begun in
    let least = mantissa-least s.whole (exponent_text s.exponent_sign s.exponent ++ t) s.fraction h.whole h.fraction h.some in
    let all = body-least s.whole s.fraction s.exponent_sign s.exponent t h.whole h.fraction h.some h.exponent h.few in
    let there : (mantissa_len (unsigned text) == 0) ≡ false = ne_eqb _ 0 (λ e. let none : mantissa_len body ≡ 0 = ap mantissa_len (sym rest) ∙ e in absurd (some_text s.whole s.fraction h.some (omega (arith, least, none)))) in
    let count : length (spelling_text s) ≡ length (sign_text s.sign) + (length s.whole + length (point_text s.fraction) + length (exponent_text s.exponent_sign s.exponent)) =
    spelled-length (sign_text s.sign) s.whole (point_text s.fraction) (exponent_text s.exponent_sign s.exponent) in
    let read : mantissa_len (unsigned text) + exponent_len (drop (mantissa_len (unsigned text)) (unsigned text)) ≡ mantissa_len body + exponent_len (drop (mantissa_len body) body) =
    ap (λ u. mantissa_len u + exponent_len (drop (mantissa_len u) u)) rest in
    rw there (omega (arith, sign, all, count, read))

pub longest-read : (text : List ℕ) → IsLongest text (number_len text) (number_value text)
longest-read text = record {
  found = read-number text;
  longest = λ k other within number.
      let long : length (spelling_text number.spelling) ≡ k = ap length number.text_is ∙ length-take-le k text within in
      let whole : spelling_text number.spelling ++ drop k text ≡ text = ap (λ u. u ++ drop k text) number.text_is ∙ take-append-drop k text in
      let least = spelled-least number.spelling (drop k text) number.fine in
      let same : number_len (spelling_text number.spelling ++ drop k text) ≡ number_len text = ap number_len whole in
      omega (arith, long, least, same);
}

-- What may follow the digits: nothing, or an exponent that is read whole.
record IsEnd (r : List ℕ) : Type 0 where
  digits : digits_width r ≡ 0
  point : (first r == byte.point) ≡ false
  len : exponent_len r ≡ length r

pub record IsReadWhole (text : List ℕ) (number : Result Number ℕ) : Type 0 where
  pub len : number_len text ≡ length text
  pub some : 0 < number_len text
  pub value : number_value text ≡ number

sign-begins : (g : Sign) (t : List ℕ) → IsBody t → (first (sign_text g ++ t) == byte.minus) ≡ is_minus g
sign-begins grammar.unsigned t h = h.minus
sign-begins grammar.plus t h = refl
sign-begins grammar.minus t h = refl

whole-exact : (w r : List ℕ) (f : Option (List ℕ)) → AreDigits w → AreDigits (fraction_digits f) → digits_width r ≡ 0 → digits_width (w ++ (point_text f ++ r)) ≡ length w
whole-exact w r None hw hf stop = omega (arith, digits_width-append w r hw)
whole-exact w r (Some fs) hw hf stop = let p = pointed w fs r hw hf in p.digits

fraction-exact : (f : Option (List ℕ)) (r : List ℕ) → AreDigits (fraction_digits f) → IsEnd r → fraction_part (point_text f ++ r) ≡ fraction_digits f
unfolding fraction_part
fraction-exact None r hf end = rw end.point refl
fraction-exact (Some fs) r hf end =
    let n : digits_width (fs ++ r) ≡ length fs = omega (arith, digits_width-append fs r hf, end.digits) in
    ap (λ k. take k (fs ++ r)) n ∙ take-append_seam fs r

made : Bool → List ℕ → List ℕ → List ℕ → Parts
made neg w f rest = record { neg = neg; whole = w; fraction = f; exponent_neg = (first (drop 1 rest) == byte.minus); exponent = exponent_digits rest }

no_exponent : exponent_digits [] ≡ []
unfolding exponent_digits
no_exponent = refl

no_exponent_len : exponent_len [] ≡ 0
unfolding exponent_len exponent_digits
no_exponent_len = refl

parts-made : (text body : List ℕ) → unsigned text ≡ body
    → parts_of text ≡ made (first text == byte.minus) (whole_part body) (fraction_part (drop (digits_width body) body)) (drop (mantissa_len body) body)
unfolding parts_of made
parts-made text body same =
    ap (λ u. made (first text == byte.minus) (whole_part u) (fraction_part (drop (digits_width u) u)) (drop (mantissa_len u) u)) same

whole_part-is : (w r : List ℕ) → digits_width (w ++ r) ≡ length w → whole_part (w ++ r) ≡ w
unfolding whole_part
whole_part-is w r n = ap (λ k. take k (w ++ r)) n ∙ take-append_seam w r

-- Such a text is read whole.
whole-read : (g : Sign) (w r : List ℕ) (f : Option (List ℕ)) → AreDigits w → AreDigits (fraction_digits f) → 0 < length w + length (fraction_digits f) → IsEnd r
    → IsReadWhole (sign_text g ++ (w ++ (point_text f ++ r))) (parts_value (made (is_minus g) w (fraction_digits f) r))
unfolding number_len
whole-read g w r f hw hf some end =
    let rest : List ℕ = point_text f ++ r in
    let body : List ℕ = w ++ rest in
    let text : List ℕ = sign_text g ++ body in
    let begun : IsBody body = body-begins w f r hw some in
    let sign : sign_len text ≡ length (sign_text g) = sign-skipped g body begun in
    let same : unsigned text ≡ body = unsigned-skipped g body begun in
    let n : digits_width body ≡ length w = whole-exact w r f hw hf end.digits in
    let m : mantissa_len body ≡ length w + length (point_text f) = mantissa-exact w r f hw hf some end.digits end.point in
    let left : drop (mantissa_len body) body ≡ r = ap (λ k. drop k body) m ∙ mantissa-skipped w r f in
    let here : drop (digits_width body) body ≡ rest = ap (λ k. drop k body) n ∙ drop-append_seam w rest in
    let found : mantissa_len (unsigned text) ≡ mantissa_len body = ap mantissa_len same in
    let there : (mantissa_len (unsigned text) == 0) ≡ false = ne_eqb _ 0 (λ e. absurd (some_text w f some (omega (arith, m, found, e)))) in
    let last : exponent_len (drop (mantissa_len (unsigned text)) (unsigned text)) ≡ length r =
    ap (λ u. exponent_len (drop (mantissa_len u) u)) same ∙ ap exponent_len left ∙ end.len in
    let count : length text ≡ length (sign_text g) + (length w + length (point_text f) + length r) = spelled-length (sign_text g) w (point_text f) r in
    record {
      len = rw there (omega (arith, sign, m, found, last, count));
      some = let first : mantissa_len (unsigned text) ≡ 0 → ⊥ = eqb-false _ 0 there in rw there (omega arith);
      value = ap parts_value (
          parts-made text body same
          ∙ ap (λ b. made b (whole_part body) (fraction_part (drop (digits_width body) body)) (drop (mantissa_len body) body)) (sign-begins g body begun)
          ∙ ap (λ t. made (is_minus g) t (fraction_part (drop (digits_width body) body)) (drop (mantissa_len body) body)) (whole_part-is w rest n)
          ∙ ap (λ t. made (is_minus g) w t (drop (mantissa_len body) body)) (ap fraction_part here ∙ fraction-exact f r hf end)
          ∙ ap (made (is_minus g) w (fraction_digits f)) left);
    }

-- A spelling without an exponent is read whole.
abbrev pub plain : Sign → List ℕ → Option (List ℕ) → Spelling
plain g w f = record { sign = g; whole = w; fraction = f; exponent_sign = grammar.unsigned; exponent = [] }

made-plain : (g : Sign) (w : List ℕ) (f : Option (List ℕ)) → made (is_minus g) w (fraction_digits f) [] ≡ parts (plain g w f)
unfolding made
made-plain g w f = ap (λ e. record { neg = is_minus g; whole = w; fraction = fraction_digits f; exponent_neg = false; exponent = e }) no_exponent

no_end : IsEnd []
no_end = record { digits = refl; point = refl; len = no_exponent_len }

pub plain-read : (g : Sign) (w : List ℕ) (f : Option (List ℕ)) → AreDigits w → AreDigits (fraction_digits f) → 0 < length w + length (fraction_digits f)
    → IsReadWhole (spelling_text (plain g w f)) (parts_value (parts (plain g w f)))
plain-read g w f hw hf some =
    subst (λ p. IsReadWhole (spelling_text (plain g w f)) (parts_value p)) (made-plain g w f) (whole-read g w [] f hw hf some no_end)

-- So is one with an exponent of one or two digits.
abbrev pub with_exponent : Sign → List ℕ → List ℕ → Sign → ℕ → List ℕ → Spelling
with_exponent g w fs h d ds = record { sign = g; whole = w; fraction = Some fs; exponent_sign = h; exponent = d ∷ ds }

all-taken : (xs : List ℕ) → take (length xs) xs ≡ xs
all-taken xs = ap (take (length xs)) (sym (append-nil xs)) ∙ take-append_seam xs []

exponent-digits-exact : (h : Sign) (d : ℕ) (ds : List ℕ) → AreDigits (d ∷ ds) → length (d ∷ ds) ≤ 2 → exponent_digits (exponent_text h (d ∷ ds)) ≡ d ∷ ds
unfolding exponent_digits
exponent-digits-exact h d ds digits few =
    let all : List ℕ = d ∷ ds in
    let rest : unsigned (sign_text h ++ all) ≡ all = unsigned-skipped h all (digit_body d ds (first_digit d ds digits)) in
    let counted : digits_width (all ++ []) ≡ length all = omega (arith, digits_width-append all [] digits) in
    let width : digits_width all ≡ length all = ap digits_width (sym (append-nil all)) ∙ counted in
    let count : min (digits_width all) 2 ≡ length all = omega (arith, width, few) in
    ap (λ u. take (min (digits_width u) 2) u) rest ∙ ap (λ k. take k all) count ∙ all-taken all

exponent-len-exact : (h : Sign) (d : ℕ) (ds : List ℕ) → AreDigits (d ∷ ds) → length (d ∷ ds) ≤ 2 → exponent_len (exponent_text h (d ∷ ds)) ≡ length (exponent_text h (d ∷ ds))
unfolding exponent_len
exponent-len-exact h d ds digits few =
    let all : List ℕ = d ∷ ds in
    let found : length (exponent_digits (exponent_text h all)) ≡ length all = ap length (exponent-digits-exact h d ds digits few) in
    let sign : sign_len (sign_text h ++ all) ≡ length (sign_text h) = sign-skipped h all (digit_body d ds (first_digit d ds digits)) in
    let some : (length (exponent_digits (exponent_text h all)) == 0) ≡ false = ne_eqb _ 0 (λ e. absurd (omega (arith, e, found))) in
    rw some (omega (arith, sign, found, length-append (sign_text h) all))

exponent_end : (h : Sign) (d : ℕ) (ds : List ℕ) → AreDigits (d ∷ ds) → length (d ∷ ds) ≤ 2 → IsEnd (exponent_text h (d ∷ ds))
exponent_end h d ds digits few = record { digits = refl; point = refl; len = exponent-len-exact h d ds digits few }

made-with_exponent : (g : Sign) (w fs : List ℕ) (h : Sign) (d : ℕ) (ds : List ℕ) → AreDigits (d ∷ ds) → length (d ∷ ds) ≤ 2
    → made (is_minus g) w fs (exponent_text h (d ∷ ds)) ≡ parts (with_exponent g w fs h d ds)
unfolding made
made-with_exponent g w fs h d ds digits few =
    let body : IsBody (d ∷ ds) = digit_body d ds (first_digit d ds digits) in
    ap₂ (λ s e. record { neg = is_minus g; whole = w; fraction = fs; exponent_neg = s; exponent = e }) (sign-begins h (d ∷ ds) body) (exponent-digits-exact h d ds digits few)

pub with_exponent-read : (g : Sign) (w fs : List ℕ) (h : Sign) (d : ℕ) (ds : List ℕ) → AreDigits w → AreDigits fs → 0 < length w + length fs
    → AreDigits (d ∷ ds) → length (d ∷ ds) ≤ 2 → IsReadWhole (spelling_text (with_exponent g w fs h d ds)) (parts_value (parts (with_exponent g w fs h d ds)))
with_exponent-read g w fs h d ds hw hf some digits few =
    subst (λ p. IsReadWhole (spelling_text (with_exponent g w fs h d ds)) (parts_value p)) (made-with_exponent g w fs h d ds digits few)
    (whole-read g w (exponent_text h (d ∷ ds)) (Some fs) hw hf some (exponent_end h d ds digits few))
