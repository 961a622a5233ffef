-- What is read at the front of a text is spelled as the grammar says.
use Rattle.std.proofs.Common.{◌≡◌, ℕ, zero, suc, ◌+◌, ◌<◌, ◌≤◌, ◌==◌, min, false, if◌then◌else◌, List, [], ◌∷◌, ◌++◌, length, take, drop, Option, Some, None, refl, sym, ap, ap₂, ◌∙◌, subst, arith, eqb-true, ne_eqb, inl, inr, append_assoc, one-add}
use Rattle.std.proofs.Math.Seq.{take-add}
use Rattle.std.proofs.lemmas.Bool.{cases_Bool, eqb-false}
use Rattle.std.proofs.lemmas.List.{length-take, length-take-le, drop-drop}
use Rattle.b2_base.specs.Byte as byte
use Rattle.b2_base.specs.Lexical.{digits_width, first}
use Rattle.b2_dectext.specs.Digits.{AreDigits}
use Rattle.b2_dectext.specs.NumberText.{sign_len, unsigned, whole_part, fraction_part, point_len, mantissa_len, exponent_digits, exponent_len, number_len, parts_of, parts_value, number_value}
use Rattle.b2_dectext.specs.Grammar.{Sign, Spelling, sign_text, point_text, exponent_text, spelling_text, fraction_digits, parts, IsSpelling, IsNumberText, is_minus}
use Rattle.b2_dectext.specs.Grammar as grammar
use Rattle.b2_dectext.proofs.Lengths.{digits_at_front, digits_width-le-length}

-- the sign, the point with its digits, and the sign of the exponent at the front of a text
abbrev pub sign_of : List ℕ → Sign
sign_of text = if (first text == byte.plus) then grammar.plus else (if (first text == byte.minus) then grammar.minus else grammar.unsigned)

abbrev pub point_of : List ℕ → Option (List ℕ)
point_of text = if (first text == byte.point) then Some (fraction_part text) else None

pub sign-front : (text : List ℕ) → take (sign_len text) text ≡ sign_text (sign_of text)
unfolding sign_len
sign-front [] = refl
sign-front (c ∷ cs) =
    elim (cases_Bool (c == 43)) [
      | inl plus ↦ rw plus (ap (λ b. b ∷ []) (eqb-true c 43 plus))
      | inr other ↦ rw other (elim (cases_Bool (c == 45)) [
        | inl minus ↦ rw minus (ap (λ b. b ∷ []) (eqb-true c 45 minus))
        | inr none ↦ rw none refl
      ])
    ]

pub sign-minus : (text : List ℕ) → is_minus (sign_of text) ≡ (first text == byte.minus)
sign-minus [] = refl
sign-minus (c ∷ cs) =
    elim (cases_Bool (c == 43)) [
      | inl plus ↦ rw (plus, eqb-true c 43 plus) refl
      | inr other ↦ rw other (elim (cases_Bool (c == 45)) [ inl minus ↦ rw minus refl | inr none ↦ rw none refl ])
    ]

take_next : (n : ℕ) (c : ℕ) (cs : List ℕ) → take (1 + n) (c ∷ cs) ≡ c ∷ take n cs
take_next n c cs = ap (λ k. take k (c ∷ cs)) (one-add n)

whole-length : (text : List ℕ) → length (take (digits_width text) text) ≡ digits_width text
whole-length text = length-take-le (digits_width text) text (digits_width-le-length text)

pub point-front : (text : List ℕ) → take (point_len text) text ≡ point_text (point_of text)
unfolding fraction_part
point-front [] = refl
point-front (c ∷ cs) =
    elim (cases_Bool (c == 46)) [
      | inl point ↦ rw point (take_next (length (take (digits_width cs) cs)) c cs
          ∙ ap₂ (λ b n. b ∷ take n cs) (eqb-true c 46 point) (whole-length cs))
      | inr none ↦ rw none refl
    ]

pub fraction_digits-point : (text : List ℕ) → fraction_digits (point_of text) ≡ fraction_part text
unfolding fraction_part
fraction_digits-point text = elim (cases_Bool (first text == byte.point)) [ inl point ↦ rw point refl | inr none ↦ rw none refl ]

pub fraction-digits : (text : List ℕ) → AreDigits (fraction_part text)
unfolding fraction_part
fraction-digits text =
    elim (cases_Bool (first text == byte.point)) [
      | inl point ↦ rw point (digits_at_front (drop 1 text) (digits_width (drop 1 text)) (omega arith))
      | inr none ↦ rw none (record { each = λ k h. absurd (omega arith) })
    ]

front_again : (n : ℕ) (xs : List ℕ) → take (length (take n xs)) xs ≡ take n xs
front_again zero xs = refl
front_again (suc n) [] = refl
front_again (suc n) (x ∷ xs) = ap (λ t. x ∷ t) (front_again n xs)

exponent-written : (cs ds : List ℕ) (c : ℕ) → c ≡ 69 → take (length ds) (unsigned cs) ≡ ds
    → take (if length ds == 0 then 0 else 1 + sign_len cs + length ds) (c ∷ cs) ≡ exponent_text (sign_of cs) ds
exponent-written cs [] c e here = refl
exponent-written cs (d ∷ ds) c e here =
    let n : ℕ = length (d ∷ ds) in
    let some : (n == 0) ≡ false = ne_eqb n 0 (λ none. absurd (omega arith)) in
    let order : 1 + sign_len cs + n ≡ 1 + (sign_len cs + n) = omega arith in
    rw some (
    ap (λ k. take k (c ∷ cs)) order ∙ take_next (sign_len cs + n) c cs
    ∙ ap₂ (λ b t. b ∷ t) e (take-add (sign_len cs) n cs ∙ ap₂ (λ s t. s ++ t) (sign-front cs) here))

pub exponent-front : (text : List ℕ) → take (exponent_len text) text ≡ exponent_text (sign_of (drop 1 text)) (exponent_digits text)
unfolding exponent_len exponent_digits
exponent-front [] = refl
exponent-front (c ∷ cs) =
    elim (cases_Bool (c == 69)) [
      | inl here ↦ rw here (exponent-written cs (take (min (digits_width (unsigned cs)) 2) (unsigned cs)) c (eqb-true c 69 here) (front_again (min (digits_width (unsigned cs)) 2) (unsigned cs)))
      | inr none ↦ rw none refl
    ]

pub exponent-digits : (text : List ℕ) → AreDigits (exponent_digits text)
unfolding exponent_digits
exponent-digits text =
    elim (cases_Bool (first text == byte.upper_e)) [
      | inl here ↦ rw here (digits_at_front (unsigned (drop 1 text)) (min (digits_width (unsigned (drop 1 text))) 2) (omega arith))
      | inr none ↦ rw none (record { each = λ k h. absurd (omega arith) })
    ]

pub exponent-few : (text : List ℕ) → length (exponent_digits text) ≤ 2
unfolding exponent_digits
exponent-few text =
    elim (cases_Bool (first text == byte.upper_e)) [
      | inl here ↦ rw here (omega (arith, length-take (min (digits_width (unsigned (drop 1 text))) 2) (unsigned (drop 1 text))))
      | inr none ↦ rw none (omega arith)
    ]

-- digits with a point or without one
pub mantissa-front : (body : List ℕ) → (mantissa_len body ≡ 0 → ⊥)
    → take (mantissa_len body) body ≡ whole_part body ++ point_text (point_of (drop (digits_width body) body))
unfolding mantissa_len whole_part
mantissa-front body some =
    elim (cases_Bool (digits_width body + length (fraction_part (drop (digits_width body) body)) == 0)) [
      | inl none ↦ absurd (some (rw none refl))
      | inr other ↦ rw other (take-add (digits_width body) (point_len (drop (digits_width body) body)) body
          ∙ ap (λ t. take (digits_width body) body ++ t) (point-front (drop (digits_width body) body)))
    ]

pub mantissa-some : (body : List ℕ) → (mantissa_len body ≡ 0 → ⊥) → 0 < digits_width body + length (fraction_part (drop (digits_width body) body))
unfolding mantissa_len
mantissa-some body some =
    elim (cases_Bool (digits_width body + length (fraction_part (drop (digits_width body) body)) == 0)) [
      | inl none ↦ absurd (some (rw none refl))
      | inr other ↦ omega (arith, eqb-false _ _ other)
    ]

-- the spelling that is read
abbrev pub read_spelling : List ℕ → Spelling
read_spelling text =
    let body = unsigned text in
    let rest = drop (mantissa_len body) body in
    record {
      sign = sign_of text;
      whole = whole_part body;
      fraction = point_of (drop (digits_width body) body);
      exponent_sign = sign_of (drop 1 rest);
      exponent = exponent_digits rest;
    }

pub whole-digits : (body : List ℕ) → AreDigits (whole_part body)
unfolding whole_part
whole-digits body = digits_at_front body (digits_width body) (omega arith)

pub whole-count : (body : List ℕ) → length (whole_part body) ≡ digits_width body
unfolding whole_part
whole-count body = whole-length body

pub read-fine : (text : List ℕ) → (mantissa_len (unsigned text) ≡ 0 → ⊥) → IsSpelling (read_spelling text)
read-fine text some =
    let body : List ℕ = unsigned text in
    let after_whole : List ℕ = drop (digits_width body) body in
    let rest : List ℕ = drop (mantissa_len body) body in
    record {
      whole = whole-digits body;
      fraction = subst AreDigits (sym (fraction_digits-point after_whole)) (fraction-digits after_whole);
      some = rw (fraction_digits-point after_whole, whole-count body) (mantissa-some body some);
      exponent = exponent-digits rest;
      few = exponent-few rest;
    }

-- The parts that are read are those of that spelling.
pub read-parts : (text : List ℕ) → parts (read_spelling text) ≡ parts_of text
unfolding parts_of
read-parts text =
    let body : List ℕ = unsigned text in
    let rest : List ℕ = drop (mantissa_len body) body in
    rw (sign-minus text, fraction_digits-point (drop (digits_width body) body), sign-minus (drop 1 rest)) refl

pub read-number : (text : List ℕ) → 0 < number_len text → IsNumberText (take (number_len text) text) (number_value text)
unfolding number_len
read-number text some =
    let body : List ℕ = unsigned text in
    let m : ℕ = mantissa_len body in
    let rest : List ℕ = drop m body in
    elim (cases_Bool (m == 0)) [
      | inl none ↦ let nothing : 0 < 0 = rw none at some in absurd (omega arith)
      | inr other ↦
          let there : m ≡ 0 → ⊥ = eqb-false m 0 other in
          let front : take (sign_len text + m) text ≡ sign_text (sign_of text) ++ (whole_part body ++ point_text (point_of (drop (digits_width body) body))) =
          take-add (sign_len text) m text ∙ ap₂ (λ s t. s ++ t) (sign-front text) (mantissa-front body there) in
          let back : take (exponent_len rest) (drop (sign_len text + m) text) ≡ exponent_text (sign_of (drop 1 rest)) (exponent_digits rest) =
          ap (take (exponent_len rest)) (sym (drop-drop m (sign_len text) text)) ∙ exponent-front rest in
          let all : take (sign_len text + m + exponent_len rest) text ≡ spelling_text (read_spelling text) =
          take-add (sign_len text + m) (exponent_len rest) text ∙ ap₂ (λ s t. s ++ t) front back
          ∙ append_assoc (sign_text (sign_of text)) _ _
          ∙ ap (λ t. sign_text (sign_of text) ++ t) (append_assoc (whole_part body) _ _) in
          rw other (record { spelling = read_spelling text; fine = read-fine text there; text_is = sym all; value = ap parts_value (read-parts text) })
    ]
