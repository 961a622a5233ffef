-- A number with spaces around it: what is counted is the longest of that kind.
use Rattle.std.proofs.Common.{◌≡◌, ℕ, zero, suc, ◌+◌, ◌-◌, ◌<◌, ◌≤◌, ◌==◌, true, false, List, [], ◌∷◌, ◌++◌, length, take, drop, get_or, Option, Some, None, Result, refl, sym, ap, ap₂, ◌∙◌, subst, arith, eqb-true, ne_eqb, eq-eqb, append_assoc, length-append, inl, inr}
use Rattle.std.proofs.Math.ListN.{get_or-append}
use Rattle.std.proofs.Math.Seq.{take-add, drop-append_seam, take-append_seam, get_or-append_seam, get_or-append_right}
use Rattle.std.proofs.lemmas.Bool.{cases_Bool, cases_lt, eqb-false}
use Rattle.std.proofs.lemmas.List.{length-take, length-take-le, drop-drop, get_or-take, take-append-drop}
use Rattle.std.proofs.lemmas.List.Sums.{prefix_len_passes}
use Rattle.b2_base.specs.Lexical.{is_digit}
use Rattle.b2_dec.specs.Number.{Number}
use Rattle.b2_dectext.specs.Digits.{AreDigits}
use Rattle.b2_dectext.specs.NumberText.{number_len, number_value, spaces_len, spaced_number_len}
use Rattle.b2_dectext.specs.Grammar.{Sign, Spelling, sign_text, point_text, exponent_text, spelling_text, fraction_digits, IsSpelling, IsNumberText, IsLongest, AreSpaces, IsSpacedNumber, IsLongestSpaced}
use Rattle.b2_dectext.specs.Grammar as grammar
use Rattle.b2_dectext.proofs.Longest.{longest-read, spelled-length, some_text}

record IsSpaceless (text : List ℕ) : Type 0 where
  each : (k : ℕ) → k < length text → get_or text k 0 ≡ 32 → ⊥

spaceless-append : (a b : List ℕ) → IsSpaceless a → IsSpaceless b → IsSpaceless (a ++ b)
spaceless-append a b ha hb = record {
  each = λ k below e.
      elim (cases_lt k (length a)) [
        | inl left ↦ ha.each k left (sym (get_or-append a b 0 k left) ∙ e)
        | inr right ↦ hb.each (k - length a) (omega (arith, length-append a b)) (sym (get_or-append_right a b k 0 right) ∙ e)
      ];
}

spaceless-none : IsSpaceless []
spaceless-none = record { each = λ k below e. absurd (omega arith) }

one_at : (b k : ℕ) → k < 1 → get_or (b ∷ []) k 0 ≡ b
one_at b zero below = refl
one_at b (suc k) below = absurd (omega arith)

spaceless-one : (b : ℕ) → (b ≡ 32 → ⊥) → IsSpaceless (b ∷ [])
spaceless-one b other = record { each = λ k below e. other (sym (one_at b k (omega arith)) ∙ e) }

spaceless-digits : (ds : List ℕ) → AreDigits ds → IsSpaceless ds
spaceless-digits ds h = record {
  each = λ k below e. let digit : is_digit 32 ≡ true = subst (λ b. is_digit b ≡ true) e (h.each k below) in absurd (cc digit);
}

spaceless-sign : (g : Sign) → IsSpaceless (sign_text g)
spaceless-sign grammar.unsigned = spaceless-none
spaceless-sign grammar.plus = spaceless-one 43 (λ e. omega arith)
spaceless-sign grammar.minus = spaceless-one 45 (λ e. omega arith)

spaceless-point : (f : Option (List ℕ)) → AreDigits (fraction_digits f) → IsSpaceless (point_text f)
spaceless-point None h = spaceless-none
spaceless-point (Some ds) h = spaceless-append (46 ∷ []) ds (spaceless-one 46 (λ e. omega arith)) (spaceless-digits ds h)

spaceless-exponent : (g : Sign) (ds : List ℕ) → AreDigits ds → IsSpaceless (exponent_text g ds)
spaceless-exponent g [] h = spaceless-none
spaceless-exponent g (d ∷ ds) h =
    spaceless-append (69 ∷ []) (sign_text g ++ d ∷ ds) (spaceless-one 69 (λ e. omega arith))
    (spaceless-append (sign_text g) (d ∷ ds) (spaceless-sign g) (spaceless-digits (d ∷ ds) h))

spaceless-number : (text : List ℕ) (x : Result Number ℕ) → IsNumberText text x → IsSpaceless text
spaceless-number text x h =
    let s : Spelling = h.spelling in
    subst IsSpaceless h.text_is (
    spaceless-append _ _ (spaceless-sign s.sign) (spaceless-append _ _ (spaceless-digits s.whole h.fine.whole)
    (spaceless-append _ _ (spaceless-point s.fraction h.fine.fraction) (spaceless-exponent s.exponent_sign s.exponent h.fine.exponent))))

some_number : (text : List ℕ) (x : Result Number ℕ) → IsNumberText text x → 0 < length text
some_number text x h =
    let s : Spelling = h.spelling in
    let long : length (spelling_text s) ≡ length text = ap length h.text_is in
    let count = spelled-length (sign_text s.sign) s.whole (point_text s.fraction) (exponent_text s.exponent_sign s.exponent) in
    elim (cases_lt 0 (length s.whole + length (point_text s.fraction))) [
      | inl some ↦ omega (arith, long, count)
      | inr none ↦ absurd (some_text s.whole s.fraction h.fine.some none)
    ]

spaces_rest : (b : ℕ) (bs : List ℕ) → AreSpaces (b ∷ bs) → AreSpaces bs
spaces_rest b bs h = record { each = λ k below. h.each (suc k) (omega arith) }

spaces_len-append : (bs t : List ℕ) → AreSpaces bs → spaces_len (bs ++ t) ≡ length bs + spaces_len t
spaces_len-append [] t h = omega arith
spaces_len-append (b ∷ bs) t h =
    let more : spaces_len (bs ++ t) ≡ length bs + spaces_len t = spaces_len-append bs t (spaces_rest b bs h) in
    let here : (b == 32) ≡ true = eq-eqb b 32 (h.each 0 (omega arith)) in
    rw here (omega arith)

spaces_len-none : (text t : List ℕ) → IsSpaceless text → 0 < length text → spaces_len (text ++ t) ≡ 0
spaces_len-none [] t h some = absurd (omega arith)
spaces_len-none (c ∷ cs) t h some = rw (ne_eqb c 32 (h.each 0 (omega arith))) refl

spaces_at_front : (text : List ℕ) → AreSpaces (take (spaces_len text) text)
spaces_at_front text = record {
  each = λ k below.
      let within : k < spaces_len text = omega (arith, length-take (spaces_len text) text) in
      get_or-take (spaces_len text) text k 0 within ∙ eqb-true _ 32 (prefix_len_passes (λ b. b == 32) text k 0 within);
}

-- no number goes on past a space
number-stops : (number after rest : List ℕ) (x : Result Number ℕ) → IsNumberText number x → AreSpaces after → 0 < length after
    → number_len (number ++ (after ++ rest)) ≤ length number
number-stops number [] rest x h spaces some = absurd (omega arith)
number-stops number (a ∷ after) rest x h spaces some =
    let tail : List ℕ = number ++ (a ∷ (after ++ rest)) in
    let m : ℕ = number_len tail in
    elim (cases_lt (length number) m) [
      | inl more ↦
          let read = longest-read tail in
          let mpos : 0 < m = omega arith in
          let clear = spaceless-number (take m tail) (number_value tail) (read.found mpos) in
          let here : get_or (take m tail) (length number) 0 ≡ 32 =
          get_or-take m tail (length number) 0 more ∙ get_or-append_seam number a (after ++ rest) 0 ∙ spaces.each 0 (omega arith) in
          absurd (clear.each (length number) (omega (arith, length-take m tail, length-append number (a ∷ (after ++ rest)))) here)
      | inr most ↦ most
    ]

number-least : (number t : List ℕ) (x : Result Number ℕ) → IsNumberText number x → length number ≤ number_len (number ++ t)
number-least number t x h =
    let read = longest-read (number ++ t) in
    read.longest (length number) x (omega (arith, length-append number t)) (subst (λ u. IsNumberText u x) (sym (take-append_seam number t)) h)

spaced-least : (before number after rest : List ℕ) (x : Result Number ℕ) → AreSpaces before → IsNumberText number x → AreSpaces after
    → length before + length number + length after ≤ spaced_number_len (before ++ (number ++ (after ++ rest)))
unfolding spaced_number_len
spaced-least before number after rest x hb h ha =
    let tail : List ℕ = number ++ (after ++ rest) in
    let text : List ℕ = before ++ tail in
    let front : spaces_len text ≡ length before =
    omega (arith, spaces_len-append before tail hb, spaces_len-none number (after ++ rest) (spaceless-number number x h) (some_number number x h)) in
    let here : drop (spaces_len text) text ≡ tail = ap (λ k. drop k text) front ∙ drop-append_seam before tail in
    let same : number_len (drop (spaces_len text) text) ≡ number_len tail = ap number_len here in
    let least : length number ≤ number_len tail = number-least number (after ++ rest) x h in
    let some : 0 < length number = some_number number x h in
    let there : (number_len (drop (spaces_len text) text) == 0) ≡ false = ne_eqb _ 0 (λ e. absurd (omega (arith, same, least, some, e))) in
    rw there (
    elim (cases_lt 0 (length after)) [
      | inl spaces ↦
          let exact : number_len tail ≡ length number = omega (arith, least, number-stops number after rest x h ha spaces) in
          let end : drop (spaces_len text + number_len (drop (spaces_len text) text)) text ≡ after ++ rest =
          sym (drop-drop (number_len (drop (spaces_len text) text)) (spaces_len text) text)
          ∙ ap₂ drop (same ∙ exact) here ∙ drop-append_seam number (after ++ rest) in
          let last : spaces_len (drop (spaces_len text + number_len (drop (spaces_len text) text)) text) ≡ length after + spaces_len rest =
          ap spaces_len end ∙ spaces_len-append after rest ha in
          omega (arith, front, same, exact, last)
      | inr none ↦ omega (arith, front, same, least)
    ])

spaced-found : (text : List ℕ) → 0 < spaced_number_len text → IsSpacedNumber (take (spaced_number_len text) text)
unfolding spaced_number_len
spaced-found text some =
    let s : ℕ = spaces_len text in
    let tail : List ℕ = drop s text in
    let n : ℕ = number_len tail in
    let rest : List ℕ = drop (s + n) text in
    elim (cases_Bool (n == 0)) [
      | inl none ↦ let nothing : 0 < 0 = rw none at some in absurd (omega arith)
      | inr other ↦
          let read = longest-read tail in
          let npos : 0 < n = let there : n ≡ 0 → ⊥ = eqb-false n 0 other in omega arith in
          let all : take (s + n + spaces_len rest) text ≡ (take s text ++ take n tail) ++ take (spaces_len rest) rest =
          take-add (s + n) (spaces_len rest) text ∙ ap (λ t. t ++ take (spaces_len rest) rest) (take-add s n text) in
          rw other (record {
            before = take s text;
            number = take n tail;
            after = take (spaces_len rest) rest;
            which = number_value tail;
            spaces_before = spaces_at_front text;
            is_number = read.found npos;
            spaces_after = spaces_at_front rest;
            text_is = sym (append_assoc (take s text) (take n tail) (take (spaces_len rest) rest)) ∙ sym all;
          })
    ]

pub longest-spaced : (text : List ℕ) → IsLongestSpaced text (spaced_number_len text)
longest-spaced text = record {
  found = spaced-found text;
  longest = λ k within h.
      let whole : List ℕ = h.before ++ (h.number ++ h.after) in
      let long : length whole ≡ k = ap length h.text_is ∙ length-take-le k text within in
      let count : length whole ≡ length h.before + length h.number + length h.after =
      omega (arith, length-append h.before (h.number ++ h.after), length-append h.number h.after) in
      let split : h.before ++ (h.number ++ (h.after ++ drop k text)) ≡ text =
      ap (λ u. h.before ++ u) (sym (append_assoc h.number h.after (drop k text))) ∙ sym (append_assoc h.before (h.number ++ h.after) (drop k text))
      ∙ ap (λ u. u ++ drop k text) h.text_is ∙ take-append-drop k text in
      let least = spaced-least h.before h.number h.after (drop k text) h.which h.spaces_before h.is_number h.spaces_after in
      let same : spaced_number_len (h.before ++ (h.number ++ (h.after ++ drop k text))) ≡ spaced_number_len text = ap spaced_number_len split in
      omega (arith, long, count, least, same);
}

-- as code finds it
pub spaced-none : (text : List ℕ) (s n : ℕ) → s ≡ spaces_len text → n ≡ number_len (drop s text) → n ≡ 0 → IsLongestSpaced text 0
unfolding spaced_number_len
spaced-none text s n front number none =
    let here : number_len (drop (spaces_len text) text) ≡ 0 = ap (λ k. number_len (drop k text)) (sym front) ∙ sym number ∙ none in
    let value : spaced_number_len text ≡ 0 = rw here refl in
    subst (IsLongestSpaced text) value (longest-spaced text)

pub spaced-is : (text : List ℕ) (s n e : ℕ) → s ≡ spaces_len text → n ≡ number_len (drop s text) → e ≡ spaces_len (drop (s + n) text)
    → (n ≡ 0 → ⊥) → IsLongestSpaced text (s + n + e)
unfolding spaced_number_len
spaced-is text s n e front number end some =
    let here : number_len (drop (spaces_len text) text) ≡ n = ap (λ k. number_len (drop k text)) (sym front) ∙ sym number in
    let last : spaces_len (drop (spaces_len text + number_len (drop (spaces_len text) text)) text) ≡ e =
    ap₂ (λ a b. spaces_len (drop (a + b) text)) (sym front) here ∙ sym end in
    let there : (number_len (drop (spaces_len text) text) == 0) ≡ false = ne_eqb _ 0 (λ none. some (sym here ∙ none)) in
    let value : spaced_number_len text ≡ s + n + e = rw there (omega (arith, front, here, last)) in
    subst (IsLongestSpaced text) value (longest-spaced text)
