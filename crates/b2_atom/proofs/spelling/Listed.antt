-- The canonical source: what follows a token there, and that it makes no other word of DATA and PRINT.
use Rattle.std.proofs.Common.{◌≡◌, ℕ, ◌+◌, ◌-◌, ◌<◌, Bool, true, false, not, ◌==◌, ◌||◌, ◌&&◌, List, [], ◌∷◌, ◌++◌, length, get_or, refl, sym, ap, subst, ◌∙◌, arith, inl, inr, ◌⊎◌}
use Rattle.std.proofs.lemmas.Bool.Decides.{nat_tests}
use Rattle.b2_base.specs.Lexical.{first, is_decimal, is_digit, is_letter, upper}
use Rattle.b2_atom.specs.Words.{Text, all_words, word_text, is_short, short_text}
use Rattle.b2_atom.specs.Tokens.{Token, listed, maybe_spaced, spelled, is_apart, is_word, ends_wordy, begins_wordy, is_operand, last, closes}
use Rattle.b2_atom.specs.Tokens.Token.{Coded, Short, Plain, Lined}
use Rattle.b2_atom.specs.Grammar.{is_among}
use Rattle.b2_atom.specs.Spelling.{good_token, plain_signs, is_in, is_dollar}
use Rattle.b2_atom.specs.declared.words.TheConstants as word
use Rattle.b2_atom.specs.declared.words.Origin.{Origin}
use Rattle.b2_atom.proofs.Booleans.{and_left, and_right, false_true, not_true, or_cases, equal}
use Rattle.b2_atom.proofs.typed.Longest.{every, below, at_below, and_none}
use Rattle.b2_atom.proofs.typed.WordsRead.{is_code, word_some, code_less, code_again}
use Rattle.b2_atom.proofs.typed.Characters.{ends_relation}
use Rattle.b2_atom.proofs.typed.LineNumbers.{LineShown, line_shown}
use Rattle.b2_atom.proofs.spelling.SideBySide.{FirstOf, Showing, quiet, coded_first, short_first, among_signs, or_none}
use Rattle.b2_atom.proofs.spelling.SpellsAtoms.{good_first}

-- the words by their codes
pub good_code : (c : ℕ) → is_among word.REM word.LAST c ≡ true → is_code c ≡ true
good_code c h = grind (arith, nat_tests)

-- a fact of each word and its code
pub at_code : (p : ℕ → Text → Bool) → below (λ i. p (i + 128) (get_or all_words i [])) word.CODED ≡ true → (c : ℕ) → is_code c ≡ true → p c (word_text c) ≡ true
at_code p all c h =
    ap (λ (d : ℕ). p d (get_or all_words (c - 128) [])) (sym (code_again c h))
    ∙ at_below (λ i. p (i + 128) (get_or all_words i [])) word.CODED (c - 128) all (code_less c h)

-- what a word begins with, where it doesn't begin with a letter
abbrev word_front : ℕ → Text → Bool
word_front c w = not (first w == 32) && (not (first w == 40) && (not (first w == 41) && (ends_relation (first w)
    && ((begins_wordy (Coded c) || quiet (first w)) && (not (first w == 36) || is_dollar (Coded c))))))

words_front : below (λ i. word_front (i + 128) (get_or all_words i [])) word.CODED ≡ true
words_front = refl

front_of : (c : ℕ) → is_code c ≡ true → word_front c (word_text c) ≡ true
front_of c h = at_code word_front words_front c h

-- the same, of any text
pub record WordFront (c : ℕ) (w : Text) : Type 0 where
  pub blank : (first w == 32) ≡ false
  pub opens : (first w == 40) ≡ false
  pub closes : (first w == 41) ≡ false
  pub unrelated : ends_relation (first w) ≡ true
  pub quiet_or_wordy : (begins_wordy (Coded c) || quiet (first w)) ≡ true
  pub dollar : (not (first w == 36) || is_dollar (Coded c)) ≡ true

parts_of : (c : ℕ) (w : Text) → word_front c w ≡ true → WordFront c w
parts_of c w h =
    let h1 = and_right (not (first w == 32)) _ h in
    let h2 = and_right (not (first w == 40)) _ h1 in
    let h3 = and_right (not (first w == 41)) _ h2 in
    let h4 = and_right (ends_relation (first w)) _ h3 in
    record {
      blank = not_true (first w == 32) (and_left (not (first w == 32)) _ h);
      opens = not_true (first w == 40) (and_left (not (first w == 40)) _ h1);
      closes = not_true (first w == 41) (and_left (not (first w == 41)) _ h2);
      unrelated = and_left (ends_relation (first w)) _ h3;
      quiet_or_wordy = and_left (begins_wordy (Coded c) || quiet (first w)) _ h4;
      dollar = and_right (begins_wordy (Coded c) || quiet (first w)) _ h4;
    }

pub word_fronts : (c : ℕ) → is_code c ≡ true → WordFront c (word_text c)
word_fronts c h = parts_of c (word_text c) (front_of c h)

-- the first byte of a text before another
pub first_more : (w x : Text) → 0 < length w → first (w ++ x) ≡ first w
first_more [] x h = absurd (omega arith)
first_more (a ∷ w) x h = refl

not_or : (a b : Bool) → (a || b) ≡ true → a ≡ false → b ≡ true
not_or true b h k = cc
not_or false b h k = h

not_not : (a b : Bool) → (not a || b) ≡ true → b ≡ false → a ≡ false
not_not true b h k = let clash : false ≡ true = sym k ∙ h in cc
not_not false b h k = refl

-- a word that isn't set apart
word_first : (operand : Bool) (c : ℕ) (w x : Text) → WordFront c w → 0 < length w → (operand && begins_wordy (Coded c)) ≡ false → FirstOf operand (Coded c) (first (w ++ x))
word_first operand c w x is some h =
    let P : ℕ → Type 0 = λ n. FirstOf operand (Coded c) n in
    subst P (sym (first_more w x some)) (record {
      symbol = λ m o. not_or (begins_wordy (Coded c)) (quiet (first w)) is.quiet_or_wordy (ap (λ (b : Bool). b && begins_wordy (Coded c)) (sym o) ∙ h);
      dollar = λ m n. not_not (first w == 36) (is_dollar (Coded c)) is.dollar n;
      unrelated = λ m. is.unrelated;
      lined = λ m. cc;
    })

blank_first : (operand : Bool) (u : Token) → FirstOf operand u 32
blank_first operand u = record { symbol = λ m o. refl; dollar = λ m n. refl; unrelated = λ m. refl; lined = λ m. refl }

digit_unrelated : (n : ℕ) → is_digit n ≡ true → ends_relation n ≡ true
digit_unrelated n h = grind (arith, nat_tests)

digit_letter : (n : ℕ) → is_digit n ≡ true → is_letter (upper n) ≡ false
digit_letter n h = grind (arith, nat_tests)

digit_first : (operand : Bool) (high low n : ℕ) → is_digit n ≡ true → FirstOf operand (Lined high low) n
digit_first operand high low n h = record {
  symbol = λ m o. cc;
  dollar = λ m k. cc;
  unrelated = λ m. digit_unrelated n h;
  lined = λ m. digit_letter n h;
}

line_first : (operand : Bool) (high low : ℕ) (w x : Text) → LineShown w → FirstOf operand (Lined high low) (first (w ++ x))
line_first operand high low w x s =
    let P : Text → Type 0 = λ t. FirstOf operand (Lined high low) (first (t ++ x)) in
    subst P (sym s.is) (digit_first operand high low s.digit s.good)

-- a word or a sign, spelled
pub spelled_word : (c : ℕ) → is_word c ≡ true → spelled (Coded c) ≡ word_text c
spelled_word c h = rw h refl

pub spelled_sign : (c : ℕ) → is_word c ≡ false → spelled (Coded c) ≡ c ∷ []
spelled_sign c h = rw h refl

code_word : (c : ℕ) → is_code c ≡ true → is_word c ≡ true
code_word c h = grind (arith, nat_tests)

no_code : (c : ℕ) → is_word c ≡ false → is_among word.REM word.LAST c ≡ true → ⊥
no_code c h k = grind (arith, nat_tests)

-- the signs aren't words
abbrev small_sign : ℕ → Bool
small_sign c = not (is_word c)

signs_small : every small_sign plain_signs ≡ true
signs_small = refl

by_word : (c : ℕ) (b : Bool) → is_in c plain_signs ≡ b → (is_among word.REM word.LAST c || is_in c plain_signs) ≡ true → is_word c ≡ true → is_among word.REM word.LAST c ≡ true
by_word c true is h k = let clash = among_signs small_sign c plain_signs signs_small is in absurd (false_true (sym (ap not k) ∙ clash))
by_word c false is h k = or_none (is_among word.REM word.LAST c) (ap (λ (b : Bool). is_among word.REM word.LAST c || b) (sym is) ∙ h)

-- a good word has a code of the table, and a good sign is one of the signs
pub good_word : (c : ℕ) → good_token (Coded c) ≡ true → is_word c ≡ true → is_code c ≡ true
good_word c h k = good_code c (by_word c (is_in c plain_signs) refl h k)

by_sign : (c : ℕ) (b : Bool) → is_among word.REM word.LAST c ≡ b → (b || is_in c plain_signs) ≡ true → is_word c ≡ false → is_in c plain_signs ≡ true
by_sign c true is h k = absurd (no_code c k is)
by_sign c false is h k = h

pub good_sign : (c : ℕ) → good_token (Coded c) ≡ true → is_word c ≡ false → is_in c plain_signs ≡ true
good_sign c h k = by_sign c (is_among word.REM word.LAST c) refl h k

coded_by : (operand : Bool) (c : ℕ) (x : Text) (b : Bool) → is_word c ≡ b → good_token (Coded c) ≡ true → (operand && begins_wordy (Coded c)) ≡ false
    → FirstOf operand (Coded c) (first (spelled (Coded c) ++ x))
coded_by operand c x true is g apart =
    let P : Text → Type 0 = λ t. FirstOf operand (Coded c) (first (t ++ x)) in
    subst P (sym (spelled_word c is)) (word_first operand c (word_text c) x (word_fronts c (good_word c g is)) (word_some c (good_word c g is)) apart)
coded_by operand c x false is g apart =
    let P : Text → Type 0 = λ t. FirstOf operand (Coded c) (first (t ++ x)) in
    subst P (sym (spelled_sign c is)) (coded_first operand c g)

-- a fact of both short words
pub of_short : (P : ℕ → Type 0) → P word.DA → P word.BA → (c : ℕ) → is_short c ≡ true → P c
of_short P da ba c h = elim (or_cases (c == word.DA) (c == word.BA) h) [
  | inl e ↦ subst P (sym (equal c word.DA e)) da
  | inr e ↦ subst P (sym (equal c word.BA e)) ba
]

short_front : (x : Text) (c : ℕ) → is_short c ≡ true → ends_relation (first (short_text c ++ x)) ≡ true
short_front x c h = of_short (λ d. ends_relation (first (short_text d ++ x)) ≡ true) refl refl c h

pub or_second : (a b : Bool) → (a || b) ≡ false → b ≡ false
or_second true b h = cc
or_second false b h = h

pub or_first : (a b : Bool) → (a || b) ≡ false → a ≡ false
or_first true b h = cc
or_first false b h = refl

apart_by : (wordy operand : Bool) (u : Token) (x : Text) (b : Bool) → is_apart wordy operand u ≡ b → good_token u ≡ true → FirstOf operand u (first (maybe_spaced b (spelled u) ++ x))
apart_by wordy operand u x true is g = blank_first operand u
apart_by wordy operand (Coded c) x false is g = coded_by operand c x (is_word c) refl g (or_second (wordy && not (closes (Coded c))) (operand && begins_wordy (Coded c)) is)
apart_by wordy operand (Short c) x false is g = short_first operand c (first (short_text c ++ x)) (short_front x c g)
apart_by wordy operand (Plain k w) x false is g = good_first operand k w x g
apart_by wordy operand (Lined high low) x false is g =
    line_first operand high low (spelled (Lined high low)) x (line_shown high low (and_left (is_decimal high) (is_decimal low) g) (and_right (is_decimal high) (is_decimal low) g))

pub listed_first : (wordy operand : Bool) (u : Token) (us : List Token) → good_token u ≡ true → FirstOf operand u (first (listed wordy operand (u ∷ us)))
listed_first wordy operand u us g = apart_by wordy operand u (listed (ends_wordy u) (is_operand u) us) (is_apart wordy operand u) refl g

-- what is listed after a token
unfoldable pub source_behind : Token → List Token → Text
source_behind t ts = listed (ends_wordy t) (is_operand t) ts

letter_word : (c : ℕ) → is_letter c ≡ true → is_word c ≡ false
letter_word c h = grind (arith, nat_tests)

letters_apart : (c d : ℕ) → is_word c ≡ false → is_word d ≡ false → is_apart (ends_wordy (Coded c)) (is_operand (Coded c)) (Coded d) ≡ false
letters_apart c d hc hd =
    let e : ends_wordy (Coded c) ≡ false = ap (λ (b : Bool). b && (not (c == word.REM) && is_letter (last (word_text c)))) hc in
    let b : begins_wordy (Coded d) ≡ false = ap (λ (b : Bool). b && is_letter (first (word_text d))) hd in
    (λ i. e i && not (closes (Coded d)) || (is_operand (Coded c) && b i)) ∙ and_none (is_operand (Coded c))

letters_listed : (c d : ℕ) (us : List Token) → is_letter c ≡ true → is_letter d ≡ true → source_behind (Coded c) (Coded d ∷ us) ≡ d ∷ source_behind (Coded d) us
unfolding source_behind
letters_listed c d us hc hd =
    ap (λ (b : Bool). maybe_spaced b (spelled (Coded d)) ++ listed (ends_wordy (Coded d)) (is_operand (Coded d)) us) (letters_apart c d (letter_word c hc) (letter_word d hd))
    ∙ ap (λ (t : Text). t ++ listed (ends_wordy (Coded d)) (is_operand (Coded d)) us) (spelled_sign d (letter_word d hd))

pub source_shown : (o : Origin) → Showing o source_behind
unfolding source_behind
source_shown o = record {
  empty = λ t. refl;
  first_is = λ t u us g. listed_first (ends_wordy t) (is_operand t) u us g;
  letters = letters_listed;
}
