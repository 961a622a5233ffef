-- Which texts don't begin with a given word: what follows DATA and PRINT, and LET before an assignment.
use Rattle.std.proofs.Common.{◌≡◌, ℕ, ◌+◌, ◌-◌, Bool, true, false, ◌==◌, ◌||◌, ◌&&◌, [], ◌∷◌, ◌++◌, get_or, refl, ap, arith}
use Rattle.std.specs.Prelude.{codes}
use Rattle.std.proofs.lemmas.Bool.Decides.{nat_tests}
use Rattle.b2_base.specs.Lexical.{first, is_letter, skip_blanks, upper}
use Rattle.b2_atom.specs.Words.{Text, begins_with, all_words, word_text}
use Rattle.b2_atom.specs.declared.words.TheConstants as word
use Rattle.b2_atom.proofs.Booleans.{and_left, and_right}
use Rattle.b2_atom.proofs.typed.Longest.{apart, lost, below, at_below}
use Rattle.b2_atom.proofs.typed.WordsRead.{is_code, joins, letter_stops, and_false, code_less}

-- two letters at the front
abbrev pub is_keyword : Text → Bool
is_keyword [] = false
is_keyword (c ∷ []) = false
is_keyword (c ∷ d ∷ v) = is_letter c && is_letter d

-- before what is no letter
pub not_before_sign : (v : Text) (b : ℕ) (x : Text) → is_keyword v ≡ true → is_letter (upper (first x)) ≡ false → begins_with v (b ∷ x) ≡ false
not_before_sign [] b x k h = cc
not_before_sign (c ∷ []) b x k h = cc
not_before_sign (c ∷ d ∷ v) b x k h = and_false (c == upper b) (begins_with (d ∷ v) x) (letter_stops d v x (and_right (is_letter c) (is_letter d) k) h)

-- at what is no letter
pub not_at_sign : (v x : Text) → is_keyword v ≡ true → is_letter (upper (first x)) ≡ false → begins_with v x ≡ false
not_at_sign [] x k h = cc
not_at_sign (c ∷ []) x k h = cc
not_at_sign (c ∷ d ∷ v) x k h = letter_stops c (d ∷ v) x (and_left (is_letter c) (is_letter d) k) h

-- where another letter stands first
pub not_at_other : (v : Text) (b : ℕ) (x : Text) → is_keyword v ≡ true → (first v == upper b) ≡ false → begins_with v (b ∷ x) ≡ false
not_at_other [] b x k h = cc
not_at_other (c ∷ v) b x k h = ap (λ (s : Bool). s && begins_with v x) h

-- at a word of the table
abbrev pub no_word_but : Text → ℕ → ℕ → Bool
no_word_but v c i = (i + 128 == c) || apart (λ n. false) v (get_or all_words i [])

other_word : (v : Text) (i c : ℕ) (w x : Text) → (i + 128 == c) ≡ false → ((i + 128 == c) || apart (λ n. false) v w) ≡ true → begins_with v (w ++ x) ≡ false
other_word v i c w x is h = lost (λ n. false) v w x refl (rw is at h)

code_place : (c d : ℕ) → is_code c ≡ true → (c == d) ≡ false → (c - 128 + 128 == d) ≡ false
code_place c d h k = grind (arith, nat_tests)

pub at_no_word : (v : Text) (d c : ℕ) (x : Text) → below (no_word_but v d) word.CODED ≡ true → is_code c ≡ true → (c == d) ≡ false
    → begins_with v (word_text c ++ x) ≡ false
at_no_word v d c x all h other =
    other_word v (c - 128) d (get_or all_words (c - 128) []) x (code_place c d h other) (at_below (no_word_but v d) word.CODED (c - 128) all (code_less c h))

pub only_save : below (no_word_but (codes "SAVE") word.SAVE) word.CODED ≡ true
only_save = refl

pub only_load : below (no_word_but (codes "LOAD") word.LOAD) word.CODED ≡ true
only_load = refl

pub never_using : below (no_word_but (codes "USING") 0) word.CODED ≡ true
never_using = refl

pub never_let : below (no_word_but (76 ∷ 69 ∷ 84 ∷ []) 0) word.CODED ≡ true
never_let = refl

-- a text at which none of the words stands that make another word of DATA and PRINT
pub record JoinsNone (x : Text) : Type 0 where
  pub save : begins_with (codes "SAVE") (skip_blanks x) ≡ false
  pub load : begins_with (codes "LOAD") (skip_blanks x) ≡ false
  pub using : begins_with (codes "USING") (skip_blanks x) ≡ false

none_of : (a b c d e : Bool) → c ≡ false → d ≡ false → e ≡ false → (a && c || (a && d || b && e)) ≡ false
none_of true true c d e hc hd he = rw hc (rw hd he)
none_of true false c d e hc hd he = rw hc (rw hd refl)
none_of false true c d e hc hd he = he
none_of false false c d e hc hd he = refl

pub joins_none : (c : ℕ) (x : Text) → JoinsNone x → joins c x ≡ false
joins_none c x h = none_of (c == word.DATA) (c == word.PRINT) _ _ _ h.save h.load h.using

other_code : (a b c d e : Bool) → a ≡ false → b ≡ false → (a && c || (a && d || b && e)) ≡ false
other_code a b c d e ha hb = rw ha (rw hb refl)

-- other words are joined with none
pub joins_other : (c : ℕ) (x : Text) → (c == word.DATA) ≡ false → (c == word.PRINT) ≡ false → joins c x ≡ false
joins_other c x a b = other_code (c == word.DATA) (c == word.PRINT) _ _ _ a b
