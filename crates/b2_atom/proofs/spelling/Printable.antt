-- Each byte of the canonical source may stand in a line.
use Rattle.std.proofs.Common.{◌≡◌, ℕ, Bool, true, false, List, [], ◌∷◌, ◌++◌, length, get_or, refl, ap, ◌∙◌, nat_lt}
use Rattle.b2_atom.specs.declared.words.TheConstants as word
use Rattle.b2_atom.specs.Words.{Text, all_words, short_text}
use Rattle.b2_atom.specs.Tokens.{Token, listed, maybe_spaced, spelled, is_apart, is_word, ends_wordy, is_operand}
use Rattle.b2_atom.specs.Tokens.Token.{Coded, Short, Plain, Lined}
use Rattle.b2_base.specs.Lexical.{all_printable, is_decimal, is_printable}
use Rattle.b2_atom.specs.Spelling.{good_token, is_whole, plain_signs, AllGood}
use Rattle.b2_atom.specs.declared.forms.Leaf.{Leaf}
use Rattle.b2_atom.specs.declared.forms.Leaf.TheVariants as leaf
use Rattle.b2_atom.proofs.Booleans.{and_left, and_right, both}
use Rattle.b2_atom.proofs.typed.Longest.{every, below}
use Rattle.b2_atom.proofs.typed.LineNumbers.{line_printable}
use Rattle.b2_atom.proofs.typed.CleanLeaves.{whole_printable}
use Rattle.b2_atom.proofs.spelling.SideBySide.{among_signs, whole_width, is_text}
use Rattle.b2_atom.proofs.spelling.Listed.{at_code, good_word, good_sign, spelled_word, spelled_sign, of_short}

words_printable : below (λ i. all_printable (get_or all_words i [])) word.CODED ≡ true
words_printable = refl

signs_printable : every is_printable plain_signs ≡ true
signs_printable = refl

coded_printable : (c : ℕ) (b : Bool) → is_word c ≡ b → good_token (Coded c) ≡ true → all_printable (spelled (Coded c)) ≡ true
coded_printable c true is g = ap all_printable (spelled_word c is) ∙ at_code (λ d w. all_printable w) words_printable c (good_word c g is)
coded_printable c false is g =
    ap all_printable (spelled_sign c is) ∙ both (is_printable c) true (among_signs is_printable c plain_signs signs_printable (good_sign c g is)) refl

kind_printable : (k : Leaf) (w : Text) (b : Bool) → is_text k ≡ b → is_whole k w ≡ true → all_printable w ≡ true
kind_printable leaf.Text w b is h = and_right (nat_lt 0 (length w)) (all_printable w) h
kind_printable k w true is h = cc
kind_printable k [] false is h = refl
kind_printable k (a ∷ w) false is h = whole_printable k a w (whole_width k a w is h)

token_printable : (t : Token) → good_token t ≡ true → all_printable (spelled t) ≡ true
token_printable (Coded c) g = coded_printable c (is_word c) refl g
token_printable (Short c) g = of_short (λ d. all_printable (short_text d) ≡ true) refl refl c g
token_printable (Plain k w) g = kind_printable k w (is_text k) refl g
token_printable (Lined high low) g = line_printable high low (and_left (is_decimal high) (is_decimal low) g) (and_right (is_decimal high) (is_decimal low) g)

pub append_printable : (u v : Text) → all_printable u ≡ true → all_printable v ≡ true → all_printable (u ++ v) ≡ true
append_printable [] v h k = k
append_printable (b ∷ u) v h k =
    both (is_printable b) (all_printable (u ++ v)) (and_left (is_printable b) (all_printable u) h) (append_printable u v (and_right (is_printable b) (all_printable u) h) k)

spaced_printable : (apart : Bool) (u : Text) → all_printable u ≡ true → all_printable (maybe_spaced apart u) ≡ true
spaced_printable true u h = h
spaced_printable false u h = h

pub source_printable : (wordy operand : Bool) (ts : List Token) → AllGood ts → all_printable (listed wordy operand ts) ≡ true
source_printable wordy operand [] g = refl
source_printable wordy operand (t ∷ ts) g =
    append_printable (maybe_spaced (is_apart wordy operand t) (spelled t)) (listed (ends_wordy t) (is_operand t) ts)
    (spaced_printable (is_apart wordy operand t) (spelled t) (token_printable t g.0)) (source_printable (ends_wordy t) (is_operand t) ts g.1)

-- the canonical source of a line
pub listed_printable : (ts : List Token) → AllGood ts → all_printable (listed false false ts) ≡ true
listed_printable ts g = source_printable false false ts g
