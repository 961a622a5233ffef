-- Tokens that may stand side by side don't run on into each other: what the first byte after a token is.
use Rattle.std.proofs.Common.{◌≡◌, ℕ, suc, Bool, true, false, not, ◌==◌, ◌||◌, ◌&&◌, List, [], ◌∷◌, length, refl, ap, ◌∙◌, arith, nat_lt}
use Rattle.std.proofs.lemmas.Bool.Decides.{nat_tests}
use Rattle.b2_base.specs.Lexical.{first, is_digit, is_letter, upper}
use Rattle.b2_atom.specs.Words.{Text}
use Rattle.b2_atom.specs.Tokens.{Token, is_operand, is_operand_leaf}
use Rattle.b2_atom.specs.Tokens.Token.{Coded, Short, Plain, Lined}
use Rattle.b2_atom.specs.Leaves.{leaf_width}
use Rattle.b2_atom.specs.Grammar.{is_among}
use Rattle.b2_atom.specs.Spelling.{is_whole, plain_signs, is_in, good_token, is_word_or_sign, is_literal, is_free_text, is_image, is_dollar, is_unrelated, may_follow_leaf, Neighbours, AllGood}
use Rattle.b2_atom.specs.declared.words.TheConstants as word
use Rattle.b2_atom.specs.declared.words.Origin.{Origin}
use Rattle.b2_atom.specs.declared.words.Origin.TheVariants.{Atoms}
use Rattle.b2_atom.specs.declared.forms.Leaf.{Leaf}
use Rattle.b2_atom.specs.declared.forms.Leaf.TheVariants as leaf
use Rattle.b2_atom.proofs.Booleans.{and_left, and_right, equal, not_true}
use Rattle.b2_atom.proofs.typed.Longest.{every}
use Rattle.b2_atom.proofs.typed.Characters.{ends_relation}
use Rattle.b2_atom.proofs.typed.LeavesRead.{ends}
use Rattle.b2_atom.proofs.typed.LeafStarts.{front, leaf_front, turned}

pub later : (t : Token) (ts : List Token) → Neighbours (t ∷ ts) → Neighbours ts
later t [] h = tt
later t (u ∷ ts) h = h.1

-- a kind that is read to the line's end
abbrev pub is_text : Leaf → Bool
is_text leaf.Text = true
is_text k = false

whole_by : (n w : ℕ) (b : Bool) → (b && n == w) ≡ true → n ≡ w
whole_by n w b h = equal n w (and_right b (n == w) h)

pub whole_width : (k : Leaf) (a : ℕ) (w : Text) → is_text k ≡ false → is_whole k (a ∷ w) ≡ true → leaf_width Atoms k (a ∷ w) ≡ suc (length w)
whole_width leaf.Text a w n h = cc
whole_width k a w n h = whole_by (leaf_width Atoms k (a ∷ w)) (suc (length w)) (nat_lt 0 (suc (length w))) h

pub not_empty : (k : Leaf) → is_whole k [] ≡ true → ⊥
not_empty leaf.Text h = cc
not_empty k h = cc

-- a byte that is no digit, no point and no letter
abbrev pub quiet : ℕ → Bool
quiet n = not (is_digit n || (n == 46 || is_letter (upper n)))

abbrev pub is_lined : Token → Bool
is_lined (Lined high low) = true
is_lined t = false

-- what the first byte is where a token stands, after an operand or another token
pub record FirstOf (operand : Bool) (u : Token) (n : ℕ) : Type 0 where
  pub symbol : (is_word_or_sign u || is_literal u) ≡ true → operand ≡ true → quiet n ≡ true
  pub dollar : is_word_or_sign u ≡ true → is_dollar u ≡ false → (n == 36) ≡ false
  pub unrelated : (is_unrelated u && not (is_free_text u || is_image u)) ≡ true → ends_relation n ≡ true
  pub lined : is_lined u ≡ true → is_letter (upper n) ≡ false

-- one of the bytes that stand for themselves
by_sign : (p : ℕ → Bool) (d c : ℕ) (cs : Text) (same : Bool) → (d == c) ≡ same → (p c && every p cs) ≡ true → (same || is_in d cs) ≡ true
    → (every p cs ≡ true → is_in d cs ≡ true → p d ≡ true) → p d ≡ true
by_sign p d c cs true is h k more = ap p (equal d c is) ∙ and_left (p c) (every p cs) h
by_sign p d c cs false is h k more = more (and_right (p c) (every p cs) h) k

pub among_signs : (p : ℕ → Bool) (d : ℕ) (cs : Text) → every p cs ≡ true → is_in d cs ≡ true → p d ≡ true
among_signs p d [] h k = cc
among_signs p d (c ∷ cs) h k = by_sign p d c cs (d == c) refl h k (among_signs p d cs)

abbrev pub sign_byte : ℕ → Bool
sign_byte n = is_letter n || (quiet n && (not (n == 36) && (n == 61 || ends_relation n)))

signs_are : every sign_byte plain_signs ≡ true
signs_are = refl

code_quiet : (n : ℕ) → is_among word.REM word.LAST n ≡ true → sign_byte n ≡ true
code_quiet n h = grind (arith, nat_tests)

or_true : (p : Bool) (a b : Bool) → (a ≡ true → p ≡ true) → (b ≡ true → p ≡ true) → (a || b) ≡ true → p ≡ true
or_true p true b f g h = f refl
or_true p false b f g h = g h

pub coded_byte : (d : ℕ) → good_token (Coded d) ≡ true → sign_byte d ≡ true
coded_byte d h = or_true (sign_byte d) (is_among word.REM word.LAST d) (is_in d plain_signs) (code_quiet d) (among_signs sign_byte d plain_signs signs_are) h

byte_quiet : (n : ℕ) → sign_byte n ≡ true → not (is_letter n) ≡ true → quiet n ≡ true
byte_quiet n h k = grind (arith, nat_tests)

byte_dollar : (n : ℕ) → sign_byte n ≡ true → not (is_letter n) ≡ true → (n == 36) ≡ false
byte_dollar n h k = grind (arith, nat_tests)

byte_unrelated : (n : ℕ) → sign_byte n ≡ true → not (n == 61) ≡ true → ends_relation n ≡ true
byte_unrelated n h k = grind (arith, nat_tests)

pub or_none : (a : Bool) → (a || false) ≡ true → a ≡ true
or_none true h = refl
or_none false h = cc

pub coded_first : (operand : Bool) (d : ℕ) → good_token (Coded d) ≡ true → FirstOf operand (Coded d) d
coded_first operand d h = record {
  symbol = λ m o. byte_quiet d (coded_byte d h) (or_none (not (is_letter d)) m);
  dollar = λ m n. byte_dollar d (coded_byte d h) m;
  unrelated = λ m. byte_unrelated d (coded_byte d h) (and_left (not (d == 61)) true m);
  lined = λ m. cc;
}

-- a short word, before which no blank stands
pub short_first : (operand : Bool) (c n : ℕ) → ends_relation n ≡ true → FirstOf operand (Short c) n
short_first operand c n h = record { symbol = λ m o. cc; dollar = λ m k. cc; unrelated = λ m. h; lined = λ m. cc }

-- the first byte of what is typed by hand
front_unrelated : (k : Leaf) (a : ℕ) (w : Text) → front k a ≡ true → (is_unrelated (Plain k w) && not (is_free_text (Plain k w) || is_image (Plain k w))) ≡ true → ends_relation a ≡ true
front_unrelated leaf.Number a w h m = grind (arith, nat_tests)
front_unrelated leaf.SignedNumber a w h m = grind (arith, nat_tests)
front_unrelated leaf.Name a w h m = grind (arith, nat_tests)
front_unrelated leaf.AlphaName a w h m = grind (arith, nat_tests)
front_unrelated leaf.LocalName a w h m = grind (arith, nat_tests)
front_unrelated leaf.FunctionName a w h m = grind (arith, nat_tests)
front_unrelated leaf.Literal a w h m = grind (arith, nat_tests)
front_unrelated leaf.LineNumber a w h m = cc
front_unrelated leaf.HexPair a w h m = grind (arith, nat_tests)
front_unrelated leaf.HexDigit a w h m = grind (arith, nat_tests)
front_unrelated leaf.Address a w h m = grind (arith, nat_tests)
front_unrelated leaf.Slot a w h m = grind (arith, nat_tests)
front_unrelated leaf.Small a w h m = grind (arith, nat_tests)
front_unrelated leaf.Image a w h m = cc
front_unrelated leaf.Text a w h m = cc
front_unrelated leaf.Relation a w h m = cc

literal_quiet : (k : Leaf) (a : ℕ) (w : Text) → front k a ≡ true → (is_word_or_sign (Plain k w) || is_literal (Plain k w)) ≡ true → quiet a ≡ true
literal_quiet leaf.Literal a w h m = grind (arith, nat_tests)
literal_quiet leaf.Relation a w h m = grind (arith, nat_tests)
literal_quiet k a w h m = cc

no_dollar : (k : Leaf) (a : ℕ) (w : Text) → front k a ≡ true → is_word_or_sign (Plain k w) ≡ true → (a == 36) ≡ false
no_dollar leaf.Relation a w h m = grind (arith, nat_tests)
no_dollar k a w h m = cc

pub plain_first : (operand : Bool) (k : Leaf) (a : ℕ) (w : Text) → leaf_width Atoms k (a ∷ w) ≡ suc (length w) → FirstOf operand (Plain k (a ∷ w)) a
plain_first operand k a w h = record {
  symbol = λ m o. literal_quiet k a (a ∷ w) (leaf_front k a w h) m;
  dollar = λ m n. no_dollar k a (a ∷ w) (leaf_front k a w h) m;
  unrelated = λ m. front_unrelated k a (a ∷ w) (leaf_front k a w h) m;
  lined = λ m. cc;
}

-- free text may begin with any byte
pub text_first : (operand : Bool) (a : ℕ) (w : Text) → FirstOf operand (Plain leaf.Text w) a
text_first operand a w = record { symbol = λ m o. cc; dollar = λ m n. cc; unrelated = λ m. cc; lined = λ m. cc }

-- what is typed by hand ends before what may follow it
quiet_number : (n : ℕ) → quiet n ≡ true → ends leaf.Number n ≡ true
quiet_number n h = grind (arith, nat_tests)

quiet_name : (n : ℕ) → quiet n ≡ true → (n == 36) ≡ false → ends leaf.Name n ≡ true
quiet_name n h k = grind (arith, nat_tests)

quiet_function : (n : ℕ) → quiet n ≡ true → ends leaf.FunctionName n ≡ true
quiet_function n h = grind (arith, nat_tests)

pub quiet_digits : (n : ℕ) → quiet n ≡ true → is_digit n ≡ false
quiet_digits n h = grind (arith, nat_tests)

pub quiet_letter : (n : ℕ) → quiet n ≡ true → is_letter (upper n) ≡ false
quiet_letter n h = grind (arith, nat_tests)

or_first : (a b : Bool) → a ≡ true → (a || b) ≡ true
or_first a b h = rw h refl

name_ends : (u : Token) (n : ℕ) → (is_word_or_sign u && not (is_dollar u)) ≡ true → FirstOf true u n → ends leaf.Name n ≡ true
name_ends u n m is =
    let symbol = and_left (is_word_or_sign u) (not (is_dollar u)) m in
    quiet_name n (is.symbol (or_first (is_word_or_sign u) (is_literal u) symbol) refl) (is.dollar symbol (not_true (is_dollar u) (and_right (is_word_or_sign u) (not (is_dollar u)) m)))

pub ends_next : (k : Leaf) (u : Token) (n : ℕ) → may_follow_leaf k u ≡ true → FirstOf (is_operand_leaf k) u n → ends k n ≡ true
ends_next leaf.Number u n m is = quiet_number n (is.symbol (or_first (is_word_or_sign u) (is_literal u) m) refl)
ends_next leaf.SignedNumber u n m is = quiet_number n (is.symbol (or_first (is_word_or_sign u) (is_literal u) m) refl)
ends_next leaf.Name u n m is = name_ends u n m is
ends_next leaf.LocalName u n m is = name_ends u n m is
ends_next leaf.FunctionName u n m is = quiet_function n (is.symbol (or_first (is_word_or_sign u) (is_literal u) m) refl)
ends_next leaf.Small u n m is = turned (is_digit n) (quiet_digits n (is.symbol m refl))
ends_next leaf.Slot u n m is = turned (is_digit n) (quiet_digits n (is.symbol (or_first (is_word_or_sign u) (is_literal u) m) refl))
ends_next leaf.Relation u n m is = is.unrelated m
ends_next k u n m is = refl

ends_at_end : (k : Leaf) → ends k 0 ≡ true
ends_at_end leaf.Number = refl
ends_at_end leaf.SignedNumber = refl
ends_at_end leaf.Name = refl
ends_at_end leaf.LocalName = refl
ends_at_end leaf.FunctionName = refl
ends_at_end leaf.Small = refl
ends_at_end leaf.Slot = refl
ends_at_end leaf.Relation = refl
ends_at_end k = refl

-- how tokens are shown after a token, in a source or among atoms
pub record Showing (o : Origin) (shown : Token → List Token → Text) : Type 0 where
  pub empty : (t : Token) → shown t [] ≡ []
  pub first_is : (t u : Token) (us : List Token) → good_token u ≡ true → FirstOf (is_operand t) u (first (shown t (u ∷ us)))
  pub letters : (c d : ℕ) (us : List Token) → is_letter c ≡ true → is_letter d ≡ true → shown (Coded c) (Coded d ∷ us) ≡ d ∷ shown (Coded d) us

pub leaf_ends : (o : Origin) (shown : Token → List Token → Text) → Showing o shown → (k : Leaf) (w : Text) (ts : List Token) → AllGood ts → Neighbours (Plain k w ∷ ts)
    → ends k (first (shown (Plain k w) ts)) ≡ true
leaf_ends o shown is k w [] g nb = ap (λ (t : Text). ends k (first t)) (is.empty (Plain k w)) ∙ ends_at_end k
leaf_ends o shown is k w (u ∷ us) g nb = ends_next k u (first (shown (Plain k w) (u ∷ us))) nb.0 (is.first_is (Plain k w) u us g.0)

pub line_ends : (o : Origin) (shown : Token → List Token → Text) → Showing o shown → (high low : ℕ) (ts : List Token) → AllGood ts → Neighbours (Lined high low ∷ ts)
    → is_digit (first (shown (Lined high low) ts)) ≡ false
line_ends o shown is high low [] g nb = ap (λ (t : Text). is_digit (first t)) (is.empty (Lined high low))
line_ends o shown is high low (u ∷ us) g nb =
    quiet_digits (first (shown (Lined high low) (u ∷ us))) ((is.first_is (Lined high low) u us g.0).symbol (or_first (is_word_or_sign u) (is_literal u) nb.0) refl)
