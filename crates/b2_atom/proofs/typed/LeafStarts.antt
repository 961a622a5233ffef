-- What a whole leaf begins with.
use Rattle.std.proofs.Common.{◌≡◌, ℕ, suc, ◌+◌, Bool, true, false, not, if◌then◌else◌, ◌==◌, ◌||◌, ◌&&◌, [], ◌∷◌, length, get_or, drop, refl, sym, ap, ◌∙◌, arith, nat_le, nat_lt, inl, inr}
use Rattle.std.proofs.lemmas.Bool.Decides.{nat_tests}
use Rattle.b2_base.specs.Lexical.{capped_value, digits_width, first, is_digit, is_hex_digit, is_letter}
use Rattle.b2_atom.specs.Words.{Text}
use Rattle.b2_atom.specs.Leaves.{number_width, number_width_by, mantissa_of, mantissa_width, one_more, leaf_width, until_quote, relation_length}
use Rattle.b2_atom.specs.declared.words.Origin.TheVariants.{Atoms}
use Rattle.b2_atom.specs.declared.forms.Leaf.{Leaf}
use Rattle.b2_atom.specs.declared.forms.Leaf.TheVariants as leaf
use Rattle.b2_atom.proofs.Booleans.{and_left, or_one}
use Rattle.b2_atom.proofs.typed.Names.{NameShape, numeric_shape, local_shape, alpha_shape}
use Rattle.b2_atom.proofs.typed.Characters.{function_of, is_function_name, image_front}

-- the first byte of each kind
abbrev pub front : Leaf → ℕ → Bool
front leaf.Number a = is_digit a || a == 46
front leaf.SignedNumber a = (a == 43 || a == 45) || (is_digit a || a == 46)
front leaf.Name a = is_letter a || a == 64
front leaf.AlphaName a = is_letter a || a == 64
front leaf.LocalName a = is_letter a
front leaf.FunctionName a = is_letter a || is_digit a
front leaf.Literal a = a == 34
front leaf.LineNumber a = false
front leaf.HexPair a = is_hex_digit a
front leaf.HexDigit a = is_hex_digit a
front leaf.Address a = is_hex_digit a
front leaf.Slot a = a == 35
front leaf.Small a = is_digit a
front leaf.Image a = not (a == 32)
front leaf.Text a = false
front leaf.Relation a = a == 60 || (a == 61 || a == 62)

pub width_yes : (b : Bool) (n m : ℕ) → (if b then n else 0) ≡ suc m → (b ≡ true) × (n ≡ suc m)
width_yes true n m h = (refl, h)
width_yes false n m h = cc

no_digits : (a : ℕ) (w : Text) → is_digit a ≡ false → digits_width (a ∷ w) ≡ 0
no_digits a w h = rw h refl

no_mantissa : (a : ℕ) (w : Text) → is_digit a ≡ false → (a == 46) ≡ false → mantissa_width (a ∷ w) ≡ 0
no_mantissa a w h k =
    ap (λ (m : ℕ). if get_or (a ∷ w) m 0 == 46 then mantissa_of m (digits_width (drop (m + 1) (a ∷ w))) else m) (no_digits a w h)
    ∙ ap (λ (b : Bool). if b then mantissa_of 0 (digits_width (drop (0 + 1) (a ∷ w))) else 0) k

number_by : (a : ℕ) (w : Text) (n : ℕ) (b c : Bool) → is_digit a ≡ b → (a == 46) ≡ c → number_width Atoms (a ∷ w) ≡ suc n → (b || c) ≡ true
number_by a w n true c hb hc h = refl
number_by a w n false true hb hc h = refl
number_by a w n false false hb hc h =
    let none : 0 ≡ suc n = sym (ap (λ (m : ℕ). number_width_by Atoms m (a ∷ w)) (no_mantissa a w hb hc)) ∙ h in cc

number_front : (a : ℕ) (w : Text) (n : ℕ) → number_width Atoms (a ∷ w) ≡ suc n → (is_digit a || a == 46) ≡ true
number_front a w n h = number_by a w n (is_digit a) (a == 46) refl refl h

signed_by : (a : ℕ) (w : Text) (n : ℕ) (b : Bool) → (if b then one_more (number_width Atoms w) else number_width Atoms (a ∷ w)) ≡ suc n → (b || (is_digit a || a == 46)) ≡ true
signed_by a w n true h = refl
signed_by a w n false h = number_front a w n h

shape_front : (a : ℕ) (w : Text) → NameShape (a ∷ w) → (is_letter a || a == 64) ≡ true
shape_front a [] h = or_one (is_letter a) (a == 64) h
shape_front a (b ∷ []) (inl h) = or_one (is_letter a) (a == 64) h.0
shape_front a (b ∷ []) (inr h) = ap (λ (n : ℕ). is_letter n || n == 64) h.0
shape_front a (b ∷ c ∷ []) h = ap (λ (n : ℕ). is_letter n || n == 64) h.0
shape_front a (b ∷ c ∷ d ∷ w) h = absurd h

letter_only : (a : ℕ) → (is_letter a || a == 64) ≡ true → (a == 64) ≡ false → is_letter a ≡ true
letter_only a h k = grind (arith, nat_tests)

pub relation_front : (a b n : ℕ) → relation_length a b ≡ suc n → (a == 60 || (a == 61 || a == 62)) ≡ true
relation_front a b n h = grind (arith, nat_tests)

pub turned : (b : Bool) → b ≡ false → not b ≡ true
turned true h = cc
turned false h = refl

pub leaf_front : (k : Leaf) (a : ℕ) (w : Text) → leaf_width Atoms k (a ∷ w) ≡ suc (length w) → front k a ≡ true
leaf_front leaf.Number a w h = number_front a w (length w) h
leaf_front leaf.SignedNumber a w h = signed_by a w (length w) (a == 43 || a == 45) h
leaf_front leaf.Name a w h = shape_front a w (numeric_shape a w h)
leaf_front leaf.AlphaName a w h =
    let s = alpha_shape a w h in ap (λ (l : Text). is_letter (first l) || first l == 64) s.is ∙ shape_front s.head s.rest s.shape
leaf_front leaf.LocalName a w h = let s = local_shape a w h in letter_only a (shape_front a w s.1) s.0
leaf_front leaf.FunctionName a w h = (function_of (is_function_name a) (length w) h).0
leaf_front leaf.Literal a w h =
    and_left (a == 34) _ (width_yes (a == 34 && (nat_lt 0 (until_quote w) && get_or (a ∷ w) (until_quote w + 1) 0 == 34)) (until_quote w + 2) (length w) h).0
leaf_front leaf.LineNumber a w h = cc
leaf_front leaf.HexPair a w h = and_left (is_hex_digit a) (is_hex_digit (get_or w 0 0)) (width_yes (is_hex_digit a && is_hex_digit (get_or w 0 0)) 2 (length w) h).0
leaf_front leaf.HexDigit a w h = (width_yes (is_hex_digit a) 1 (length w) h).0
leaf_front leaf.Address a w h =
    and_left (is_hex_digit a) (is_hex_digit (get_or w 0 0) && is_hex_digit (get_or w 1 0)) (width_yes (is_hex_digit a && (is_hex_digit (get_or w 0 0) && is_hex_digit (get_or w 1 0))) 3 (length w) h).0
leaf_front leaf.Slot a w h =
    and_left (a == 35) _ (width_yes (a == 35 && (nat_lt 0 (digits_width w) && nat_le (capped_value 999 0 w) 15)) (digits_width w + 1) (length w) h).0
leaf_front leaf.Small a w h =
    (width_yes (is_digit a) (suc (digits_width w)) (length w) (width_yes (nat_le (capped_value 999 0 (a ∷ w)) 255) (digits_width (a ∷ w)) (length w) h).1).0
leaf_front leaf.Image a w h = turned (a == 32) (image_front a w h)
leaf_front leaf.Text a w h = cc
leaf_front leaf.Relation a w h = relation_front a (get_or w 0 0) (length w) h
