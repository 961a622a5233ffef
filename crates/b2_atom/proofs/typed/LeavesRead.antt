-- What is typed by hand is read where it stands, in a source as among atoms, before what doesn't run on.
use Rattle.std.proofs.Common.{◌≡◌, ℕ, suc, ◌+◌, Bool, true, false, not, if◌then◌else◌, ◌==◌, ◌||◌, [], ◌∷◌, ◌++◌, map, length, take, drop, refl, sym, ap, ◌∙◌, arith, length-append, append_assoc, Err}
use Rattle.std.proofs.Math.Seq.{drop-append_seam, take-append_seam}
use Rattle.std.proofs.lemmas.Bool.Decides.{nat_tests}
use Rattle.b2_base.specs.Lexical.{first, is_digit, is_letter, upper}
use Rattle.b2_atom.specs.Words.{Text, kept_byte}
use Rattle.b2_atom.specs.Tokens.{kept_text}
use Rattle.b2_atom.specs.Tokens.Token.{Plain}
use Rattle.b2_atom.specs.Tree.{one}
use Rattle.b2_atom.specs.Leaves.{numeric_name_width, leaf_width, missing}
use Rattle.b2_atom.specs.Grammar.{plain, plain_of}
use Rattle.b2_atom.specs.declared.words.Origin.{Origin}
use Rattle.b2_atom.specs.declared.words.Origin.TheVariants.{Program, Immediate, Atoms}
use Rattle.b2_atom.specs.declared.forms.Leaf.{Leaf}
use Rattle.b2_atom.specs.declared.forms.Leaf.TheVariants as leaf
use Rattle.b2_atom.proofs.Booleans.{and_left, and_right, equal, not_true}
use Rattle.b2_atom.proofs.typed.Longest.{every}
use Rattle.b2_atom.proofs.typed.Widths.{ends_number, number_more, signed_number_more, small_more, slot_more, literal_more}
use Rattle.b2_atom.proofs.typed.Names.{numeric_shape, numeric_read, local_shape, alpha_shape, alpha_read}
use Rattle.b2_atom.proofs.typed.Characters.{hex_digit_more, hex_pair_more, address_more, function_name_more, function_of, is_function_name, ends_relation, relation_more, image_more}

-- a byte after the name of a number: no digit, no `$`, no letter
abbrev pub ends_name : ℕ → Bool
ends_name n = not (is_digit n || (n == 36 || is_letter (upper n)))

-- whether what is typed by hand ends before a byte
abbrev pub ends : Leaf → ℕ → Bool
ends leaf.Number n = ends_number n
ends leaf.SignedNumber n = ends_number n
ends leaf.Name n = ends_name n
ends leaf.LocalName n = ends_name n
ends leaf.FunctionName n = not (is_letter (upper n))
ends leaf.Small n = not (is_digit n)
ends leaf.Slot n = not (is_digit n)
ends leaf.Relation n = ends_relation n
ends k n = true

pub name_digit : (n : ℕ) → ends_name n ≡ true → is_digit n ≡ false
name_digit n h = grind (arith, nat_tests)

pub name_letter : (n : ℕ) → ends_name n ≡ true → is_letter (upper n) ≡ false
name_letter n h = grind (arith, nat_tests)

pub name_dollar : (n : ℕ) → ends_name n ≡ true → (n == 36) ≡ false
name_dollar n h = grind (arith, nat_tests)

-- before the end of what stands there, `$` and what follows it
pub dollar_before : (a : ℕ) (w : Text) (h : ℕ) (r x : Text) → a ∷ w ≡ h ∷ (r ++ 36 ∷ []) → a ∷ (w ++ x) ≡ h ∷ (r ++ 36 ∷ x)
dollar_before a w h r x is = ap (λ (l : Text). l ++ x) is ∙ append_assoc (h ∷ r) (36 ∷ []) x

pub dollar_long : (a : ℕ) (w : Text) (h : ℕ) (r : Text) → a ∷ w ≡ h ∷ (r ++ 36 ∷ []) → suc (length r) + 1 ≡ suc (length w)
dollar_long a w h r is = let same = ap length is in omega (arith, length-append r (36 ∷ []))

no_zero : (n : ℕ) → ◌≡◌ {A = ℕ} 0 (suc n) → ⊥
no_zero n h = cc

function_more : (o : Origin) (a : ℕ) (w x : Text) → leaf_width Atoms leaf.FunctionName (a ∷ w) ≡ suc (length w) → is_letter (upper (first x)) ≡ false
    → leaf_width o leaf.FunctionName (a ∷ (w ++ x)) ≡ suc (length w)
function_more o a [] x h stop = function_name_more o a [] x h stop
function_more o a (b ∷ w) x h stop = let is = function_of (is_function_name a) (suc (length w)) h in absurd (no_zero (length w) is.1)

-- a whole leaf keeps its width
pub leaf_more : (o : Origin) (k : Leaf) (a : ℕ) (w x : Text) → leaf_width Atoms k (a ∷ w) ≡ suc (length w) → ends k (first x) ≡ true
    → leaf_width o k (a ∷ (w ++ x)) ≡ suc (length w)
leaf_more o leaf.Number a w x h stop = number_more o a w x h stop
leaf_more o leaf.SignedNumber a w x h stop = signed_number_more o a w x h stop
leaf_more o leaf.Name a w x h stop = (numeric_read o a w x (numeric_shape a w h) (name_digit (first x) stop) (name_letter (first x) stop) (name_dollar (first x) stop)).numeric
leaf_more o leaf.AlphaName a w x h stop =
    let s = alpha_shape a w h in
    ap (leaf_width o leaf.AlphaName) (dollar_before a w s.head s.rest x s.is) ∙ (alpha_read o s.head s.rest x s.shape).named ∙ dollar_long a w s.head s.rest s.is
leaf_more o leaf.LocalName a w x h stop =
    let s = local_shape a w h in
    ap (λ (b : Bool). if b then 0 else numeric_name_width o (a ∷ (w ++ x))) s.0
    ∙ (numeric_read o a w x s.1 (name_digit (first x) stop) (name_letter (first x) stop) (name_dollar (first x) stop)).numeric
leaf_more o leaf.FunctionName a w x h stop = function_more o a w x h (not_true (is_letter (upper (first x))) stop)
leaf_more o leaf.Literal a w x h stop = literal_more a w x h
leaf_more o leaf.LineNumber a w x h stop = cc
leaf_more o leaf.HexPair a w x h stop = hex_pair_more o a w x h
leaf_more o leaf.HexDigit a w x h stop = hex_digit_more o a w x h
leaf_more o leaf.Address a w x h stop = address_more o a w x h
leaf_more o leaf.Slot a w x h stop = slot_more a w x (not_true (is_digit (first x)) stop) ∙ h
leaf_more o leaf.Small a w x h stop = small_more (a ∷ w) x (not_true (is_digit (first x)) stop) ∙ h
leaf_more o leaf.Image a w x h stop = image_more o a w x h
leaf_more o leaf.Text a w x h stop = cc
leaf_more o leaf.Relation a w x h stop = relation_more a w x h stop

-- no small letters
abbrev pub all_upper : Text → Bool
all_upper w = every (λ b. upper b == b) w

one_kept : (o : Origin) (b : ℕ) → (upper b == b) ≡ true → kept_byte o b ≡ b
one_kept Program b h = equal (upper b) b h
one_kept Immediate b h = equal (upper b) b h
one_kept Atoms b h = refl

pub kept_upper : (o : Origin) (w : Text) → all_upper w ≡ true → map (kept_byte o) w ≡ w
kept_upper o [] h = refl
kept_upper o (b ∷ w) h =
    λ i. one_kept o b (and_left (upper b == b) (all_upper w) h) i ∷ kept_upper o w (and_right (upper b == b) (all_upper w) h) i

-- literals and free text may have small letters
abbrev pub is_free : Leaf → Bool
is_free leaf.Literal = true
is_free leaf.Text = true
is_free k = false

pub kept_leaf : (o : Origin) (k : Leaf) (w : Text) → (is_free k || all_upper w) ≡ true → kept_text o k w ≡ w
kept_leaf o leaf.Number w h = kept_upper o w h
kept_leaf o leaf.SignedNumber w h = kept_upper o w h
kept_leaf o leaf.Name w h = kept_upper o w h
kept_leaf o leaf.AlphaName w h = kept_upper o w h
kept_leaf o leaf.LocalName w h = kept_upper o w h
kept_leaf o leaf.FunctionName w h = kept_upper o w h
kept_leaf o leaf.Literal w h = refl
kept_leaf o leaf.LineNumber w h = kept_upper o w h
kept_leaf o leaf.HexPair w h = kept_upper o w h
kept_leaf o leaf.HexDigit w h = kept_upper o w h
kept_leaf o leaf.Address w h = kept_upper o w h
kept_leaf o leaf.Slot w h = kept_upper o w h
kept_leaf o leaf.Small w h = kept_upper o w h
kept_leaf o leaf.Image w h = kept_upper o w h
kept_leaf o leaf.Text w h = refl
kept_leaf o leaf.Relation w h = kept_upper o w h

not_zero : (n : ℕ) → (suc n == 0) ≡ false
not_zero n = grind (arith, nat_tests)

plain_by : (o : Origin) (k : Leaf) (code : ℕ) (t x : Text) (n : ℕ) → length t ≡ suc n → kept_text o k t ≡ t → plain_of o k code (suc n) (t ++ x) ≡ one (Plain k t) x
plain_by o k code t x n long same =
    ap (λ (b : Bool). if b then Err (missing o k code (t ++ x)) else one (Plain k (kept_text o k (take (suc n) (t ++ x)))) (drop (suc n) (t ++ x))) (not_zero n)
    ∙ ap (λ (m : ℕ). one (Plain k (kept_text o k (take m (t ++ x)))) (drop m (t ++ x))) (sym long)
    ∙ (λ i. one (Plain k (kept_text o k (take-append_seam t x i))) (drop-append_seam t x i))
    ∙ ap (λ (l : Text). one (Plain k l) x) same

-- a whole leaf is read
pub leaf_read : (o : Origin) (k : Leaf) (code a : ℕ) (w x : Text) → leaf_width Atoms k (a ∷ w) ≡ suc (length w) → (is_free k || all_upper (a ∷ w)) ≡ true
    → ends k (first x) ≡ true → plain o k code (a ∷ (w ++ x)) ≡ one (Plain k (a ∷ w)) x
leaf_read o k code a w x h up stop =
    ap (λ (n : ℕ). plain_of o k code n (a ∷ (w ++ x))) (leaf_more o k a w x h stop)
    ∙ plain_by o k code (a ∷ w) x (length w) refl (kept_leaf o k (a ∷ w) up)
