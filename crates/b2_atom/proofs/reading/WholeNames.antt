-- What is read of a name is a whole name by itself; and each leaf that is read from a text stands in it.
use Rattle.std.proofs.Common.{◌≡◌, ℕ, suc, ◌+◌, Bool, true, false, if◌then◌else◌, ◌==◌, ◌&&◌, [], ◌∷◌, ◌++◌, map, length, get_or, drop, refl, sym, ap, ◌∙◌, arith, nat_le, inl, inr, ◌⊎◌, append-nil}
use Rattle.std.specs.Prelude.{codes}
use Rattle.std.proofs.lemmas.Bool.Decides.{nat_tests}
use Rattle.b2_base.specs.Lexical.{is_digit, is_letter, skip_blanks, upper}
use Rattle.b2_atom.specs.Words.{Text, kept_byte, ahead, typed_ahead, longer_word, word_at, begins_with}
use Rattle.b2_atom.specs.Leaves.{name_width, is_alpha_name, numeric_name_width, alpha_name_width, local_name_width, function_name_width}
use Rattle.b2_atom.specs.declared.words.TheConstants as word
use Rattle.b2_atom.specs.declared.words.Origin.{Origin}
use Rattle.b2_atom.specs.declared.words.Origin.TheVariants.{Program, Immediate, Atoms}
use Rattle.b2_atom.proofs.Booleans.{false_true, equal}
use Rattle.b2_atom.proofs.typed.Names.{NameShape, numeric_read, alpha_read, width_of, three_shape, two_kinds, too_wide, numeric_of, local_of, named_of, dollar_of, no_width}
use Rattle.b2_atom.proofs.typed.Characters.{is_function_name}
use Rattle.b2_atom.proofs.typed.LeafStarts.{width_yes}
use Rattle.b2_atom.proofs.reading.WholeLeaves.{kept_digit, kept_fixed}

-- the byte of a class that no word has
abbrev IsByteClass : (ℕ → Bool) → Type 0
IsByteClass q = (q 1 ≡ false) × ((n : ℕ) → nat_le 128 n ≡ true → q n ≡ false)

abbrev join_of : Bool → Bool → Bool → ℕ → Text → Text → Text → Text → ℕ × Text
join_of a b d c x y z w = if a then (word.DATASAVE, x) else (if b then (word.DATALOAD, y) else (if d then (word.PRINTUSING, z) else (c, w)))

joined_by : (q : ℕ → Bool) → IsByteClass q → (c : ℕ) (a b d : Bool) (x y z w : Text) → nat_le 128 c ≡ true → q (join_of a b d c x y z w).0 ≡ true → ⊥
joined_by q is c true b d x y z w h k = false_true (sym (is.1 word.DATASAVE refl) ∙ k)
joined_by q is c false true d x y z w h k = false_true (sym (is.1 word.DATALOAD refl) ∙ k)
joined_by q is c false false true x y z w h k = false_true (sym (is.1 word.PRINTUSING refl) ∙ k)
joined_by q is c false false false x y z w h k = false_true (sym (is.1 c h) ∙ k)

joined_class : (q : ℕ → Bool) → IsByteClass q → (c : ℕ) (x : Text) → nat_le 128 c ≡ true → q (longer_word c x).0 ≡ true → ⊥
joined_class q is c x h k =
    joined_by q is c (c == word.DATA && begins_with (codes "SAVE") (skip_blanks x)) (c == word.DATA && begins_with (codes "LOAD") (skip_blanks x))
    (c == word.PRINT && begins_with (codes "USING") (skip_blanks x)) (drop 4 (skip_blanks x)) (drop 4 (skip_blanks x)) (drop 5 (skip_blanks x)) x h k

word_code : (n : ℕ) → nat_le 128 (n + 128) ≡ true
word_code n = grind (arith, nat_tests)

abbrev typed_of : Bool → Bool → ℕ × ℕ → ℕ → Text → ℕ × Text
typed_of z l best a y = if z then (upper a, y) else (if l then (1, drop best.0 (a ∷ y)) else longer_word (best.1 + 128) (drop best.0 (a ∷ y)))

class_by : (q : ℕ → Bool) → IsByteClass q → (best : ℕ × ℕ) (a : ℕ) (y : Text) (z l : Bool) → (best.0 == 0) ≡ z → nat_le word.CODED best.1 ≡ l
    → q (typed_of z l best a y).0 ≡ true → q (upper a) ≡ true
class_by q is best a y true l hz hl h = h
class_by q is best a y false true hz hl h = absurd (false_true (sym is.0 ∙ h))
class_by q is best a y false false hz hl h = absurd (joined_class q is (best.1 + 128) (drop best.0 (a ∷ y)) (word_code best.1) h)

typed_class : (q : ℕ → Bool) → IsByteClass q → (a : ℕ) (y : Text) → q (typed_ahead (a ∷ y)).0 ≡ true → q (upper a) ≡ true
typed_class q is a y h = class_by q is (word_at (a ∷ y)) a y ((word_at (a ∷ y)).0 == 0) (nat_le word.CODED (word_at (a ∷ y)).1) refl refl h

-- where a byte of such a class stands, it is that byte as it is kept
pub class_kept : (o : Origin) (q : ℕ → Bool) → IsByteClass q → (a : ℕ) (y : Text) → q (ahead o (a ∷ y)).0 ≡ true → q (kept_byte o a) ≡ true
class_kept Program q is a y h = typed_class q is a y h
class_kept Immediate q is a y h = typed_class q is a y h
class_kept Atoms q is a y h = h

no_letter_word : (n : ℕ) → nat_le 128 n ≡ true → is_letter n ≡ false
no_letter_word n h = grind (arith, nat_tests)

no_sign_word : (n : ℕ) → nat_le 128 n ≡ true → (n == 64) ≡ false
no_sign_word n h = grind (arith, nat_tests)

no_name_word : (n : ℕ) → nat_le 128 n ≡ true → is_function_name n ≡ false
no_name_word n h = grind (arith, nat_tests)

letters : IsByteClass is_letter
letters = (refl, no_letter_word)

signs : IsByteClass (λ n. n == 64)
signs = (refl, no_sign_word)

functions : IsByteClass is_function_name
functions = (refl, no_name_word)

-- the shape of a name as it is kept
kept_two : (o : Origin) (a b : ℕ) (y : Text) → ((is_letter (ahead o (a ∷ y)).0 ≡ true) × (is_digit b ≡ true)) ⊎ ((((ahead o (a ∷ y)).0 == 64) ≡ true) × (is_letter (kept_byte o b) ≡ true))
    → NameShape (kept_byte o a ∷ kept_byte o b ∷ [])
kept_two o a b y (inl h) = inl (class_kept o is_letter letters a y h.0, kept_digit o b ∙ h.1)
kept_two o a b y (inr h) = inr (equal (kept_byte o a) 64 (class_kept o (λ n. n == 64) signs a y h.0), h.1)

first_letter : (l d g e : Bool) → width_of l d g e ≡ 1 → l ≡ true
first_letter true d g e h = refl
first_letter false d true true h = absurd (omega arith)
first_letter false d true false h = absurd (omega arith)
first_letter false d false e h = cc

kept_one : (o : Origin) (a : ℕ) (y : Text) → width_of (is_letter (ahead o (a ∷ y)).0) (is_digit (get_or y 0 0)) ((ahead o (a ∷ y)).0 == 64 && is_letter (kept_byte o (get_or y 0 0))) (is_digit (get_or y 1 0)) ≡ 1
    → NameShape (kept_byte o a ∷ [])
kept_one o a y h =
    class_kept o is_letter letters a y
    (first_letter (is_letter (ahead o (a ∷ y)).0) (is_digit (get_or y 0 0)) ((ahead o (a ∷ y)).0 == 64 && is_letter (kept_byte o (get_or y 0 0))) (is_digit (get_or y 1 0)) h)

kept_three : (o : Origin) (a b c : ℕ) (y : Text)
    → width_of (is_letter (ahead o (a ∷ b ∷ c ∷ y)).0) (is_digit b) ((ahead o (a ∷ b ∷ c ∷ y)).0 == 64 && is_letter (kept_byte o b)) (is_digit c) ≡ 3 → NameShape (kept_byte o a ∷ kept_byte o b ∷ kept_byte o c ∷ [])
kept_three o a b c y h =
    let is = three_shape (is_letter (ahead o (a ∷ b ∷ c ∷ y)).0) (is_digit b) ((ahead o (a ∷ b ∷ c ∷ y)).0 == 64) (is_letter (kept_byte o b)) (is_digit c) h in
    (equal (kept_byte o a) 64 (class_kept o (λ n. n == 64) signs a (b ∷ c ∷ y) is.0), (is.1.0, kept_digit o c ∙ is.1.1))

name_kept : (o : Origin) (a : ℕ) (w x : Text) → name_width o (a ∷ (w ++ x)) ≡ suc (length w) → NameShape (map (kept_byte o) (a ∷ w))
name_kept o a [] x h = kept_one o a x h
name_kept o a (b ∷ []) x h =
    kept_two o a b (b ∷ x) (two_kinds (is_letter (ahead o (a ∷ b ∷ x)).0) (is_digit b) ((ahead o (a ∷ b ∷ x)).0 == 64) (is_letter (kept_byte o b)) (is_digit (get_or x 0 0)) h)
name_kept o a (b ∷ c ∷ []) x h = kept_three o a b c x h
name_kept o a (b ∷ c ∷ d ∷ w) x h =
    let t : Text = a ∷ b ∷ c ∷ d ∷ (w ++ x) in
    absurd (too_wide (is_letter (ahead o t).0) (is_digit b) ((ahead o t).0 == 64 && is_letter (kept_byte o b)) (is_digit c) (length w) h)

pub length_kept : (o : Origin) (w : Text) → length (map (kept_byte o) w) ≡ length w
length_kept o [] = refl
length_kept o (b ∷ w) = ap suc (length_kept o w)

-- a name of a number
whole_numeric : (w : Text) → NameShape w → numeric_name_width Atoms w ≡ length w
whole_numeric [] h = absurd h
whole_numeric (a ∷ w) h =
    ap (numeric_name_width Atoms) (sym (append-nil (a ∷ w))) ∙ (numeric_read Atoms a w [] h refl refl refl).numeric

pub name_whole : (o : Origin) (a : ℕ) (w x : Text) → numeric_name_width o (a ∷ (w ++ x)) ≡ suc (length w) → numeric_name_width Atoms (map (kept_byte o) (a ∷ w)) ≡ suc (length w)
name_whole o a w x h =
    whole_numeric (map (kept_byte o) (a ∷ w)) (name_kept o a w x (numeric_of (is_alpha_name o (a ∷ (w ++ x))) (name_width o (a ∷ (w ++ x))) (length w) h)) ∙ ap suc (length_kept o w)

kept_sign : (o : Origin) (a : ℕ) → (kept_byte o a == 64) ≡ (a == 64)
kept_sign o a = kept_fixed o a 64 refl

pub local_whole : (o : Origin) (a : ℕ) (w x : Text) → local_name_width o (a ∷ (w ++ x)) ≡ suc (length w) → local_name_width Atoms (map (kept_byte o) (a ∷ w)) ≡ suc (length w)
local_whole o a w x h =
    let is = local_of (a == 64) (numeric_name_width o (a ∷ (w ++ x))) (length w) h in
    ap (λ (b : Bool). if b then 0 else numeric_name_width Atoms (map (kept_byte o) (a ∷ w))) (kept_sign o a ∙ is.0) ∙ name_whole o a w x is.1

-- a name of an alpha value
whole_alpha : (a : ℕ) (w : Text) → NameShape (a ∷ w) → alpha_name_width Atoms (a ∷ (w ++ 36 ∷ [])) ≡ suc (length w) + 1
whole_alpha a w h = (alpha_read Atoms a w [] h).named

map_last : (o : Origin) (v : Text) (d : ℕ) → map (kept_byte o) (v ++ d ∷ []) ≡ map (kept_byte o) v ++ kept_byte o d ∷ []
map_last o [] d = refl
map_last o (b ∷ v) d = ap (λ (l : Text). kept_byte o b ∷ l) (map_last o v d)

last_kept : (o : Origin) (a : ℕ) (v : Text) (d : ℕ) → map (kept_byte o) (a ∷ (v ++ d ∷ [])) ≡ kept_byte o a ∷ (map (kept_byte o) v ++ kept_byte o d ∷ [])
last_kept o a v d = ap (λ (l : Text). kept_byte o a ∷ l) (map_last o v d)

kept_dollar : (o : Origin) → kept_byte o 36 ≡ 36
kept_dollar Program = refl
kept_dollar Immediate = refl
kept_dollar Atoms = refl

alpha_by : (o : Origin) (a : ℕ) (v : Text) (d : ℕ) (n : ℕ) → NameShape (map (kept_byte o) (a ∷ v)) → d ≡ 36 → suc (length v) + 1 ≡ n
    → alpha_name_width Atoms (map (kept_byte o) (a ∷ (v ++ d ∷ []))) ≡ n
alpha_by o a v d n shape is long =
    ap (alpha_name_width Atoms) (last_kept o a v d ∙ ap (λ (k : ℕ). kept_byte o a ∷ (map (kept_byte o) v ++ k ∷ [])) (ap (kept_byte o) is ∙ kept_dollar o))
    ∙ whole_alpha (kept_byte o a) (map (kept_byte o) v) shape ∙ ap (λ (m : ℕ). suc m + 1) (length_kept o v) ∙ long

pub alpha_whole : (o : Origin) (a : ℕ) (w x : Text) → alpha_name_width o (a ∷ (w ++ x)) ≡ suc (length w) → alpha_name_width Atoms (map (kept_byte o) (a ∷ w)) ≡ suc (length w)
alpha_whole o a [] x h =
    let t : Text = a ∷ x in
    let is = named_of (is_alpha_name o t) (name_width o t) 0 h in
    absurd (no_width (name_width o t) (get_or t (name_width o t) 0 == 36) is.1 is.0)
alpha_whole o a (b ∷ []) x h =
    let t : Text = a ∷ b ∷ x in
    let is = named_of (is_alpha_name o t) (name_width o t) 1 h in
    alpha_by o a [] b 2 (kept_one o a (b ∷ x) is.1) (dollar_of t (name_width o t) 0 is.1 is.0) refl
alpha_whole o a (b ∷ c ∷ []) x h =
    let t : Text = a ∷ b ∷ c ∷ x in
    let is = named_of (is_alpha_name o t) (name_width o t) 2 h in
    alpha_by o a (b ∷ []) c 3 (name_kept o a (b ∷ []) (c ∷ x) is.1) (dollar_of t (name_width o t) 1 is.1 is.0) refl
alpha_whole o a (b ∷ c ∷ d ∷ []) x h =
    let t : Text = a ∷ b ∷ c ∷ d ∷ x in
    let is = named_of (is_alpha_name o t) (name_width o t) 3 h in
    alpha_by o a (b ∷ c ∷ []) d 4 (name_kept o a (b ∷ c ∷ []) (d ∷ x) is.1) (dollar_of t (name_width o t) 2 is.1 is.0) refl
alpha_whole o a (b ∷ c ∷ d ∷ e ∷ w) x h =
    let t : Text = a ∷ b ∷ c ∷ d ∷ e ∷ (w ++ x) in
    let is = named_of (is_alpha_name o t) (name_width o t) (suc (suc (suc (suc (length w))))) h in
    absurd (too_wide (is_letter (ahead o t).0) (is_digit b) ((ahead o t).0 == 64 && is_letter (kept_byte o b)) (is_digit c) (length w) is.1)

-- a function's name
pub function_whole : (o : Origin) (a : ℕ) (w x : Text) → function_name_width o (a ∷ (w ++ x)) ≡ suc (length w) → function_name_width Atoms (map (kept_byte o) (a ∷ w)) ≡ suc (length w)
function_whole o a w x h =
    let is = width_yes (is_function_name (ahead o (a ∷ (w ++ x))).0) 1 (length w) h in
    ap (λ (b : Bool). if b then 1 else 0) (class_kept o is_function_name functions a (w ++ x) is.0) ∙ is.1
