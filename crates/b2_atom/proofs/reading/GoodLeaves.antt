-- What is read of what is typed by hand is a good token: a whole leaf, a line number of decimal digits, or free text.
use Rattle.std.proofs.Common.{◌≡◌, ℕ, zero, suc, ◌+◌, ◌*◌, ◌/◌, ◌%◌, ◌<◌, ◌≤◌, Bool, true, false, not, if◌then◌else◌, ◌==◌, ◌||◌, ◌&&◌, [], ◌∷◌, ◌++◌, map, length, get_or, take, drop, min, refl, sym, ap, ◌∙◌, arith, nat_le, nat_lt, inl, inr, ◌⊎◌, length-drop, Ok, Err}
use Rattle.std.proofs.lemmas.List.{take-append-drop}
use Rattle.std.proofs.lemmas.Bool.Decides.{nat_tests}
use Rattle.b2_base.specs.Lexical.{all_printable, capped_value, digits_width, first, is_decimal, is_digit, is_hex_digit, is_letter}
use Rattle.b2_atom.specs.Words.{Text, kept_byte, ahead, skipped}
use Rattle.b2_atom.specs.Tokens.{kept_text}
use Rattle.b2_atom.specs.Tokens.Token.{Plain, Lined}
use Rattle.b2_atom.specs.Tree.{Trees, Outcome, one}
use Rattle.b2_atom.specs.Tree.Trees.{Done, Put}
use Rattle.b2_atom.specs.Leaves.{number_width, mantissa_of, mantissa_width, sign_width, exponent_of, exponent_width, one_more, signed_number_width, name_width, is_alpha_name, numeric_name_width, leaf_width, until_quote, relation_length, until_parenthesis, missing, refused}
use Rattle.b2_atom.specs.Grammar.{read_leaf, plain_of, line_number_at, typed_line_number, two_digits, line_digit, atoms_line_number, text_to_end}
use Rattle.b2_atom.specs.Spelling.{is_whole, good_token}
use Rattle.b2_atom.specs.declared.words.Origin.{Origin}
use Rattle.b2_atom.specs.declared.words.Origin.TheVariants.{Program, Immediate, Atoms}
use Rattle.b2_atom.specs.declared.forms.Leaf.{Leaf}
use Rattle.b2_atom.specs.declared.forms.Leaf.TheVariants as leaf
use Rattle.b2_atom.specs.declared.output.Stop.{Stop}
use Rattle.b2_atom.specs.declared.output.Stop.TheVariants.{At}
use Rattle.b2_atom.proofs.Booleans.{and_right, false_true, both}
use Rattle.b2_atom.proofs.typed.WordsRead.{typed_end}
use Rattle.b2_atom.proofs.typed.Widths.{get_none, digits_most, if_most}
use Rattle.b2_atom.proofs.typed.Names.{width_of, no_name}
use Rattle.b2_atom.proofs.typed.Characters.{is_function_name}
use Rattle.b2_atom.proofs.typed.LeafStarts.{width_yes}
use Rattle.b2_atom.proofs.spelling.SideBySide.{is_text}
use Rattle.b2_atom.proofs.reading.WholeLeaves.{number_kept, number_back, signed_kept, signed_back, slot_kept, slot_back, small_kept, small_back, image_kept, image_back, relation_kept_text, relation_back, literal_back}
use Rattle.b2_atom.proofs.reading.WholeNames.{name_whole, local_whole, alpha_whole, function_whole, length_kept}

-- the part of a text that is read is a whole leaf
pair_whole : (o : Origin) (a : ℕ) (w x : Text) → leaf_width o leaf.HexPair (a ∷ (w ++ x)) ≡ suc (length w) → leaf_width Atoms leaf.HexPair (map (kept_byte o) (a ∷ w)) ≡ suc (length w)
pair_whole o a [] x h = let is = (width_yes (is_hex_digit (kept_byte o a) && is_hex_digit (kept_byte o (get_or x 0 0))) 2 0 h).1 in absurd (omega arith)
pair_whole o a (b ∷ []) x h = h
pair_whole o a (b ∷ c ∷ w) x h = let is = (width_yes (is_hex_digit (kept_byte o a) && is_hex_digit (kept_byte o b)) 2 (suc (suc (length w))) h).1 in absurd (omega arith)

digit_whole : (o : Origin) (a : ℕ) (w x : Text) → leaf_width o leaf.HexDigit (a ∷ (w ++ x)) ≡ suc (length w) → leaf_width Atoms leaf.HexDigit (map (kept_byte o) (a ∷ w)) ≡ suc (length w)
digit_whole o a [] x h = h
digit_whole o a (b ∷ w) x h = let is = (width_yes (is_hex_digit (kept_byte o a)) 1 (suc (length w)) h).1 in absurd (omega arith)

address_whole : (o : Origin) (a : ℕ) (w x : Text) → leaf_width o leaf.Address (a ∷ (w ++ x)) ≡ suc (length w) → leaf_width Atoms leaf.Address (map (kept_byte o) (a ∷ w)) ≡ suc (length w)
address_whole o a [] x h = let is = (width_yes (is_hex_digit (kept_byte o a) && (is_hex_digit (kept_byte o (get_or x 0 0)) && is_hex_digit (kept_byte o (get_or x 1 0)))) 3 0 h).1 in absurd (omega arith)
address_whole o a (b ∷ []) x h = let is = (width_yes (is_hex_digit (kept_byte o a) && (is_hex_digit (kept_byte o b) && is_hex_digit (kept_byte o (get_or x 0 0)))) 3 1 h).1 in absurd (omega arith)
address_whole o a (b ∷ c ∷ []) x h = h
address_whole o a (b ∷ c ∷ d ∷ w) x h = let is = (width_yes (is_hex_digit (kept_byte o a) && (is_hex_digit (kept_byte o b) && is_hex_digit (kept_byte o c))) 3 (suc (suc (suc (length w)))) h).1 in absurd (omega arith)

pub whole_part : (o : Origin) (k : Leaf) (a : ℕ) (w x : Text) → leaf_width o k (a ∷ (w ++ x)) ≡ suc (length w) → leaf_width Atoms k (kept_text o k (a ∷ w)) ≡ suc (length w)
whole_part o leaf.Number a w x h = number_kept o (a ∷ w) ∙ number_back o a w x h
whole_part o leaf.SignedNumber a w x h = signed_kept o (a ∷ w) ∙ signed_back o a w x h
whole_part o leaf.Name a w x h = name_whole o a w x h
whole_part o leaf.AlphaName a w x h = alpha_whole o a w x h
whole_part o leaf.LocalName a w x h = local_whole o a w x h
whole_part o leaf.FunctionName a w x h = function_whole o a w x h
whole_part o leaf.Literal a w x h = literal_back a w x h
whole_part o leaf.LineNumber a w x h = cc
whole_part o leaf.HexPair a w x h = pair_whole o a w x h
whole_part o leaf.HexDigit a w x h = digit_whole o a w x h
whole_part o leaf.Address a w x h = address_whole o a w x h
whole_part o leaf.Slot a w x h = slot_kept o a w ∙ slot_back a w x h
whole_part o leaf.Small a w x h = small_kept o (a ∷ w) ∙ small_back a w x h
whole_part o leaf.Image a w x h = image_kept o a w ∙ image_back o a w x h
whole_part o leaf.Text a w x h = cc
whole_part o leaf.Relation a w x h = relation_kept_text o a w ∙ relation_back a w x h

-- a leaf stands in its text
in_or_behind : (t : Text) (i : ℕ) → (i < length t) ⊎ (length t ≤ i)
in_or_behind t i = grind arith

if_rest : (b : Bool) (x n : ℕ) → x ≤ n → (if b then 0 else x) ≤ n
if_rest true x n h = omega arith
if_rest false x n h = h

inside : (p : ℕ → Bool) (t : Text) (i : ℕ) → p 0 ≡ false → p (get_or t i 0) ≡ true → i < length t
inside p t i at_end h = elim (in_or_behind t i) [ inl less ↦ less | inr none ↦ absurd (false_true (sym at_end ∙ ap p (sym (get_none t i none)) ∙ h)) ]

mantissa_in : (t : Text) (n : ℕ) (c : Bool) → n ≡ digits_width t → (get_or t n 0 == 46) ≡ c → (if c then mantissa_of n (digits_width (drop (n + 1) t)) else n) ≤ length t
mantissa_in t n false hn hc = let most = digits_most t in omega arith
mantissa_in t n true hn hc =
    let less = inside (λ b. b == 46) t n refl hc in
    let most = digits_most (drop (n + 1) t) in
    let fits : n + 1 + digits_width (drop (n + 1) t) ≤ length t = omega (arith, length-drop (n + 1) t) in
    if_rest (n == 0 && digits_width (drop (n + 1) t) == 0) (n + 1 + digits_width (drop (n + 1) t)) (length t) fits

mantissa_most : (t : Text) → mantissa_width t ≤ length t
mantissa_most t = mantissa_in t (digits_width t) (get_or t (digits_width t) 0 == 46) refl refl

exponent_in : (t : Text) (s : ℕ) (a b : Bool) → is_digit (get_or t (1 + s) 0) ≡ a → is_digit (get_or t (2 + s) 0) ≡ b → (if a then (if b then 3 + s else 2 + s) else 0) ≤ length t
exponent_in t s true true ha hb = let less = inside is_digit t (2 + s) refl hb in omega arith
exponent_in t s true false ha hb = let less = inside is_digit t (1 + s) refl ha in omega arith
exponent_in t s false b ha hb = omega arith

exponent_most : (o : Origin) (t : Text) → exponent_width o t ≤ length t
exponent_most o t =
    let s : ℕ = sign_width (get_or t 1 0) in
    if_most (kept_byte o (first t) == 69) (exponent_of s t) (length t) (exponent_in t s (is_digit (get_or t (1 + s) 0)) (is_digit (get_or t (2 + s) 0)) refl refl)

number_most : (o : Origin) (t : Text) → number_width o t ≤ length t
number_most o t =
    let m = mantissa_most t in
    let e = exponent_most o (drop (mantissa_width t) t) in
    let fits : mantissa_width t + exponent_width o (drop (mantissa_width t) t) ≤ length t = omega (arith, length-drop (mantissa_width t) t) in
    if_rest (mantissa_width t == 0) (mantissa_width t + exponent_width o (drop (mantissa_width t) t)) (length t) fits

one_more_most : (n : ℕ) → one_more n ≤ suc n
one_more_most n = grind (arith, nat_tests)

signed_in : (o : Origin) (b : ℕ) (t : Text) (s : Bool) → (if s then one_more (number_width o t) else number_width o (b ∷ t)) ≤ suc (length t)
signed_in o b t true = let m = number_most o t in let one = one_more_most (number_width o t) in omega arith
signed_in o b t false = number_most o (b ∷ t)

signed_most : (o : Origin) (t : Text) → signed_number_width o t ≤ length t
signed_most o [] = number_most o []
signed_most o (b ∷ t) = signed_in o b t (b == 43 || b == 45)

nothing_ahead : (o : Origin) → (ahead o []).0 ≡ 0
nothing_ahead Program = ap (λ (p : ℕ × Text). p.0) typed_end
nothing_ahead Immediate = ap (λ (p : ℕ × Text). p.0) typed_end
nothing_ahead Atoms = refl

no_name_at_end : (o : Origin) → name_width o [] ≡ 0
no_name_at_end o = no_name o [] (ap is_letter (nothing_ahead o)) (ap (λ (n : ℕ). n == 64) (nothing_ahead o))

kept_end : (o : Origin) → is_letter (kept_byte o 0) ≡ false
kept_end Program = refl
kept_end Immediate = refl
kept_end Atoms = refl

name_in : (o : Origin) (y : Text) (l d z g e : Bool) → is_digit (get_or y 0 0) ≡ d → is_letter (kept_byte o (get_or y 0 0)) ≡ g → is_digit (get_or y 1 0) ≡ e
    → width_of l d (z && g) e ≤ suc (length y)
name_in o y true true z g e hd hg he = let less = inside is_digit y 0 refl hd in omega arith
name_in o y true false z g e hd hg he = omega arith
name_in o y false d true true true hd hg he = let less = inside is_digit y 1 refl he in omega arith
name_in o y false d true true false hd hg he = let less = inside (λ b. is_letter (kept_byte o b)) y 0 (kept_end o) hg in omega arith
name_in o y false d true false e hd hg he = omega arith
name_in o y false d false g e hd hg he = omega arith

name_most : (o : Origin) (t : Text) → name_width o t ≤ length t
name_most o [] = let none = no_name_at_end o in omega arith
name_most o (a ∷ y) =
    name_in o y (is_letter (ahead o (a ∷ y)).0) (is_digit (get_or y 0 0)) ((ahead o (a ∷ y)).0 == 64) (is_letter (kept_byte o (get_or y 0 0))) (is_digit (get_or y 1 0)) refl refl refl

numeric_most : (o : Origin) (t : Text) → numeric_name_width o t ≤ length t
numeric_most o t = if_rest (is_alpha_name o t) (name_width o t) (length t) (name_most o t)

local_most : (o : Origin) (t : Text) → leaf_width o leaf.LocalName t ≤ length t
local_most o t = if_rest (first t == 64) (numeric_name_width o t) (length t) (numeric_most o t)

alpha_in : (o : Origin) (t : Text) (n : ℕ) (b : Bool) → (nat_lt 0 n && get_or t n 0 == 36) ≡ b → (if b then n + 1 else 0) ≤ length t
alpha_in o t n true h = let less = inside (λ b. b == 36) t n refl (and_right (nat_lt 0 n) (get_or t n 0 == 36) h) in omega arith
alpha_in o t n false h = omega arith

function_most : (o : Origin) (t : Text) → leaf_width o leaf.FunctionName t ≤ length t
function_most o [] = let none : leaf_width o leaf.FunctionName [] ≡ 0 = ap (λ (n : ℕ). if is_function_name n then 1 else 0) (nothing_ahead o) in omega arith
function_most o (a ∷ t) = if_most (is_function_name (ahead o (a ∷ t)).0) 1 (suc (length t)) (omega arith)

literal_in : (t : Text) (a b c : Bool) (n : ℕ) → (get_or t (n + 1) 0 == 34) ≡ c → (if a && (b && c) then n + 2 else 0) ≤ length t
literal_in t true true true n h = let less = inside (λ b. b == 34) t (n + 1) refl h in omega arith
literal_in t true true false n h = omega arith
literal_in t true false c n h = omega arith
literal_in t false b c n h = omega arith

hex_end : (o : Origin) → is_hex_digit (kept_byte o 0) ≡ false
hex_end Program = refl
hex_end Immediate = refl
hex_end Atoms = refl

hex_inside : (o : Origin) (t : Text) (i : ℕ) → is_hex_digit (kept_byte o (get_or t i 0)) ≡ true → i < length t
hex_inside o t i h = inside (λ b. is_hex_digit (kept_byte o b)) t i (hex_end o) h

pair_in : (o : Origin) (t : Text) (a b : Bool) → is_hex_digit (kept_byte o (get_or t 1 0)) ≡ b → (if a && b then 2 else 0) ≤ length t
pair_in o t true true h = hex_inside o t 1 h
pair_in o t true false h = omega arith
pair_in o t false b h = omega arith

digit_in : (o : Origin) (t : Text) (a : Bool) → is_hex_digit (kept_byte o (get_or t 0 0)) ≡ a → (if a then 1 else 0) ≤ length t
digit_in o t true h = hex_inside o t 0 h
digit_in o t false h = omega arith

address_in : (o : Origin) (t : Text) (a b c : Bool) → is_hex_digit (kept_byte o (get_or t 2 0)) ≡ c → (if a && (b && c) then 3 else 0) ≤ length t
address_in o t true true true h = hex_inside o t 2 h
address_in o t true true false h = omega arith
address_in o t true false c h = omega arith
address_in o t false b c h = omega arith

slot_most : (t : Text) → leaf_width Atoms leaf.Slot t ≤ length t
slot_most [] = omega arith
slot_most (a ∷ t) =
    let most = digits_most t in
    let fits : digits_width t + 1 ≤ suc (length t) = omega arith in
    if_most (a == 35 && (nat_lt 0 (digits_width t) && nat_le (capped_value 999 0 t) 15)) (digits_width t + 1) (suc (length t)) fits

image_in : (t : Text) (a b : Bool) (n : ℕ) → (get_or t n 0 == 41) ≡ b → (if a && b then n + 1 else 0) ≤ length t
image_in t true true n h = let less = inside (λ b. b == 41) t n refl h in omega arith
image_in t true false n h = omega arith
image_in t false b n h = omega arith

relation_some : (a b n : ℕ) → relation_length a b ≡ suc n → (a == 0) ≡ false
relation_some a b n h = grind (arith, nat_tests)

relation_two : (a b : ℕ) → relation_length a b ≤ 2
relation_two a b = grind (arith, nat_tests)

relation_none : (a : ℕ) → relation_length a 0 ≤ 1
relation_none a = grind (arith, nat_tests)

relation_most : (t : Text) → leaf_width Atoms leaf.Relation t ≤ length t
relation_most [] = omega arith
relation_most (a ∷ []) = relation_none a
relation_most (a ∷ b ∷ t) = let two = relation_two a b in omega arith

pub leaf_most : (o : Origin) (k : Leaf) (t : Text) → leaf_width o k t ≤ length t
leaf_most o leaf.Number t = number_most o t
leaf_most o leaf.SignedNumber t = signed_most o t
leaf_most o leaf.Name t = numeric_most o t
leaf_most o leaf.AlphaName t = alpha_in o t (name_width o t) (is_alpha_name o t) refl
leaf_most o leaf.LocalName t = local_most o t
leaf_most o leaf.FunctionName t = function_most o t
leaf_most o leaf.Literal t =
    literal_in t (first t == 34) (nat_lt 0 (until_quote (drop 1 t))) (get_or t (until_quote (drop 1 t) + 1) 0 == 34) (until_quote (drop 1 t)) refl
leaf_most o leaf.LineNumber t = omega arith
leaf_most o leaf.HexPair t = pair_in o t (is_hex_digit (kept_byte o (get_or t 0 0))) (is_hex_digit (kept_byte o (get_or t 1 0))) refl
leaf_most o leaf.HexDigit t = digit_in o t (is_hex_digit (kept_byte o (get_or t 0 0))) refl
leaf_most o leaf.Address t = address_in o t (is_hex_digit (kept_byte o (get_or t 0 0))) (is_hex_digit (kept_byte o (get_or t 1 0))) (is_hex_digit (kept_byte o (get_or t 2 0))) refl
leaf_most o leaf.Slot t = slot_most t
leaf_most o leaf.Small t = if_most (nat_le (capped_value 999 0 t) 255) (digits_width t) (length t) (digits_most t)
leaf_most o leaf.Image t = image_in t (not (first t == 32)) (get_or t (until_parenthesis o t) 0 == 41) (until_parenthesis o t) refl
leaf_most o leaf.Text t = omega arith
leaf_most o leaf.Relation t = relation_most t

-- what is taken of a text by a leaf's width is a whole leaf
take_more : (t : Text) (m : ℕ) → m ≤ length t → length (take m t) ≡ m
take_more t zero h = refl
take_more [] (suc m) h = absurd (omega arith)
take_more (a ∷ t) (suc m) h = let less : m ≤ length t = omega arith in ap suc (take_more t m less)

taken_at : (o : Origin) (k : Leaf) (a : ℕ) (t : Text) (m : ℕ) → leaf_width o k (a ∷ t) ≡ suc m → m ≤ length t → leaf_width Atoms k (kept_text o k (a ∷ take m t)) ≡ suc m
taken_at o k a t m h le =
    let long = take_more t m le in
    whole_part o k a (take m t) (drop m t) (ap (λ (l : Text). leaf_width o k (a ∷ l)) (take-append-drop m t) ∙ h ∙ ap suc (sym long)) ∙ ap suc long

pub taken_whole : (o : Origin) (k : Leaf) (t : Text) (m : ℕ) → leaf_width o k t ≡ suc m → leaf_width Atoms k (kept_text o k (take (suc m) t)) ≡ suc m
taken_whole o k [] m h = let most = leaf_most o k [] in absurd (omega arith)
taken_whole o k (a ∷ t) m h =
    let most = leaf_most o k (a ∷ t) in
    let le : m ≤ length t = omega arith in
    taken_at o k a t m h le

length_text : (o : Origin) (k : Leaf) (w : Text) → length (kept_text o k w) ≡ length w
length_text o leaf.Literal w = refl
length_text o leaf.Text w = refl
length_text o k w = length_kept o w

same_number : (n m : ℕ) → n ≡ m → (n == m) ≡ true
same_number n m h = grind (arith, nat_tests)

some_number : (n m : ℕ) → n ≡ suc m → nat_lt 0 n ≡ true
some_number n m h = grind (arith, nat_tests)

whole_by : (k : Leaf) (w : Text) (m : ℕ) → is_text k ≡ false → length w ≡ suc m → leaf_width Atoms k w ≡ suc m → is_whole k w ≡ true
whole_by leaf.Text w m n long h = cc
whole_by k w m n long h = both (nat_lt 0 (length w)) (leaf_width Atoms k w == length w) (some_number (length w) m long) (same_number (leaf_width Atoms k w) (length w) (h ∙ sym long))

no_text_width : (o : Origin) (k : Leaf) (t : Text) (m : ℕ) → leaf_width o k t ≡ suc m → is_text k ≡ false
no_text_width o leaf.Text t m h = cc
no_text_width o k t m h = refl

pub taken_is_whole : (o : Origin) (k : Leaf) (t : Text) (m : ℕ) → leaf_width o k t ≡ suc m → is_whole k (kept_text o k (take (suc m) t)) ≡ true
taken_is_whole o k t m h =
    let most = leaf_most o k t in
    let le : suc m ≤ length t = omega arith in
    whole_by k (kept_text o k (take (suc m) t)) m (no_text_width o k t m h) (length_text o k (take (suc m) t) ∙ take_more t (suc m) le) (taken_whole o k t m h)

-- the tree of what is typed by hand
abbrev pub GoodTree : Leaf → Trees → Type 0
GoodTree k Done = is_text k ≡ true
GoodTree k (Put (Plain j w) Done) = (j ≡ k) × (is_whole k w ≡ true)
GoodTree k (Put (Lined high low) Done) = (k ≡ leaf.LineNumber) × (good_token (Lined high low) ≡ true)
GoodTree k t = ⊥

abbrev pub GoodLeaf : Leaf → Outcome → Type 0
GoodLeaf k (Ok p) = GoodTree k p.0
GoodLeaf k (Err e) = Unit {0}

good_if : (k : Leaf) (b : Bool) (p q : Outcome) → GoodLeaf k p → GoodLeaf k q → GoodLeaf k (if b then p else q)
good_if k true p q h l = h
good_if k false p q h l = l

plain_good : (o : Origin) (k : Leaf) (code : ℕ) (t : Text) (n : ℕ) → leaf_width o k t ≡ n → GoodLeaf k (plain_of o k code n t)
plain_good o k code t zero h = tt
plain_good o k code t (suc m) h =
    good_if k (suc m == 0) (Err (missing o k code t)) (one (Plain k (kept_text o k (take (suc m) t))) (drop (suc m) t)) tt (refl, taken_is_whole o k t m h)

at_most_nine : (n : ℕ) → n ≤ 9 → nat_le n 9 ≡ true
at_most_nine n h = grind (arith, nat_tests)

two_decimal : (a b : ℕ) → is_decimal (min a 9 * 16 + min b 9) ≡ true
two_decimal a b =
    let high : (min a 9 * 16 + min b 9) / 16 ≤ 9 = omega arith in
    let low : (min a 9 * 16 + min b 9) % 16 ≤ 9 = omega arith in
    both (nat_le ((min a 9 * 16 + min b 9) / 16) 9) (nat_le ((min a 9 * 16 + min b 9) % 16) 9) (at_most_nine ((min a 9 * 16 + min b 9) / 16) high) (at_most_nine ((min a 9 * 16 + min b 9) % 16) low)

typed_good : (o : Origin) (code : ℕ) (t : Text) → GoodLeaf leaf.LineNumber (typed_line_number o code t)
typed_good o code t =
    good_if leaf.LineNumber (nat_lt (digits_width t) 1 || nat_lt 4 (digits_width t)) (Err (refused o code t)) (one (Lined (two_digits t (digits_width t) 0) (two_digits t (digits_width t) 2)) (drop (digits_width t) t)) tt (
      refl,
      both (is_decimal (two_digits t (digits_width t) 0)) (is_decimal (two_digits t (digits_width t) 2))
          (two_decimal (line_digit t (digits_width t) 0) (line_digit t (digits_width t) 1)) (two_decimal (line_digit t (digits_width t) 2) (line_digit t (digits_width t) 3)),
    )

lined_good : (a b c : ℕ) (t : Text) (e : Stop) (x y z : Bool) → is_decimal b ≡ y → is_decimal c ≡ z → GoodLeaf leaf.LineNumber (if x && (y && z) then one (Lined b c) t else Err e)
lined_good a b c t e true true true hb hc = (refl, both (is_decimal b) (is_decimal c) hb hc)
lined_good a b c t e true true false hb hc = tt
lined_good a b c t e true false z hb hc = tt
lined_good a b c t e false y z hb hc = tt

atoms_good : (code : ℕ) (t : Text) → GoodLeaf leaf.LineNumber (atoms_line_number code t)
atoms_good code [] = tt
atoms_good code (a ∷ []) = tt
atoms_good code (a ∷ b ∷ []) = tt
atoms_good code (a ∷ b ∷ c ∷ t) = lined_good a b c t (At code (length (a ∷ b ∷ c ∷ t))) (a == 255) (is_decimal b) (is_decimal c) refl refl

line_good : (o : Origin) (code : ℕ) (t : Text) → GoodLeaf leaf.LineNumber (line_number_at o code t)
line_good Program code t = typed_good Program code t
line_good Immediate code t = typed_good Immediate code t
line_good Atoms code t = atoms_good code t

text_by : (code b : ℕ) (bs : Text) (p : Bool) → all_printable (b ∷ bs) ≡ p → GoodLeaf leaf.Text (if p then one (Plain leaf.Text (b ∷ bs)) [] else Err (At code (length (b ∷ bs))))
text_by code b bs true h = (refl, both (nat_lt 0 (length (b ∷ bs))) (all_printable (b ∷ bs)) (some_number (suc (length bs)) (length bs) refl) h)
text_by code b bs false h = tt

text_good : (code : ℕ) (t : Text) → GoodLeaf leaf.Text (text_to_end code t)
text_good code [] = refl
text_good code (b ∷ bs) = text_by code b bs (all_printable (b ∷ bs)) refl

-- what is read of what is typed by hand is good, wherever it is read from
pub leaf_good : (o : Origin) (k : Leaf) (code : ℕ) (s : Text) → GoodLeaf k (read_leaf o k code s)
unfolding read_leaf
leaf_good o leaf.LineNumber code s = line_good o code (skipped o s)
leaf_good o leaf.Text code s = text_good code s
leaf_good o k code s = plain_good o k code (skipped o s) (leaf_width o k (skipped o s)) refl
