-- A whole leaf has no small letters, and no byte that may not stand in a line.
use Rattle.std.proofs.Common.{◌≡◌, ℕ, zero, suc, ◌+◌, ◌<◌, ◌≤◌, Bool, true, false, not, if◌then◌else◌, ◌==◌, ◌||◌, ◌&&◌, [], ◌∷◌, ◌++◌, length, get_or, drop, refl, sym, ap, ◌∙◌, arith, nat_le, nat_lt, inl, inr, length-drop, drop-drop}
use Rattle.std.proofs.lemmas.Bool.Decides.{nat_tests}
use Rattle.b2_base.specs.Lexical.{all_printable, capped_value, digits_width, is_digit, is_hex_digit, is_letter, is_printable, upper}
use Rattle.b2_atom.specs.Words.{Text}
use Rattle.b2_atom.specs.Leaves.{number_width, mantissa_of, mantissa_width, sign_width, exponent_of, exponent_width, one_more, leaf_width, until_quote, relation_length, ends_image, until_parenthesis}
use Rattle.b2_atom.specs.declared.words.Origin.TheVariants.{Atoms}
use Rattle.b2_atom.specs.declared.forms.Leaf.{Leaf}
use Rattle.b2_atom.specs.declared.forms.Leaf.TheVariants as leaf
use Rattle.b2_atom.proofs.Booleans.{and_left, and_right, equal, both}
use Rattle.b2_atom.proofs.typed.Longest.{every}
use Rattle.b2_atom.proofs.typed.Widths.{pointed, no_exponent, number_parts, signed_parts}
use Rattle.b2_atom.proofs.typed.Names.{NameShape, numeric_shape, local_shape, alpha_shape}
use Rattle.b2_atom.proofs.typed.Characters.{is_function_name, image_parts, relation_most}
use Rattle.b2_atom.proofs.typed.LeavesRead.{all_upper, is_free}
use Rattle.b2_atom.proofs.typed.LeafStarts.{leaf_front, width_yes}

-- a byte that may stand in a line, and is no small letter
abbrev pub is_clean : ℕ → Bool
is_clean b = upper b == b && is_printable b

abbrev pub all_clean : Text → Bool
all_clean w = every is_clean w

pub digit_same : (b : ℕ) → is_digit b ≡ true → is_clean b ≡ true
digit_same b h = grind (arith, nat_tests)

letter_same : (b : ℕ) → is_letter b ≡ true → is_clean b ≡ true
letter_same b h = grind (arith, nat_tests)

pub hex_same : (b : ℕ) → is_hex_digit b ≡ true → is_clean b ≡ true
hex_same b h = grind (arith, nat_tests)

digits_by : (b : ℕ) (t : Text) (d : Bool) → is_digit b ≡ d → (all_clean (drop (digits_width t) t) ≡ true → all_clean t ≡ true)
    → all_clean (drop (if d then suc (digits_width t) else 0) (b ∷ t)) ≡ true → all_clean (b ∷ t) ≡ true
digits_by b t true is more h = both (is_clean b) (all_clean t) (digit_same b is) (more h)
digits_by b t false is more h = h

pub digits_clean : (t : Text) → all_clean (drop (digits_width t) t) ≡ true → all_clean t ≡ true
digits_clean [] h = refl
digits_clean (b ∷ t) h = digits_by b t (is_digit b) refl (digits_clean t) h

drop_all : (t : Text) (n : ℕ) → length t ≤ n → drop n t ≡ []
drop_all [] zero h = refl
drop_all [] (suc n) h = refl
drop_all (b ∷ t) zero h = absurd (omega arith)
drop_all (b ∷ t) (suc n) h = let less : length t ≤ n = omega arith in drop_all t n less

digits_all_clean : (t : Text) (n : ℕ) → digits_width t ≡ n → length t ≤ n → all_clean t ≡ true
digits_all_clean t n is h = digits_clean t (ap (λ (m : ℕ). all_clean (drop m t)) is ∙ ap all_clean (drop_all t n h))

drop_at : (t : Text) (n : ℕ) → n < length t → drop n t ≡ get_or t n 0 ∷ drop (n + 1) t
drop_at [] n h = absurd (omega arith)
drop_at (b ∷ t) zero h = refl
drop_at (b ∷ t) (suc n) h =
    let less : n < length t = omega arith in
    let next : suc (n + 1) ≡ suc n + 1 = omega arith in
    drop_at t n less ∙ ap (λ (m : ℕ). get_or t n 0 ∷ drop m (b ∷ t)) next

point_clean : (t : Text) (n : ℕ) → (get_or t n 0 == 46) ≡ true → all_clean (drop (n + 1) t) ≡ true → all_clean (drop n t) ≡ true
point_clean t n is h =
    ap all_clean (drop_at t n (pointed t n is))
    ∙ both (is_clean (get_or t n 0)) (all_clean (drop (n + 1) t)) (ap is_clean (equal (get_or t n 0) 46 is)) h

drop_twice : (t : Text) (i j : ℕ) → drop (i + j) t ≡ drop j (drop i t)
drop_twice t i j = rw drop-drop refl

mantissa_by : (t : Text) (n m : ℕ) (z : Bool) → n ≡ digits_width t → m ≡ digits_width (drop (n + 1) t) → (get_or t n 0 == 46) ≡ true
    → all_clean (drop (if z then 0 else n + 1 + m) t) ≡ true → all_clean t ≡ true
mantissa_by t n m true hn hm is h = h
mantissa_by t n m false hn hm is h =
    let apart : drop (n + 1 + m) t ≡ drop (digits_width (drop (n + 1) t)) (drop (n + 1) t) = drop_twice t (n + 1) m ∙ ap (λ (i : ℕ). drop i (drop (n + 1) t)) hm in
    digits_clean t (ap (λ (i : ℕ). all_clean (drop i t)) (sym hn) ∙ point_clean t n is (digits_clean (drop (n + 1) t) (ap all_clean (sym apart) ∙ h)))

mantissa_at : (t : Text) (c : Bool) → (get_or t (digits_width t) 0 == 46) ≡ c
    → all_clean (drop (if c then mantissa_of (digits_width t) (digits_width (drop (digits_width t + 1) t)) else digits_width t) t) ≡ true → all_clean t ≡ true
mantissa_at t false is h = digits_clean t h
mantissa_at t true is h =
    mantissa_by t (digits_width t) (digits_width (drop (digits_width t + 1) t)) (digits_width t == 0 && digits_width (drop (digits_width t + 1) t) == 0) refl refl is h

mantissa_clean : (t : Text) → all_clean (drop (mantissa_width t) t) ≡ true → all_clean t ≡ true
mantissa_clean t h = mantissa_at t (get_or t (digits_width t) 0 == 46) refl h

sign_same : (b : ℕ) → (b == 43 || b == 45) ≡ true → is_clean b ≡ true
sign_same b h = grind (arith, nat_tests)

four_of : (b : Bool) → ◌≡◌ {A = ℕ} (if b then 4 else 3) 4 → b ≡ true
four_of true h = refl
four_of false h = absurd (omega arith)

three_of : (b : Bool) → ◌≡◌ {A = ℕ} (if b then 3 else 2) 3 → b ≡ true
three_of true h = refl
three_of false h = absurd (omega arith)

at_most_four : (b c : Bool) (n : ℕ) → (if b then (if c then 4 else 3) else 0) ≡ suc (suc (suc (suc (suc n)))) → ⊥
at_most_four true true n h = omega arith
at_most_four true false n h = omega arith
at_most_four false c n h = cc

at_most_three : (b c : Bool) (n : ℕ) → (if b then (if c then 3 else 2) else 0) ≡ suc (suc (suc (suc n))) → ⊥
at_most_three true true n h = omega arith
at_most_three true false n h = omega arith
at_most_three false c n h = cc

-- an exponent by its tests
tail_by : (a b : ℕ) (v : Text) (s : Bool) → (b == 43 || b == 45) ≡ s
    → ◌≡◌ {A = ℕ} (exponent_of (if s then 1 else 0) (a ∷ b ∷ v)) (suc (suc (length v))) → all_clean (b ∷ v) ≡ true
tail_by a b [] true is h = cc
tail_by a b (c ∷ []) true is h =
    let one = width_yes (is_digit c) 3 2 h in
    both (is_clean b) (all_clean (c ∷ [])) (sign_same b is) (both (is_clean c) true (digit_same c one.0) refl)
tail_by a b (c ∷ d ∷ []) true is h =
    let one = width_yes (is_digit c) (if is_digit d then 4 else 3) 3 h in
    let two = four_of (is_digit d) one.1 in
    both (is_clean b) (all_clean (c ∷ d ∷ [])) (sign_same b is) (both (is_clean c) (all_clean (d ∷ [])) (digit_same c one.0) (both (is_clean d) true (digit_same d two) refl))
tail_by a b (c ∷ d ∷ e ∷ v) true is h = absurd (at_most_four (is_digit c) (is_digit d) (length v) h)
tail_by a b [] false is h =
    let one = width_yes (is_digit b) 2 1 h in both (is_clean b) true (digit_same b one.0) refl
tail_by a b (c ∷ []) false is h =
    let one = width_yes (is_digit b) (if is_digit c then 3 else 2) 2 h in
    let two = three_of (is_digit c) one.1 in
    both (is_clean b) (all_clean (c ∷ [])) (digit_same b one.0) (both (is_clean c) true (digit_same c two) refl)
tail_by a b (c ∷ d ∷ v) false is h = absurd (at_most_three (is_digit b) (is_digit c) (length v) h)

exponent_clean : (v : Text) → exponent_width Atoms v ≡ length v → all_clean v ≡ true
exponent_clean [] h = refl
exponent_clean (a ∷ []) h = absurd (no_exponent (a == 69) h)
exponent_clean (a ∷ b ∷ v) h =
    let is = width_yes (a == 69) (exponent_of (sign_width b) (a ∷ b ∷ v)) (suc (length v)) h in
    let e : a ≡ 69 = equal a 69 is.0 in
    both (is_clean a) (all_clean (b ∷ v)) (ap is_clean e) (tail_by a b v (b == 43 || b == 45) refl is.1)

number_clean : (a : ℕ) (w : Text) → number_width Atoms (a ∷ w) ≡ suc (length w) → all_clean (a ∷ w) ≡ true
number_clean a w h =
    let t : Text = a ∷ w in
    let sum = number_parts (mantissa_width t) (exponent_width Atoms (drop (mantissa_width t) t)) (length w) (mantissa_width t == 0) refl h in
    let tail : exponent_width Atoms (drop (mantissa_width t) t) ≡ length (drop (mantissa_width t) t) = omega (arith, length-drop (mantissa_width t) t) in
    mantissa_clean t (exponent_clean (drop (mantissa_width t) t) tail)

signed_clean : (a : ℕ) (w : Text) (s : Bool) → (a == 43 || a == 45) ≡ s → (if s then one_more (number_width Atoms w) else number_width Atoms (a ∷ w)) ≡ suc (length w)
    → all_clean (a ∷ w) ≡ true
signed_clean a w false is h = number_clean a w h
signed_clean a [] true is h = both (is_clean a) true (sign_same a is) refl
signed_clean a (b ∷ w) true is h =
    both (is_clean a) (all_clean (b ∷ w)) (sign_same a is) (number_clean b w (signed_parts (number_width Atoms (b ∷ w)) (suc (length w)) h))

global_same : (a : ℕ) → a ≡ 64 → is_clean a ≡ true
global_same a h = ap is_clean h

shape_clean : (w : Text) → NameShape w → all_clean w ≡ true
shape_clean [] h = refl
shape_clean (a ∷ []) h = both (is_clean a) true (letter_same a h) refl
shape_clean (a ∷ b ∷ []) (inl h) = both (is_clean a) (all_clean (b ∷ [])) (letter_same a h.0) (both (is_clean b) true (digit_same b h.1) refl)
shape_clean (a ∷ b ∷ []) (inr h) = both (is_clean a) (all_clean (b ∷ [])) (global_same a h.0) (both (is_clean b) true (letter_same b h.1) refl)
shape_clean (a ∷ b ∷ c ∷ []) h =
    both (is_clean a) (all_clean (b ∷ c ∷ [])) (global_same a h.0)
    (both (is_clean b) (all_clean (c ∷ [])) (letter_same b h.1.0) (both (is_clean c) true (digit_same c h.1.1) refl))
shape_clean (a ∷ b ∷ c ∷ d ∷ w) h = absurd h

behind_clean : (w : Text) → all_clean w ≡ true → all_clean (w ++ 36 ∷ []) ≡ true
behind_clean [] h = refl
behind_clean (b ∷ w) h = both (is_clean b) (all_clean (w ++ 36 ∷ [])) (and_left (is_clean b) (all_clean w) h) (behind_clean w (and_right (is_clean b) (all_clean w) h))

-- images, hexadecimal digits, signs and small numbers
not_end : (b : ℕ) → ends_image Atoms b ≡ false → is_clean b ≡ true
not_end b h = grind (arith, nat_tests)

image_by : (b : ℕ) (w : Text) (e : Bool) → ends_image Atoms b ≡ e
    → (get_or (b ∷ w) (if e then 0 else suc (until_parenthesis Atoms w)) 0 == 41) ≡ true
    → (if e then 0 else suc (until_parenthesis Atoms w)) ≡ length w
    → ((get_or w (until_parenthesis Atoms w) 0 == 41) ≡ true → suc (until_parenthesis Atoms w) ≡ length w → all_clean w ≡ true) → all_clean (b ∷ w) ≡ true
image_by b [] true is h long more = both (is_clean b) true (ap is_clean (equal b 41 h)) refl
image_by b (c ∷ w) true is h long more = cc
image_by b w false is h long more = both (is_clean b) (all_clean w) (not_end b is) (more h long)

until_clean : (w : Text) → (get_or w (until_parenthesis Atoms w) 0 == 41) ≡ true → suc (until_parenthesis Atoms w) ≡ length w → all_clean w ≡ true
until_clean [] h long = refl
until_clean (b ∷ w) h long =
    image_by b w (ends_image Atoms b) refl h (let less : until_parenthesis Atoms (b ∷ w) ≡ length w = omega arith in less) (until_clean w)

image_clean : (a : ℕ) (w : Text) → leaf_width Atoms leaf.Image (a ∷ w) ≡ suc (length w) → all_clean (a ∷ w) ≡ true
image_clean a w h =
    let t : Text = a ∷ w in
    let is = image_parts (not (a == 32)) (get_or t (until_parenthesis Atoms t) 0 == 41) (until_parenthesis Atoms t) (length w) h in
    until_clean (a ∷ w) is.0 (ap suc is.1)

wide_by : (n m : ℕ) → ◌≡◌ {A = ℕ} (suc n) (suc m) → n ≡ m
wide_by n m h = omega arith

pair_clean : (a : ℕ) (w : Text) → leaf_width Atoms leaf.HexPair (a ∷ w) ≡ suc (length w) → all_clean (a ∷ w) ≡ true
pair_clean a [] h = both (is_clean a) true (hex_same a (leaf_front leaf.HexPair a [] h)) refl
pair_clean a (b ∷ []) h =
    let is = (width_yes (is_hex_digit a && is_hex_digit b) 2 1 h).0 in
    both (is_clean a) (all_clean (b ∷ [])) (hex_same a (and_left (is_hex_digit a) (is_hex_digit b) is)) (both (is_clean b) true (hex_same b (and_right (is_hex_digit a) (is_hex_digit b) is)) refl)
pair_clean a (b ∷ c ∷ w) h = let is = (width_yes (is_hex_digit a && is_hex_digit b) 2 (suc (suc (length w))) h).1 in absurd (omega arith)

digit_clean : (a : ℕ) (w : Text) → leaf_width Atoms leaf.HexDigit (a ∷ w) ≡ suc (length w) → all_clean (a ∷ w) ≡ true
digit_clean a [] h = both (is_clean a) true (hex_same a (leaf_front leaf.HexDigit a [] h)) refl
digit_clean a (b ∷ w) h = let is = (width_yes (is_hex_digit a) 1 (suc (length w)) h).1 in absurd (omega arith)

address_clean : (a : ℕ) (w : Text) → leaf_width Atoms leaf.Address (a ∷ w) ≡ suc (length w) → all_clean (a ∷ w) ≡ true
address_clean a [] h = let is = (width_yes (is_hex_digit a && (is_hex_digit 0 && is_hex_digit 0)) 3 0 h).1 in absurd (omega arith)
address_clean a (b ∷ []) h = let is = (width_yes (is_hex_digit a && (is_hex_digit b && is_hex_digit 0)) 3 1 h).1 in absurd (omega arith)
address_clean a (b ∷ c ∷ []) h =
    let is = (width_yes (is_hex_digit a && (is_hex_digit b && is_hex_digit c)) 3 2 h).0 in
    let rest = and_right (is_hex_digit a) (is_hex_digit b && is_hex_digit c) is in
    both (is_clean a) (all_clean (b ∷ c ∷ [])) (hex_same a (and_left (is_hex_digit a) (is_hex_digit b && is_hex_digit c) is))
    (both (is_clean b) (all_clean (c ∷ [])) (hex_same b (and_left (is_hex_digit b) (is_hex_digit c) rest)) (both (is_clean c) true (hex_same c (and_right (is_hex_digit b) (is_hex_digit c) rest)) refl))
address_clean a (b ∷ c ∷ d ∷ w) h = let is = (width_yes (is_hex_digit a && (is_hex_digit b && is_hex_digit c)) 3 (suc (suc (suc (length w)))) h).1 in absurd (omega arith)

slot_clean : (a : ℕ) (w : Text) → leaf_width Atoms leaf.Slot (a ∷ w) ≡ suc (length w) → all_clean (a ∷ w) ≡ true
slot_clean a w h =
    let is = width_yes (a == 35 && (nat_lt 0 (digits_width w) && nat_le (capped_value 999 0 w) 15)) (digits_width w + 1) (length w) h in
    let long : length w ≤ digits_width w = (let sum = is.1 in omega arith) in
    both (is_clean a) (all_clean w) (ap is_clean (equal a 35 (leaf_front leaf.Slot a w h))) (digits_all_clean w (digits_width w) refl long)

small_clean : (a : ℕ) (w : Text) → leaf_width Atoms leaf.Small (a ∷ w) ≡ suc (length w) → all_clean (a ∷ w) ≡ true
small_clean a w h =
    let is = width_yes (nat_le (capped_value 999 0 (a ∷ w)) 255) (digits_width (a ∷ w)) (length w) h in
    let long : length (a ∷ w) ≤ suc (length w) = omega arith in
    digits_all_clean (a ∷ w) (suc (length w)) is.1 long

relation_same : (b : ℕ) → (b == 60 || (b == 61 || b == 62)) ≡ true → is_clean b ≡ true
relation_same b h = grind (arith, nat_tests)

relation_second : (a b : ℕ) → relation_length a b ≡ 2 → (b == 60 || (b == 61 || b == 62)) ≡ true
relation_second a b h = grind (arith, nat_tests)

relation_clean : (a : ℕ) (w : Text) → leaf_width Atoms leaf.Relation (a ∷ w) ≡ suc (length w) → all_clean (a ∷ w) ≡ true
relation_clean a [] h = both (is_clean a) true (relation_same a (leaf_front leaf.Relation a [] h)) refl
relation_clean a (b ∷ []) h =
    both (is_clean a) (all_clean (b ∷ [])) (relation_same a (leaf_front leaf.Relation a (b ∷ []) h)) (both (is_clean b) true (relation_same b (relation_second a b h)) refl)
relation_clean a (b ∷ c ∷ w) h = absurd (relation_most a b (length w) h)

function_same : (a : ℕ) → is_function_name a ≡ true → is_clean a ≡ true
function_same a h = grind (arith, nat_tests)

function_clean : (a : ℕ) (w : Text) → leaf_width Atoms leaf.FunctionName (a ∷ w) ≡ suc (length w) → all_clean (a ∷ w) ≡ true
function_clean a [] h = both (is_clean a) true (function_same a (leaf_front leaf.FunctionName a [] h)) refl
function_clean a (b ∷ w) h = let is = (width_yes (is_function_name a) 1 (suc (length w)) h).1 in absurd (omega arith)

-- literals
not_stopped : (b : ℕ) → (b == 34 || not (is_printable b)) ≡ false → is_printable b ≡ true
not_stopped b h = grind (arith, nat_tests)

literal_by : (b : ℕ) (w : Text) (e : Bool) → (b == 34 || not (is_printable b)) ≡ e → (get_or (b ∷ w) (if e then 0 else suc (until_quote w)) 0 == 34) ≡ true
    → (if e then 0 else suc (until_quote w)) ≡ length w → ((get_or w (until_quote w) 0 == 34) ≡ true → suc (until_quote w) ≡ length w → all_printable w ≡ true) → all_printable (b ∷ w) ≡ true
literal_by b [] true is h long more = both (is_printable b) true (ap is_printable (equal b 34 h)) refl
literal_by b (c ∷ w) true is h long more = cc
literal_by b w false is h long more = both (is_printable b) (all_printable w) (not_stopped b is) (more h long)

quoted : (w : Text) → (get_or w (until_quote w) 0 == 34) ≡ true → suc (until_quote w) ≡ length w → all_printable w ≡ true
quoted [] h long = refl
quoted (b ∷ w) h long =
    literal_by b w (b == 34 || not (is_printable b)) refl h (let less : until_quote (b ∷ w) ≡ length w = omega arith in less) (quoted w)

at_quote : (w : Text) (n : ℕ) (x : Bool) → (x && get_or (34 ∷ w) (n + 1) 0 == 34) ≡ true → (get_or w n 0 == 34) ≡ true
at_quote w n x h = let next : n + 1 ≡ suc n = omega arith in ap (λ (m : ℕ). get_or (34 ∷ w) m 0 == 34) (sym next) ∙ and_right x (get_or (34 ∷ w) (n + 1) 0 == 34) h

literal_printable : (a : ℕ) (w : Text) → leaf_width Atoms leaf.Literal (a ∷ w) ≡ suc (length w) → all_printable (a ∷ w) ≡ true
literal_printable a w h =
    let is = width_yes (a == 34 && (nat_lt 0 (until_quote w) && get_or (a ∷ w) (until_quote w + 1) 0 == 34)) (until_quote w + 2) (length w) h in
    let front : a ≡ 34 = equal a 34 (and_left (a == 34) _ is.0) in
    let long : suc (until_quote w) ≡ length w = (let sum = is.1 in omega arith) in
    let there : (nat_lt 0 (until_quote w) && get_or (34 ∷ w) (until_quote w + 1) 0 == 34) ≡ true =
    ap (λ (n : ℕ). nat_lt 0 (until_quote w) && get_or (n ∷ w) (until_quote w + 1) 0 == 34) (sym front) ∙ and_right (a == 34) _ is.0 in
    both (is_printable a) (all_printable w) (ap is_printable front) (quoted w (at_quote w (until_quote w) (nat_lt 0 (until_quote w)) there) long)

-- a whole leaf is clean, but for literals and free text
clean_upper : (w : Text) → all_clean w ≡ true → all_upper w ≡ true
clean_upper [] h = refl
clean_upper (b ∷ w) h =
    both (upper b == b) (all_upper w) (and_left (upper b == b) (is_printable b) (and_left (is_clean b) (all_clean w) h)) (clean_upper w (and_right (is_clean b) (all_clean w) h))

clean_printable : (w : Text) → all_clean w ≡ true → all_printable w ≡ true
clean_printable [] h = refl
clean_printable (b ∷ w) h =
    both (is_printable b) (all_printable w) (and_right (upper b == b) (is_printable b) (and_left (is_clean b) (all_clean w) h)) (clean_printable w (and_right (is_clean b) (all_clean w) h))

leaf_clean : (k : Leaf) (a : ℕ) (w : Text) → leaf_width Atoms k (a ∷ w) ≡ suc (length w) → (is_free k || all_clean (a ∷ w)) ≡ true
leaf_clean leaf.Number a w h = number_clean a w h
leaf_clean leaf.SignedNumber a w h = signed_clean a w (a == 43 || a == 45) refl h
leaf_clean leaf.Name a w h = shape_clean (a ∷ w) (numeric_shape a w h)
leaf_clean leaf.AlphaName a w h = let s = alpha_shape a w h in ap all_clean s.is ∙ behind_clean (s.head ∷ s.rest) (shape_clean (s.head ∷ s.rest) s.shape)
leaf_clean leaf.LocalName a w h = shape_clean (a ∷ w) (local_shape a w h).1
leaf_clean leaf.FunctionName a w h = function_clean a w h
leaf_clean leaf.Literal a w h = refl
leaf_clean leaf.LineNumber a w h = cc
leaf_clean leaf.HexPair a w h = pair_clean a w h
leaf_clean leaf.HexDigit a w h = digit_clean a w h
leaf_clean leaf.Address a w h = address_clean a w h
leaf_clean leaf.Slot a w h = slot_clean a w h
leaf_clean leaf.Small a w h = small_clean a w h
leaf_clean leaf.Image a w h = image_clean a w h
leaf_clean leaf.Text a w h = refl
leaf_clean leaf.Relation a w h = relation_clean a w h

upper_of : (b : Bool) (w : Text) → (b || all_clean w) ≡ true → (b || all_upper w) ≡ true
upper_of true w h = refl
upper_of false w h = clean_upper w h

pub whole_upper : (k : Leaf) (a : ℕ) (w : Text) → leaf_width Atoms k (a ∷ w) ≡ suc (length w) → (is_free k || all_upper (a ∷ w)) ≡ true
whole_upper k a w h = upper_of (is_free k) (a ∷ w) (leaf_clean k a w h)

pub whole_printable : (k : Leaf) (a : ℕ) (w : Text) → leaf_width Atoms k (a ∷ w) ≡ suc (length w) → all_printable (a ∷ w) ≡ true
whole_printable leaf.Literal a w h = literal_printable a w h
whole_printable leaf.Text a w h = cc
whole_printable k a w h = clean_printable (a ∷ w) (leaf_clean k a w h)
