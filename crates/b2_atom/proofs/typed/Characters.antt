-- Hexadecimal digits, comparison signs, functions' names and images have their width, whatever stands after them.
use Rattle.std.proofs.Common.{◌≡◌, ℕ, suc, ◌+◌, ◌<◌, Bool, true, false, not, if◌then◌else◌, ◌==◌, ◌||◌, ◌&&◌, [], ◌∷◌, ◌++◌, length, get_or, refl, ap, ◌∙◌, arith}
use Rattle.std.proofs.lemmas.Bool.Decides.{nat_tests}
use Rattle.b2_base.specs.Lexical.{first, is_digit, is_hex_digit, is_letter, upper}
use Rattle.b2_atom.specs.Words.{Text, kept_byte, ahead}
use Rattle.b2_atom.specs.Leaves.{function_name_width, hex_pair_width, hex_digit_width, address_width, relation_length, relation_width, ends_image, until_parenthesis, image_width}
use Rattle.b2_atom.specs.declared.words.Origin.{Origin}
use Rattle.b2_atom.specs.declared.words.Origin.TheVariants.{Program, Immediate, Atoms}
use Rattle.b2_atom.proofs.Booleans.{and_left, and_right, false_true}
use Rattle.b2_atom.proofs.typed.Widths.{get_first, get_front}
use Rattle.b2_atom.proofs.typed.Names.{ahead_letter}

-- hexadecimal digits
pub hex_kept : (o : Origin) (b : ℕ) → is_hex_digit b ≡ true → kept_byte o b ≡ b
hex_kept Program b h = grind (arith, nat_tests)
hex_kept Immediate b h = grind (arith, nat_tests)
hex_kept Atoms b h = refl

still_hex : (o : Origin) (b : ℕ) → is_hex_digit b ≡ true → is_hex_digit (kept_byte o b) ≡ true
still_hex o b h = ap is_hex_digit (hex_kept o b h) ∙ h

one_hex : (a : Bool) (n m : ℕ) → (if a then suc n else 0) ≡ suc m → (a ≡ true) × (n ≡ m)
one_hex true n m h = (refl, (let same : n ≡ m = omega arith in same))
one_hex false n m h = cc

pub hex_digit_more : (o : Origin) (a : ℕ) (w x : Text) → hex_digit_width Atoms (a ∷ w) ≡ suc (length w) → hex_digit_width o (a ∷ (w ++ x)) ≡ suc (length w)
hex_digit_more o a w x h =
    let is = one_hex (is_hex_digit a) 0 (length w) h in
    ap (λ (b : Bool). if b then 1 else 0) (still_hex o a is.0) ∙ ap suc is.1

one_is_none : ◌≡◌ {A = ℕ} 1 0 → ⊥
one_is_none h = cc

two_is_none : ◌≡◌ {A = ℕ} 2 0 → ⊥
two_is_none h = cc

two_is_one : ◌≡◌ {A = ℕ} 2 1 → ⊥
two_is_one h = omega arith

pub hex_pair_more : (o : Origin) (a : ℕ) (w x : Text) → hex_pair_width Atoms (a ∷ w) ≡ suc (length w) → hex_pair_width o (a ∷ (w ++ x)) ≡ suc (length w)
hex_pair_more o a [] x h =
    let is = one_hex (is_hex_digit a && false) 1 0 h in absurd (one_is_none is.1)
hex_pair_more o a (b ∷ w) x h =
    let is = one_hex (is_hex_digit a && is_hex_digit b) 1 (suc (length w)) h in
    let l = still_hex o a (and_left (is_hex_digit a) (is_hex_digit b) is.0) in
    let r = still_hex o b (and_right (is_hex_digit a) (is_hex_digit b) is.0) in
    (λ i. if l i && r i then 2 else 0) ∙ ap suc is.1

pub address_more : (o : Origin) (a : ℕ) (w x : Text) → address_width Atoms (a ∷ w) ≡ suc (length w) → address_width o (a ∷ (w ++ x)) ≡ suc (length w)
address_more o a [] x h =
    let is = one_hex (is_hex_digit a && false) 2 0 h in absurd (two_is_none is.1)
address_more o a (b ∷ []) x h =
    let is = one_hex (is_hex_digit a && (is_hex_digit b && false)) 2 1 h in absurd (two_is_one is.1)
address_more o a (b ∷ c ∷ w) x h =
    let is = one_hex (is_hex_digit a && (is_hex_digit b && is_hex_digit c)) 2 (suc (suc (length w))) h in
    let rest = and_right (is_hex_digit a) (is_hex_digit b && is_hex_digit c) is.0 in
    let l = still_hex o a (and_left (is_hex_digit a) (is_hex_digit b && is_hex_digit c) is.0) in
    let m = still_hex o b (and_left (is_hex_digit b) (is_hex_digit c) rest) in
    let r = still_hex o c (and_right (is_hex_digit b) (is_hex_digit c) rest) in
    (λ i. if l i && (m i && r i) then 3 else 0) ∙ ap suc is.1

-- a function's name
pub function_of : (b : Bool) (n : ℕ) → ◌≡◌ {A = ℕ} (if b then 1 else 0) (suc n) → (b ≡ true) × (0 ≡ n)
function_of true n h = (refl, (let same : 0 ≡ n = omega arith in same))
function_of false n h = cc

abbrev pub is_function_name : ℕ → Bool
is_function_name a = is_letter a || is_digit a

name_upper : (a : ℕ) → is_function_name a ≡ true → upper a ≡ a
name_upper a h = grind (arith, nat_tests)

-- what stands at a function's name
pub function_ahead : (o : Origin) (a : ℕ) (x : Text) → is_function_name a ≡ true → is_letter (upper (first x)) ≡ false → ahead o (a ∷ x) ≡ (a, x)
function_ahead o a x h letter = ahead_letter o a x (name_upper a h) letter

pub function_name_more : (o : Origin) (a : ℕ) (w x : Text) → function_name_width Atoms (a ∷ w) ≡ suc (length w) → is_letter (upper (first (w ++ x))) ≡ false
    → function_name_width o (a ∷ (w ++ x)) ≡ suc (length w)
function_name_more o a w x h letter =
    let is = function_of (is_function_name a) (length w) h in
    ap (λ (p : ℕ × Text). if is_function_name p.0 then 1 else 0) (function_ahead o a (w ++ x) is.0 letter)
    ∙ ap (λ (b : Bool). if b then 1 else 0) is.0 ∙ ap suc is.1

-- comparison signs
abbrev pub ends_relation : ℕ → Bool
ends_relation n = not (n == 61 || n == 62)

relation_one : (a n : ℕ) → ends_relation n ≡ true → relation_length a 0 ≡ 1 → relation_length a n ≡ 1
relation_one a n stop h = grind (arith, nat_tests)

pub relation_most : (a b n : ℕ) → relation_length a b ≡ suc (suc (suc n)) → ⊥
relation_most a b n h = grind (arith, nat_tests)

pub relation_more : (a : ℕ) (w x : Text) → relation_width (a ∷ w) ≡ suc (length w) → ends_relation (first x) ≡ true → relation_width (a ∷ (w ++ x)) ≡ suc (length w)
relation_more a [] x h stop = ap (relation_length a) (get_first x) ∙ relation_one a (first x) stop h
relation_more a (b ∷ []) x h stop = h
relation_more a (b ∷ c ∷ w) x h stop = absurd (relation_most a b (length w) h)

-- images
image_ends : (o : Origin) (b : ℕ) → (b == 41) ≡ true → ends_image o b ≡ true
image_ends Program b h = grind (arith, nat_tests)
image_ends Immediate b h = grind (arith, nat_tests)
image_ends Atoms b h = grind (arith, nat_tests)

image_goes_on : (o : Origin) (b : ℕ) → ends_image Atoms b ≡ false → ends_image o b ≡ false
image_goes_on Program b h = grind (arith, nat_tests)
image_goes_on Immediate b h = grind (arith, nat_tests)
image_goes_on Atoms b h = h

until_by : (o : Origin) (b : ℕ) (w x : Text) (e : Bool) → ends_image Atoms b ≡ e
    → (get_or (b ∷ w) (if e then 0 else suc (until_parenthesis Atoms w)) 0 == 41) ≡ true
    → ((get_or w (until_parenthesis Atoms w) 0 == 41) ≡ true → until_parenthesis o (w ++ x) ≡ until_parenthesis Atoms w)
    → until_parenthesis o (b ∷ (w ++ x)) ≡ (if e then 0 else suc (until_parenthesis Atoms w))
until_by o b w x true is h more = ap (λ (c : Bool). if c then 0 else suc (until_parenthesis o (w ++ x))) (image_ends o b h)
until_by o b w x false is h more =
    ap (λ (c : Bool). if c then 0 else suc (until_parenthesis o (w ++ x))) (image_goes_on o b is) ∙ ap suc (more h)

until_more : (o : Origin) (w x : Text) → (get_or w (until_parenthesis Atoms w) 0 == 41) ≡ true → until_parenthesis o (w ++ x) ≡ until_parenthesis Atoms w
until_more o [] x h = absurd (false_true h)
until_more o (b ∷ w) x h = until_by o b w x (ends_image Atoms b) refl h (until_more o w x)

pub image_parts : (a b : Bool) (n m : ℕ) → (if a && b then n + 1 else 0) ≡ suc m → (b ≡ true) × (n ≡ m)
image_parts true true n m h = (refl, (let same : n ≡ m = omega arith in same))
image_parts true false n m h = cc
image_parts false b n m h = cc

pub image_more : (o : Origin) (a : ℕ) (w x : Text) → image_width Atoms (a ∷ w) ≡ suc (length w) → image_width o (a ∷ (w ++ x)) ≡ suc (length w)
image_more o a w x h =
    let t : Text = a ∷ w in
    let is = image_parts (not (a == 32)) (get_or t (until_parenthesis Atoms t) 0 == 41) (until_parenthesis Atoms t) (length w) h in
    let less : until_parenthesis Atoms t < length t = (let same = is.1 in omega arith) in
    ap (λ (n : ℕ). if not (a == 32) && get_or (t ++ x) n 0 == 41 then n + 1 else 0) (until_more o t x is.0)
    ∙ ap (λ (b : ℕ). if not (a == 32) && b == 41 then until_parenthesis Atoms t + 1 else 0) (get_front t x (until_parenthesis Atoms t) less)
    ∙ h

by_blank : (a b : Bool) (n m : ℕ) → (if not a && b then n + 1 else 0) ≡ suc m → a ≡ false
by_blank true b n m h = cc
by_blank false b n m h = refl

not_blank : (a : ℕ) (b : Bool) (n m : ℕ) → (if not (a == 32) && b then n + 1 else 0) ≡ suc m → (a == 32) ≡ false
not_blank a b n m h = by_blank (a == 32) b n m h

-- an image's first character is no blank
pub image_front : (a : ℕ) (w : Text) → image_width Atoms (a ∷ w) ≡ suc (length w) → (a == 32) ≡ false
image_front a w h = not_blank a (get_or (a ∷ w) (until_parenthesis Atoms (a ∷ w)) 0 == 41) (until_parenthesis Atoms (a ∷ w)) (length w) h
