-- What is read of a leaf is a whole leaf by itself.
use Rattle.std.proofs.Common.{◌≡◌, ℕ, zero, suc, ◌+◌, ◌-◌, ◌*◌, ◌<◌, ◌≤◌, Bool, true, false, not, if◌then◌else◌, ◌==◌, ◌||◌, ◌&&◌, [], ◌∷◌, ◌++◌, map, length, get_or, drop, min, refl, sym, ap, ◌∙◌, arith, nat_le, nat_lt, inl, inr, ◌⊎◌, length-drop}
use Rattle.std.proofs.lemmas.Bool.Decides.{nat_tests}
use Rattle.b2_base.specs.Lexical.{capped_value, digits_width, first, is_digit, is_printable}
use Rattle.b2_atom.specs.Words.{Text, kept_byte}
use Rattle.b2_atom.specs.Leaves.{number_width, number_width_by, mantissa_of, mantissa_width, sign_width, exponent_of, exponent_width, one_more, signed_number_width, literal_width, until_quote, small_width, slot_width, relation_length, relation_width, ends_image, until_parenthesis, image_width}
use Rattle.b2_atom.specs.declared.words.Origin.{Origin}
use Rattle.b2_atom.specs.declared.words.Origin.TheVariants.{Program, Immediate, Atoms}
use Rattle.b2_atom.proofs.typed.Widths.{get_front, get_none, drop_front, small_more, slot_more, number_parts, signed_parts, one_more_suc}
use Rattle.b2_atom.proofs.typed.LeafStarts.{width_yes}
use Rattle.b2_atom.proofs.typed.Characters.{image_parts, relation_most}

-- the same width without what stands after
no_digit_by : (b : Bool) (n : ℕ) → (if b then suc n else 0) ≡ 0 → b ≡ false
no_digit_by true n h = cc
no_digit_by false n h = refl

no_digit_first : (x : Text) → digits_width x ≡ 0 → is_digit (first x) ≡ false
no_digit_first [] h = refl
no_digit_first (b ∷ x) h = no_digit_by (is_digit b) (digits_width x) h

digit_more : (b : Bool) (n m : ℕ) → (if b then suc n else 0) ≡ suc m → n ≡ m
digit_more true n m h = omega arith
digit_more false n m h = cc

digits_end : (u x : Text) → digits_width (u ++ x) ≡ length u → is_digit (first x) ≡ false
digits_end [] x h = no_digit_first x h
digits_end (b ∷ u) x h = digits_end u x (digit_more (is_digit b) (digits_width (u ++ x)) (length u) h)

back_by : (b : Bool) (u x : Text) → (if b then suc (digits_width (u ++ x)) else 0) ≤ suc (length u) → (digits_width (u ++ x) ≤ length u → digits_width u ≡ digits_width (u ++ x))
    → ◌≡◌ {A = ℕ} (if b then suc (digits_width u) else 0) (if b then suc (digits_width (u ++ x)) else 0)
back_by true u x h more = let less : digits_width (u ++ x) ≤ length u = omega arith in ap suc (more less)
back_by false u x h more = refl

pub digits_back : (u x : Text) → digits_width (u ++ x) ≤ length u → digits_width u ≡ digits_width (u ++ x)
digits_back [] x h = omega arith
digits_back (b ∷ u) x h = back_by (is_digit b) u x h (digits_back u x)

-- a test of one byte that fails at the end
less_or_not : (i n : ℕ) → i ≤ n → (i < n) ⊎ (n ≤ i)
less_or_not i n h = grind arith

test_by : (p : ℕ → Bool) (u x : Text) (i : ℕ) (b : Bool) → p (get_or (u ++ x) i 0) ≡ b → p 0 ≡ false → i ≤ length u → (b ≡ true → i < length u) → p (get_or u i 0) ≡ b
test_by p u x i true is at_end h inside = ap p (sym (get_front u x i (inside refl))) ∙ is
test_by p u x i false is at_end h inside = elim (less_or_not i (length u) h) [
  | inl less ↦ ap p (sym (get_front u x i less)) ∙ is
  | inr none ↦ ap p (get_none u i none) ∙ at_end
]

test_back : (p : ℕ → Bool) (u x : Text) (i : ℕ) → p 0 ≡ false → i ≤ length u → (p (get_or (u ++ x) i 0) ≡ true → i < length u) → p (get_or u i 0) ≡ p (get_or (u ++ x) i 0)
test_back p u x i at_end h inside = test_by p u x i (p (get_or (u ++ x) i 0)) refl at_end h inside

-- a number's front
front_of : (b : Bool) (n p : ℕ) → 0 < (if b then 0 else n + 1 + p) → (if b then 0 else n + 1 + p) ≡ n + 1 + p
front_of true n p h = absurd (omega arith)
front_of false n p h = refl

le_of : (n m : ℕ) → n < m → n ≤ m
le_of n m h = omega arith

whole_front : (n p : ℕ) → 0 < mantissa_of n p → mantissa_of n p ≡ n + 1 + p
whole_front n p h = front_of (n == 0 && p == 0) n p h

mantissa_from : (u : Text) (n : ℕ) (c : Bool) → digits_width u ≡ n → (get_or u n 0 == 46) ≡ c → mantissa_width u ≡ (if c then mantissa_of n (digits_width (drop (n + 1) u)) else n)
mantissa_from u n c hn hc =
    ap (λ (m : ℕ). if get_or u m 0 == 46 then mantissa_of m (digits_width (drop (m + 1) u)) else m) hn
    ∙ ap (λ (b : Bool). if b then mantissa_of n (digits_width (drop (n + 1) u)) else n) hc

front_by : (u x : Text) (n : ℕ) (c : Bool) → (get_or (u ++ x) n 0 == 46) ≡ c → n ≡ digits_width (u ++ x)
    → (if c then mantissa_of n (digits_width (drop (n + 1) (u ++ x))) else n) ≤ length u → 0 < (if c then mantissa_of n (digits_width (drop (n + 1) (u ++ x))) else n)
    → mantissa_width u ≡ (if c then mantissa_of n (digits_width (drop (n + 1) (u ++ x))) else n)
front_by u x n false is hn le some =
    let fits : digits_width (u ++ x) ≤ length u = omega arith in
    mantissa_from u n false (digits_back u x fits ∙ sym hn) (test_by (λ b. b == 46) u x n false is refl le (λ h. cc))
front_by u x n true is hn le some =
    let sum = whole_front n (digits_width (drop (n + 1) (u ++ x))) some in
    let less : n < length u = omega arith in
    let fits : digits_width (u ++ x) ≤ length u = omega arith in
    let there : n + 1 ≤ length u = omega arith in
    let rest : drop (n + 1) (u ++ x) ≡ drop (n + 1) u ++ x = drop_front u x (n + 1) there in
    let same : digits_width (drop (n + 1) (u ++ x)) ≡ digits_width (drop (n + 1) u ++ x) = ap digits_width rest in
    let short : digits_width (drop (n + 1) u ++ x) ≤ length (drop (n + 1) u) = omega (arith, length-drop (n + 1) u) in
    mantissa_from u n true (digits_back u x fits ∙ sym hn) (test_by (λ b. b == 46) u x n true is refl (le_of n (length u) less) (λ h. less))
    ∙ ap (mantissa_of n) (digits_back (drop (n + 1) u) x short ∙ sym same)

mantissa_back : (u x : Text) → mantissa_width (u ++ x) ≤ length u → 0 < mantissa_width (u ++ x) → mantissa_width u ≡ mantissa_width (u ++ x)
mantissa_back u x le some = front_by u x (digits_width (u ++ x)) (get_or (u ++ x) (digits_width (u ++ x)) 0 == 46) refl refl le some

-- an exponent
no_e_at_end : (o : Origin) → (kept_byte o 0 == 69) ≡ false
no_e_at_end Program = refl
no_e_at_end Immediate = refl
no_e_at_end Atoms = refl

exponent_least : (a b : Bool) (s : ℕ) → (if a then (if b then 3 + s else 2 + s) else 0) ≡ 1 → ⊥
exponent_least true true s h = omega arith
exponent_least true false s h = omega arith
exponent_least false b s h = cc

one_exponent : (e a b : Bool) (s : ℕ) → (if e then (if a then (if b then 3 + s else 2 + s) else 0) else 0) ≡ 1 → ⊥
one_exponent true a b s h = exponent_least a b s h
one_exponent false a b s h = cc

exponent_by : (t x : Text) (s : ℕ) (a b : Bool) → is_digit (get_or (t ++ x) (1 + s) 0) ≡ a → is_digit (get_or (t ++ x) (2 + s) 0) ≡ b
    → (if a then (if b then 3 + s else 2 + s) else 0) ≡ length t → 0 < length t → exponent_of s t ≡ length t
exponent_by t x s true true ha hb long some =
    let one : 1 + s ≤ length t = omega arith in
    let two : 2 + s ≤ length t = omega arith in
    let one_in : 1 + s < length t = omega arith in
    let two_in : 2 + s < length t = omega arith in
    let l = test_by is_digit t x (1 + s) true ha refl one (λ h. one_in) in
    let r = test_by is_digit t x (2 + s) true hb refl two (λ h. two_in) in
    (λ i. if l i then (if r i then 3 + s else 2 + s) else 0) ∙ long
exponent_by t x s true false ha hb long some =
    let one : 1 + s ≤ length t = omega arith in
    let two : 2 + s ≤ length t = omega arith in
    let one_in : 1 + s < length t = omega arith in
    let l = test_by is_digit t x (1 + s) true ha refl one (λ h. one_in) in
    let r = test_by is_digit t x (2 + s) false hb refl two (λ h. cc) in
    (λ i. if l i then (if r i then 3 + s else 2 + s) else 0) ∙ long
exponent_by t x s false b ha hb long some = absurd (omega arith)

exponent_back : (o : Origin) (v x : Text) → exponent_width o (v ++ x) ≡ length v → exponent_width o v ≡ length v
exponent_back o [] x h = ap (λ (b : Bool). if b then exponent_of (sign_width 0) [] else 0) (no_e_at_end o)
exponent_back o (a ∷ []) x h =
    absurd (one_exponent (kept_byte o a == 69) (is_digit (get_or (a ∷ x) (1 + sign_width (get_or x 0 0)) 0)) (is_digit (get_or (a ∷ x) (2 + sign_width (get_or x 0 0)) 0)) (sign_width (get_or x 0 0)) h)
exponent_back o (a ∷ b ∷ v) x h =
    let is = width_yes (kept_byte o a == 69) (exponent_of (sign_width b) (a ∷ b ∷ (v ++ x))) (suc (length v)) h in
    let t : Text = a ∷ b ∷ v in
    ap (λ (e : Bool). if e then exponent_of (sign_width b) (a ∷ b ∷ v) else 0) is.0
    ∙ exponent_by (a ∷ b ∷ v) x (sign_width b) (is_digit (get_or (a ∷ b ∷ (v ++ x)) (1 + sign_width b) 0)) (is_digit (get_or (a ∷ b ∷ (v ++ x)) (2 + sign_width b) 0)) refl refl is.1 (omega arith)

-- a number
some_of : (m : ℕ) → (m == 0) ≡ false → 0 < m
some_of m h = grind (arith, nat_tests)

pub number_back : (o : Origin) (a : ℕ) (w x : Text) → number_width o (a ∷ (w ++ x)) ≡ suc (length w) → number_width o (a ∷ w) ≡ suc (length w)
number_back o a w x h =
    let u : Text = a ∷ w in
    let m : ℕ = mantissa_width (u ++ x) in
    let is = number_parts m (exponent_width o (drop m (u ++ x))) (length w) (m == 0) refl h in
    let fits : m ≤ length u = (let sum = is.1 in omega arith) in
    let same : mantissa_width u ≡ m = mantissa_back u x fits (some_of m is.0) in
    let rest : exponent_width o (drop m (u ++ x)) ≡ exponent_width o (drop m u ++ x) = ap (exponent_width o) (drop_front u x m fits) in
    let tail : exponent_width o (drop m u ++ x) ≡ length (drop m u) = (let sum = is.1 in omega (arith, length-drop m u)) in
    ap (λ (n : ℕ). number_width_by o n u) same
    ∙ ap (λ (b : Bool). if b then 0 else m + exponent_width o (drop m u)) is.0
    ∙ ap (λ (n : ℕ). m + n) (exponent_back o (drop m u) x tail ∙ sym tail ∙ sym rest)
    ∙ is.1

-- what is kept of a text has the same widths
pub kept_digit : (o : Origin) (b : ℕ) → is_digit (kept_byte o b) ≡ is_digit b
kept_digit Program b = grind (arith, nat_tests)
kept_digit Immediate b = grind (arith, nat_tests)
kept_digit Atoms b = refl

-- a byte that no letter is kept as
abbrev pub is_fixed : ℕ → Bool
is_fixed c = nat_lt c 65 && nat_lt 0 c

pub kept_fixed : (o : Origin) (b c : ℕ) → is_fixed c ≡ true → (kept_byte o b == c) ≡ (b == c)
kept_fixed Program b c h = grind (arith, nat_tests)
kept_fixed Immediate b c h = grind (arith, nat_tests)
kept_fixed Atoms b c h = refl

kept_null : (o : Origin) → kept_byte o 0 ≡ 0
kept_null Program = refl
kept_null Immediate = refl
kept_null Atoms = refl

get_kept : (o : Origin) (u : Text) (i : ℕ) → get_or (map (kept_byte o) u) i 0 ≡ kept_byte o (get_or u i 0)
get_kept o [] i = sym (kept_null o)
get_kept o (b ∷ u) zero = refl
get_kept o (b ∷ u) (suc i) = get_kept o u i

drop_kept : (o : Origin) (u : Text) (i : ℕ) → drop i (map (kept_byte o) u) ≡ map (kept_byte o) (drop i u)
drop_kept o u zero = refl
drop_kept o [] (suc i) = refl
drop_kept o (b ∷ u) (suc i) = drop_kept o u i

first_kept : (o : Origin) (u : Text) → first (map (kept_byte o) u) ≡ kept_byte o (first u)
first_kept o [] = sym (kept_null o)
first_kept o (b ∷ u) = refl

digits_kept : (o : Origin) (u : Text) → digits_width (map (kept_byte o) u) ≡ digits_width u
digits_kept o [] = refl
digits_kept o (b ∷ u) = λ i. if kept_digit o b i then suc (digits_kept o u i) else 0

point_kept : (o : Origin) (u : Text) (n : ℕ) → (get_or (map (kept_byte o) u) n 0 == 46) ≡ (get_or u n 0 == 46)
point_kept o u n = ap (λ (b : ℕ). b == 46) (get_kept o u n) ∙ kept_fixed o (get_or u n 0) 46 refl

part_kept : (o : Origin) (u : Text) (n : ℕ) → digits_width (drop n (map (kept_byte o) u)) ≡ digits_width (drop n u)
part_kept o u n = ap digits_width (drop_kept o u n) ∙ digits_kept o (drop n u)

mantissa_kept : (o : Origin) (u : Text) → mantissa_width (map (kept_byte o) u) ≡ mantissa_width u
mantissa_kept o u =
    ap (λ (n : ℕ). if get_or (map (kept_byte o) u) n 0 == 46 then mantissa_of n (digits_width (drop (n + 1) (map (kept_byte o) u))) else n) (digits_kept o u)
    ∙ (λ i. if point_kept o u (digits_width u) i then mantissa_of (digits_width u) (part_kept o u (digits_width u + 1) i) else digits_width u)

digit_at : (o : Origin) (u : Text) (n : ℕ) → is_digit (get_or (map (kept_byte o) u) n 0) ≡ is_digit (get_or u n 0)
digit_at o u n = ap is_digit (get_kept o u n) ∙ kept_digit o (get_or u n 0)

sign_kept : (o : Origin) (b : ℕ) → sign_width (kept_byte o b) ≡ sign_width b
sign_kept o b = λ i. if kept_fixed o b 43 refl i || kept_fixed o b 45 refl i then 1 else 0

tail_of : (o : Origin) (u : Text) (n : ℕ) → exponent_of n (map (kept_byte o) u) ≡ exponent_of n u
tail_of o u n = λ i. if digit_at o u (1 + n) i then (if digit_at o u (2 + n) i then 3 + n else 2 + n) else 0

tail_kept : (o : Origin) (u : Text) → exponent_of (sign_width (get_or (map (kept_byte o) u) 1 0)) (map (kept_byte o) u) ≡ exponent_of (sign_width (get_or u 1 0)) u
tail_kept o u =
    ap (λ (n : ℕ). exponent_of n (map (kept_byte o) u)) (ap sign_width (get_kept o u 1) ∙ sign_kept o (get_or u 1 0)) ∙ tail_of o u (sign_width (get_or u 1 0))

exponent_kept : (o : Origin) (u : Text) → exponent_width Atoms (map (kept_byte o) u) ≡ exponent_width o u
exponent_kept o u =
    ap (λ (n : ℕ). if n == 69 then exponent_of (sign_width (get_or (map (kept_byte o) u) 1 0)) (map (kept_byte o) u) else 0) (first_kept o u)
    ∙ ap (λ (n : ℕ). if kept_byte o (first u) == 69 then n else 0) (tail_kept o u)

pub number_kept : (o : Origin) (u : Text) → number_width Atoms (map (kept_byte o) u) ≡ number_width o u
number_kept o u =
    ap (λ (m : ℕ). number_width_by Atoms m (map (kept_byte o) u)) (mantissa_kept o u)
    ∙ ap (λ (n : ℕ). if mantissa_width u == 0 then 0 else mantissa_width u + n) (ap (exponent_width Atoms) (drop_kept o u (mantissa_width u)) ∙ exponent_kept o (drop (mantissa_width u) u))

front_signed : (o : Origin) (u : Text) → (first (map (kept_byte o) u) == 43 || first (map (kept_byte o) u) == 45) ≡ (first u == 43 || first u == 45)
front_signed o u =
    ap (λ (b : ℕ). b == 43 || b == 45) (first_kept o u) ∙ (λ i. kept_fixed o (first u) 43 refl i || kept_fixed o (first u) 45 refl i)

pub signed_kept : (o : Origin) (u : Text) → signed_number_width Atoms (map (kept_byte o) u) ≡ signed_number_width o u
signed_kept o u =
    (λ i. if front_signed o u i then one_more (number_width Atoms (drop_kept o u 1 i)) else number_kept o u i)
    ∙ ap (λ (n : ℕ). if first u == 43 || first u == 45 then one_more n else number_width o u) (number_kept o (drop 1 u))

digit_same : (o : Origin) (b : ℕ) → is_digit b ≡ true → kept_byte o b ≡ b
digit_same Program b h = grind (arith, nat_tests)
digit_same Immediate b h = grind (arith, nat_tests)
digit_same Atoms b h = refl

value_by : (o : Origin) (n b : ℕ) (u : Text) (d : Bool) → is_digit b ≡ d → capped_value 999 (min (n * 10 + (b - 48)) 999) (map (kept_byte o) u) ≡ capped_value 999 (min (n * 10 + (b - 48)) 999) u
    → (if d then capped_value 999 (min (n * 10 + (kept_byte o b - 48)) 999) (map (kept_byte o) u) else n) ≡ (if d then capped_value 999 (min (n * 10 + (b - 48)) 999) u else n)
value_by o n b u true is more = ap (λ (k : ℕ). capped_value 999 (min (n * 10 + (k - 48)) 999) (map (kept_byte o) u)) (digit_same o b is) ∙ more
value_by o n b u false is more = refl

value_kept : (o : Origin) (n : ℕ) (u : Text) → capped_value 999 n (map (kept_byte o) u) ≡ capped_value 999 n u
value_kept o n [] = refl
value_kept o n (b ∷ u) =
    ap (λ (d : Bool). if d then capped_value 999 (min (n * 10 + (kept_byte o b - 48)) 999) (map (kept_byte o) u) else n) (kept_digit o b)
    ∙ value_by o n b u (is_digit b) refl (value_kept o (min (n * 10 + (b - 48)) 999) u)

pub small_kept : (o : Origin) (u : Text) → small_width (map (kept_byte o) u) ≡ small_width u
small_kept o u = λ i. if nat_le (value_kept o 0 u i) 255 then digits_kept o u i else 0

pub slot_kept : (o : Origin) (a : ℕ) (u : Text) → slot_width (map (kept_byte o) (a ∷ u)) ≡ slot_width (a ∷ u)
slot_kept o a u = λ i. if kept_fixed o a 35 refl i && (nat_lt 0 (digits_kept o u i) && nat_le (value_kept o 0 u i) 15) then digits_kept o u i + 1 else 0

until_kept : (o : Origin) (u : Text) → until_parenthesis Atoms (map (kept_byte o) u) ≡ until_parenthesis o u
until_kept o [] = refl
until_kept o (b ∷ u) = ap (λ (n : ℕ). if ends_image o b then 0 else suc n) (until_kept o u)

point_of : (o : Origin) (u : Text) (n : ℕ) → (get_or (map (kept_byte o) u) n 0 == 41) ≡ (get_or u n 0 == 41)
point_of o u n = ap (λ (b : ℕ). b == 41) (get_kept o u n) ∙ kept_fixed o (get_or u n 0) 41 refl

pub image_kept : (o : Origin) (a : ℕ) (u : Text) → image_width Atoms (map (kept_byte o) (a ∷ u)) ≡ image_width o (a ∷ u)
image_kept o a u =
    ap (λ (n : ℕ). if not (kept_byte o a == 32) && get_or (map (kept_byte o) (a ∷ u)) n 0 == 41 then n + 1 else 0) (until_kept o (a ∷ u))
    ∙ (λ i. if not (kept_fixed o a 32 refl i) && point_of o (a ∷ u) (until_parenthesis o (a ∷ u)) i then until_parenthesis o (a ∷ u) + 1 else 0)

-- the same widths without what stands after, of the other kinds
no_more : (n : ℕ) → one_more n ≡ 1 → ⊥
no_more n h = grind (arith, nat_tests)

signed_by : (o : Origin) (a : ℕ) (w x : Text) (s : Bool) → (if s then one_more (number_width o (w ++ x)) else number_width o (a ∷ (w ++ x))) ≡ suc (length w)
    → (if s then one_more (number_width o w) else number_width o (a ∷ w)) ≡ suc (length w)
signed_by o a w x false h = number_back o a w x h
signed_by o a [] x true h = absurd (no_more (number_width o x) h)
signed_by o a (b ∷ w) x true h =
    ap one_more (number_back o b w x (signed_parts (number_width o (b ∷ (w ++ x))) (suc (length w)) h)) ∙ one_more_suc (length w)

pub signed_back : (o : Origin) (a : ℕ) (w x : Text) → signed_number_width o (a ∷ (w ++ x)) ≡ suc (length w) → signed_number_width o (a ∷ w) ≡ suc (length w)
signed_back o a w x h = signed_by o a w x (a == 43 || a == 45) h

pub small_back : (a : ℕ) (w x : Text) → small_width (a ∷ (w ++ x)) ≡ suc (length w) → small_width (a ∷ w) ≡ suc (length w)
small_back a w x h =
    let is = width_yes (nat_le (capped_value 999 0 (a ∷ (w ++ x))) 255) (digits_width (a ∷ (w ++ x))) (length w) h in
    sym (small_more (a ∷ w) x (digits_end (a ∷ w) x is.1)) ∙ h

pub slot_back : (a : ℕ) (w x : Text) → slot_width (a ∷ (w ++ x)) ≡ suc (length w) → slot_width (a ∷ w) ≡ suc (length w)
slot_back a w x h =
    let is = width_yes (a == 35 && (nat_lt 0 (digits_width (w ++ x)) && nat_le (capped_value 999 0 (w ++ x)) 15)) (digits_width (w ++ x) + 1) (length w) h in
    let long : digits_width (w ++ x) ≡ length w = (let sum = is.1 in omega arith) in
    sym (slot_more a w x (digits_end w x long)) ∙ h

quote_by : (b : Bool) (w x : Text) → (if b then 0 else suc (until_quote (w ++ x))) < suc (length w) → (until_quote (w ++ x) < length w → until_quote w ≡ until_quote (w ++ x))
    → ◌≡◌ {A = ℕ} (if b then 0 else suc (until_quote w)) (if b then 0 else suc (until_quote (w ++ x)))
quote_by true w x h more = refl
quote_by false w x h more = let less : until_quote (w ++ x) < length w = omega arith in ap suc (more less)

quote_back : (w x : Text) → until_quote (w ++ x) < length w → until_quote w ≡ until_quote (w ++ x)
quote_back [] x h = absurd (omega arith)
quote_back (b ∷ w) x h = quote_by (b == 34 || not (is_printable b)) w x h (quote_back w x)

get_back : (c : ℕ) (u x : Text) (n : ℕ) → n < length u → (get_or u n 0 == c) ≡ (get_or (u ++ x) n 0 == c)
get_back c u x n h = ap (λ (b : ℕ). b == c) (sym (get_front u x n h))

pub literal_back : (a : ℕ) (w x : Text) → literal_width (a ∷ (w ++ x)) ≡ suc (length w) → literal_width (a ∷ w) ≡ suc (length w)
literal_back a w x h =
    let is = width_yes (a == 34 && (nat_lt 0 (until_quote (w ++ x)) && get_or (a ∷ (w ++ x)) (until_quote (w ++ x) + 1) 0 == 34)) (until_quote (w ++ x) + 2) (length w) h in
    let less : until_quote (w ++ x) < length w = (let sum = is.1 in omega arith) in
    let inside : until_quote (w ++ x) + 1 < length (a ∷ w) = omega arith in
    ap (λ (n : ℕ). if a == 34 && (nat_lt 0 n && get_or (a ∷ w) (n + 1) 0 == 34) then n + 2 else 0) (quote_back w x less)
    ∙ ap (λ (b : Bool). if a == 34 && (nat_lt 0 (until_quote (w ++ x)) && b) then until_quote (w ++ x) + 2 else 0) (get_back 34 (a ∷ w) x (until_quote (w ++ x) + 1) inside)
    ∙ h

until_by : (o : Origin) (b : Bool) (w x : Text) → (if b then 0 else suc (until_parenthesis o (w ++ x))) < suc (length w)
    → (until_parenthesis o (w ++ x) < length w → until_parenthesis o w ≡ until_parenthesis o (w ++ x))
    → ◌≡◌ {A = ℕ} (if b then 0 else suc (until_parenthesis o w)) (if b then 0 else suc (until_parenthesis o (w ++ x)))
until_by o true w x h more = refl
until_by o false w x h more = let less : until_parenthesis o (w ++ x) < length w = omega arith in ap suc (more less)

until_back : (o : Origin) (w x : Text) → until_parenthesis o (w ++ x) < length w → until_parenthesis o w ≡ until_parenthesis o (w ++ x)
until_back o [] x h = absurd (omega arith)
until_back o (b ∷ w) x h = until_by o (ends_image o b) w x h (until_back o w x)

pub image_back : (o : Origin) (a : ℕ) (w x : Text) → image_width o (a ∷ (w ++ x)) ≡ suc (length w) → image_width o (a ∷ w) ≡ suc (length w)
image_back o a w x h =
    let u : Text = a ∷ w in
    let is = image_parts (not (a == 32)) (get_or (u ++ x) (until_parenthesis o (u ++ x)) 0 == 41) (until_parenthesis o (u ++ x)) (length w) h in
    let less : until_parenthesis o (u ++ x) < length u = (let sum = is.1 in omega arith) in
    ap (λ (n : ℕ). if not (a == 32) && get_or u n 0 == 41 then n + 1 else 0) (until_back o u x less)
    ∙ ap (λ (b : Bool). if not (a == 32) && b then until_parenthesis o (u ++ x) + 1 else 0) (get_back 41 u x (until_parenthesis o (u ++ x)) less)
    ∙ h

relation_one : (a n : ℕ) → relation_length a n ≡ 1 → relation_length a 0 ≡ 1
relation_one a n h = grind (arith, nat_tests)

pub relation_back : (a : ℕ) (w x : Text) → relation_width (a ∷ (w ++ x)) ≡ suc (length w) → relation_width (a ∷ w) ≡ suc (length w)
relation_back a [] x h = relation_one a (get_or x 0 0) h
relation_back a (b ∷ []) x h = h
relation_back a (b ∷ c ∷ w) x h = absurd (relation_most a b (length w) h)

relation_kept : (o : Origin) (a b : ℕ) → relation_length (kept_byte o a) (kept_byte o b) ≡ relation_length a b
relation_kept o a b = λ i.
    if kept_fixed o a 60 refl i && (kept_fixed o b 61 refl i || kept_fixed o b 62 refl i) || (kept_fixed o a 62 refl i && kept_fixed o b 61 refl i) then 2
    else (if kept_fixed o a 60 refl i || (kept_fixed o a 62 refl i || kept_fixed o a 61 refl i) then 1 else 0)

pub relation_kept_text : (o : Origin) (a : ℕ) (w : Text) → relation_width (map (kept_byte o) (a ∷ w)) ≡ relation_width (a ∷ w)
relation_kept_text o a w = ap (relation_length (kept_byte o a)) (get_kept o w 0) ∙ relation_kept o a (get_or w 0 0)
