-- Names, hexadecimal digits, comparison signs and images have their width, whatever stands after them that doesn't run on.
use Rattle.std.proofs.Common.{◌≡◌, ℕ, zero, suc, ◌+◌, Bool, true, false, if◌then◌else◌, ◌==◌, ◌&&◌, [], ◌∷◌, ◌++◌, length, get_or, drop, refl, sym, ap, ◌∙◌, arith, nat_lt, inl, inr, ◌⊎◌}
use Rattle.std.proofs.lemmas.Bool.Decides.{nat_tests}
use Rattle.b2_base.specs.Lexical.{first, is_digit, is_letter, upper}
use Rattle.b2_atom.specs.Words.{Text, kept_byte, ahead}
use Rattle.b2_atom.specs.Leaves.{name_width, is_alpha_name, numeric_name_width, alpha_name_width, local_name_width, any_name_width}
use Rattle.b2_atom.specs.declared.words.Origin.{Origin}
use Rattle.b2_atom.specs.declared.words.Origin.TheVariants.{Program, Immediate, Atoms}
use Rattle.b2_atom.proofs.Booleans.{and_right, equal}
use Rattle.b2_atom.proofs.typed.WordsRead.{begins_word, typed_sign, typed_letter, typed_global}
use Rattle.b2_atom.proofs.typed.Widths.{get_first}

-- a byte before what is no letter
pub ahead_letter : (o : Origin) (b : ℕ) (x : Text) → upper b ≡ b → is_letter (upper (first x)) ≡ false → ahead o (b ∷ x) ≡ (b, x)
ahead_letter Program b x up h = typed_letter b x h ∙ ap (λ (n : ℕ). (n, x)) up
ahead_letter Immediate b x up h = typed_letter b x h ∙ ap (λ (n : ℕ). (n, x)) up
ahead_letter Atoms b x up h = refl

-- a byte that begins no word
pub ahead_sign : (o : Origin) (b : ℕ) (x : Text) → upper b ≡ b → begins_word b ≡ false → ahead o (b ∷ x) ≡ (b, x)
ahead_sign Program b x up h = typed_sign b x (ap begins_word up ∙ h) ∙ ap (λ (n : ℕ). (n, x)) up
ahead_sign Immediate b x up h = typed_sign b x (ap begins_word up ∙ h) ∙ ap (λ (n : ℕ). (n, x)) up
ahead_sign Atoms b x up h = refl

pub ahead_global : (o : Origin) (y : ℕ) (x : Text) → is_letter (upper (first x)) ≡ false → ahead o (64 ∷ y ∷ x) ≡ (64, y ∷ x)
ahead_global Program y x h = typed_global y x h
ahead_global Immediate y x h = typed_global y x h
ahead_global Atoms y x h = refl

pub letter_kept : (o : Origin) (b : ℕ) → is_letter b ≡ true → kept_byte o b ≡ b
letter_kept Program b h = grind (arith, nat_tests)
letter_kept Immediate b h = grind (arith, nat_tests)
letter_kept Atoms b h = refl

pub letter_upper : (b : ℕ) → is_letter b ≡ true → upper b ≡ b
letter_upper b h = grind (arith, nat_tests)

pub digit_upper : (b : ℕ) → is_digit b ≡ true → is_letter (upper b) ≡ false
digit_upper b h = grind (arith, nat_tests)

no_both : (b : ℕ) → is_digit b ≡ true → is_letter b ≡ false
no_both b h = grind (arith, nat_tests)

-- a letter and a digit or none, after `@` or not
abbrev pub NameShape : Text → Type 0
NameShape [] = ⊥
NameShape (a ∷ []) = is_letter a ≡ true
NameShape (a ∷ b ∷ []) = ((is_letter a ≡ true) × (is_digit b ≡ true)) ⊎ ((a ≡ 64) × (is_letter b ≡ true))
NameShape (a ∷ b ∷ c ∷ []) = (a ≡ 64) × ((is_letter b ≡ true) × (is_digit c ≡ true))
NameShape (a ∷ b ∷ c ∷ d ∷ w) = ⊥

-- the width of a name by its tests
abbrev pub width_of : Bool → Bool → Bool → Bool → ℕ
width_of l d g e = if l then (if d then 2 else 1) else (if g then (if e then 3 else 2) else 0)

no_g : (g : Bool) → (g && false) ≡ false
no_g true = refl
no_g false = refl

one_shape : (l d g e : Bool) → width_of l d (g && false) e ≡ 1 → l ≡ true
one_shape true d g e h = refl
one_shape false d true e h = cc
one_shape false d false e h = cc

two_shape : (l d g y : Bool) → width_of l d (g && y) false ≡ 2 → ((l ≡ true) × (d ≡ true)) ⊎ ((g ≡ true) × (y ≡ true))
two_shape true true g y h = inl (refl, refl)
two_shape true false g y h = cc
two_shape false d true true h = inr (refl, refl)
two_shape false d true false h = cc
two_shape false d false y h = cc

pub three_shape : (l d g y e : Bool) → width_of l d (g && y) e ≡ 3 → (g ≡ true) × ((y ≡ true) × (e ≡ true))
three_shape true true g y e h = cc
three_shape true false g y e h = cc
three_shape false d true true true h = (refl, (refl, refl))
three_shape false d true true false h = cc
three_shape false d true false e h = cc
three_shape false d false y e h = cc

pub too_wide : (l d g e : Bool) (n : ℕ) → width_of l d g e ≡ suc (suc (suc (suc n))) → ⊥
too_wide true true g e n h = cc
too_wide true false g e n h = cc
too_wide false d true true n h = cc
too_wide false d true false n h = cc
too_wide false d false e n h = cc

sign_of : (a b : ℕ) → ((is_letter a ≡ true) × (is_digit b ≡ true)) ⊎ (((a == 64) ≡ true) × (is_letter b ≡ true)) → NameShape (a ∷ b ∷ [])
sign_of a b (inl h) = inl h
sign_of a b (inr h) = inr (equal a 64 h.0, h.1)

pub name_shape : (a : ℕ) (w : Text) → name_width Atoms (a ∷ w) ≡ suc (length w) → NameShape (a ∷ w)
name_shape a [] h = one_shape (is_letter a) false (a == 64) false h
name_shape a (b ∷ []) h = sign_of a b (two_shape (is_letter a) (is_digit b) (a == 64) (is_letter b) h)
name_shape a (b ∷ c ∷ []) h =
    let is = three_shape (is_letter a) (is_digit b) (a == 64) (is_letter b) (is_digit c) h in
    (equal a 64 is.0, is.1)
name_shape a (b ∷ c ∷ d ∷ w) h = absurd (too_wide (is_letter a) (is_digit b) (a == 64 && is_letter b) (is_digit c) (length w) h)

-- a name as it is read before some text
pub record NameRead (o : Origin) (w x : Text) : Type 0 where
  pub width : name_width o (w ++ x) ≡ length w
  pub whole : ahead o (w ++ x) ≡ (first w, drop 1 (w ++ x))

no_digit_first : (x : Text) → is_digit (first x) ≡ false → is_digit (get_or x 0 0) ≡ false
no_digit_first x h = ap is_digit (get_first x) ∙ h

pub name_read : (o : Origin) (w x : Text) → NameShape w → is_digit (first x) ≡ false → is_letter (upper (first x)) ≡ false → NameRead o w x
name_read o [] x shape digit letter = absurd shape
name_read o (a ∷ []) x shape digit letter =
    let e = ahead_letter o a x (letter_upper a shape) letter in
    let l : is_letter (ahead o (a ∷ x)).0 ≡ true = ap (λ (p : ℕ × Text). is_letter p.0) e ∙ shape in
    let d = no_digit_first x digit in
    record {
      width = λ i. width_of (l i) (d i) ((ahead o (a ∷ x)).0 == 64 && is_letter (kept_byte o (get_or x 0 0))) (is_digit (get_or x 1 0));
      whole = e;
    }
name_read o (a ∷ b ∷ []) x (inl shape) digit letter =
    let e = ahead_letter o a (b ∷ x) (letter_upper a shape.0) (digit_upper b shape.1) in
    let l : is_letter (ahead o (a ∷ b ∷ x)).0 ≡ true = ap (λ (p : ℕ × Text). is_letter p.0) e ∙ shape.0 in
    let d = shape.1 in
    record {
      width = λ i. width_of (l i) (d i) ((ahead o (a ∷ b ∷ x)).0 == 64 && is_letter (kept_byte o b)) (is_digit (get_or x 0 0));
      whole = e;
    }
name_read o (a ∷ b ∷ []) x (inr shape) digit letter =
    let e : ahead o (a ∷ b ∷ x) ≡ (64, b ∷ x) = ap (λ (n : ℕ). ahead o (n ∷ b ∷ x)) shape.0 ∙ ahead_global o b x letter in
    let d = no_digit_first x digit in
    let y : is_letter (kept_byte o b) ≡ true = ap is_letter (letter_kept o b shape.1) ∙ shape.1 in
    record {
      width = (λ i. width_of (is_letter (e i).0) (is_digit b) ((e i).0 == 64 && y i) (d i));
      whole = e ∙ ap (λ (n : ℕ). (n, b ∷ x)) (sym shape.0);
    }
name_read o (a ∷ b ∷ c ∷ []) x shape digit letter =
    let e : ahead o (a ∷ b ∷ c ∷ x) ≡ (64, b ∷ c ∷ x) = ap (λ (n : ℕ). ahead o (n ∷ b ∷ c ∷ x)) shape.0 ∙ ahead_global o b (c ∷ x) (digit_upper c shape.1.1) in
    let y : is_letter (kept_byte o b) ≡ true = ap is_letter (letter_kept o b shape.1.0) ∙ shape.1.0 in
    let d = shape.1.1 in
    record {
      width = (λ i. width_of (is_letter (e i).0) (is_digit b) ((e i).0 == 64 && y i) (d i));
      whole = e ∙ ap (λ (n : ℕ). (n, b ∷ c ∷ x)) (sym shape.0);
    }
name_read o (a ∷ b ∷ c ∷ d ∷ w) x shape digit letter = absurd shape

some_left : (n : ℕ) → nat_lt 0 (suc n) ≡ true
some_left n = grind (arith, nat_tests)

behind_some : (n : ℕ) (b : Bool) → (nat_lt 0 (suc n) && b) ≡ b
behind_some n b = rw (some_left n) refl

-- whether `$` stands after a name
pub alpha_by : (o : Origin) (t : Text) (n : ℕ) → name_width o t ≡ suc n → is_alpha_name o t ≡ (get_or t (suc n) 0 == 36)
alpha_by o t n h = ap (λ (m : ℕ). nat_lt 0 m && get_or t m 0 == 36) h ∙ behind_some n (get_or t (suc n) 0 == 36)

get_behind : (w x : Text) → get_or (w ++ x) (length w) 0 ≡ first x
get_behind [] x = get_first x
get_behind (b ∷ w) x = get_behind w x

-- the name of a number
pub record NumericRead (o : Origin) (w x : Text) : Type 0 where
  pub whole : ahead o (w ++ x) ≡ (first w, drop 1 (w ++ x))
  pub alpha : is_alpha_name o (w ++ x) ≡ false
  pub name : name_width o (w ++ x) ≡ length w
  pub numeric : numeric_name_width o (w ++ x) ≡ length w
  pub any : any_name_width o (w ++ x) ≡ length w

pub numeric_read : (o : Origin) (a : ℕ) (w x : Text) → NameShape (a ∷ w) → is_digit (first x) ≡ false → is_letter (upper (first x)) ≡ false
    → (first x == 36) ≡ false → NumericRead o (a ∷ w) x
numeric_read o a w x shape digit letter dollar =
    let is = name_read o (a ∷ w) x shape digit letter in
    let none : is_alpha_name o (a ∷ (w ++ x)) ≡ false = alpha_by o (a ∷ (w ++ x)) (length w) is.width ∙ ap (λ (n : ℕ). n == 36) (get_behind (a ∷ w) x) ∙ dollar in
    record {
      whole = is.whole;
      alpha = none;
      name = is.width;
      numeric = ap (λ (b : Bool). if b then 0 else name_width o (a ∷ (w ++ x))) none ∙ is.width;
      any = ap (λ (b : Bool). if b then alpha_name_width o (a ∷ (w ++ x)) else name_width o (a ∷ (w ++ x))) none ∙ is.width;
    }

-- the name of an alpha variable, without its `$`
pub record AlphaRead (o : Origin) (v x : Text) : Type 0 where
  pub whole : ahead o (v ++ 36 ∷ x) ≡ (first v, drop 1 (v ++ 36 ∷ x))
  pub alpha : is_alpha_name o (v ++ 36 ∷ x) ≡ true
  pub name : name_width o (v ++ 36 ∷ x) ≡ length v
  pub numeric : numeric_name_width o (v ++ 36 ∷ x) ≡ 0
  pub named : alpha_name_width o (v ++ 36 ∷ x) ≡ length v + 1
  pub any : any_name_width o (v ++ 36 ∷ x) ≡ length v + 1

pub alpha_read : (o : Origin) (a : ℕ) (w x : Text) → NameShape (a ∷ w) → AlphaRead o (a ∷ w) x
alpha_read o a w x shape =
    let is = name_read o (a ∷ w) (36 ∷ x) shape refl refl in
    let there : is_alpha_name o (a ∷ (w ++ 36 ∷ x)) ≡ true = alpha_by o (a ∷ (w ++ 36 ∷ x)) (length w) is.width ∙ ap (λ (n : ℕ). n == 36) (get_behind (a ∷ w) (36 ∷ x)) in
    let wide : alpha_name_width o (a ∷ (w ++ 36 ∷ x)) ≡ suc (length w) + 1 =
    ap (λ (b : Bool). if b then name_width o (a ∷ (w ++ 36 ∷ x)) + 1 else 0) there ∙ ap (λ (n : ℕ). n + 1) is.width in
    record {
      whole = is.whole;
      alpha = there;
      name = is.width;
      numeric = ap (λ (b : Bool). if b then 0 else name_width o (a ∷ (w ++ 36 ∷ x))) there;
      named = wide;
      any = ap (λ (b : Bool). if b then alpha_name_width o (a ∷ (w ++ 36 ∷ x)) else name_width o (a ∷ (w ++ 36 ∷ x))) there ∙ wide;
    }

-- where no name stands
pub no_name : (o : Origin) (t : Text) → is_letter (ahead o t).0 ≡ false → ((ahead o t).0 == 64) ≡ false → name_width o t ≡ 0
no_name o t letter sign =
    λ i. width_of (letter i) (is_digit (get_or t 1 0)) (sign i && is_letter (kept_byte o (get_or t 1 0))) (is_digit (get_or t 2 0))

pub no_alpha : (o : Origin) (t : Text) → name_width o t ≡ 0 → is_alpha_name o t ≡ false
no_alpha o t h = ap (λ (m : ℕ). nat_lt 0 m && get_or t m 0 == 36) h

-- a whole name
pub numeric_of : (b : Bool) (n m : ℕ) → (if b then 0 else n) ≡ suc m → n ≡ suc m
numeric_of true n m h = cc
numeric_of false n m h = h

pub numeric_shape : (a : ℕ) (w : Text) → numeric_name_width Atoms (a ∷ w) ≡ suc (length w) → NameShape (a ∷ w)
numeric_shape a w h = name_shape a w (numeric_of (is_alpha_name Atoms (a ∷ w)) (name_width Atoms (a ∷ w)) (length w) h)

pub local_of : (b : Bool) (n m : ℕ) → (if b then 0 else n) ≡ suc m → (b ≡ false) × (n ≡ suc m)
local_of true n m h = cc
local_of false n m h = (refl, h)

pub local_shape : (a : ℕ) (w : Text) → local_name_width Atoms (a ∷ w) ≡ suc (length w) → ((a == 64) ≡ false) × NameShape (a ∷ w)
local_shape a w h = let is = local_of (a == 64) (numeric_name_width Atoms (a ∷ w)) (length w) h in (is.0, numeric_shape a w is.1)

-- a whole name of an alpha variable: one of a number, and `$`
pub record AlphaShape (w : Text) : Type 0 where
  pub head : ℕ
  pub rest : Text
  pub shape : NameShape (head ∷ rest)
  pub is : w ≡ head ∷ (rest ++ 36 ∷ [])

pub named_of : (b : Bool) (n m : ℕ) → (if b then n + 1 else 0) ≡ suc m → (b ≡ true) × (n ≡ m)
named_of true n m h = let less : n ≡ m = omega arith in (refl, less)
named_of false n m h = cc

pub dollar_of : (t : Text) (n m : ℕ) → n ≡ suc m → (nat_lt 0 n && get_or t n 0 == 36) ≡ true → get_or t (suc m) 0 ≡ 36
dollar_of t n m is h = equal (get_or t (suc m) 0) 36 (ap (λ (k : ℕ). get_or t k 0 == 36) (sym is) ∙ and_right (nat_lt 0 n) (get_or t n 0 == 36) h)

pub no_width : (n : ℕ) (b : Bool) → n ≡ 0 → (nat_lt 0 n && b) ≡ true → ⊥
no_width zero b is h = cc
no_width (suc n) b is h = cc

pub one_letter : (l d g : Bool) → width_of l d g false ≡ 1 → l ≡ true
one_letter true d g h = refl
one_letter false d true h = cc
one_letter false d false h = cc

pub two_kinds : (l d g y e : Bool) → width_of l d (g && y) e ≡ 2 → ((l ≡ true) × (d ≡ true)) ⊎ ((g ≡ true) × (y ≡ true))
two_kinds true true g y e h = inl (refl, refl)
two_kinds true false g y e h = cc
two_kinds false d true true e h = inr (refl, refl)
two_kinds false d true false e h = cc
two_kinds false d false y e h = cc

pub alpha_shape : (a : ℕ) (w : Text) → alpha_name_width Atoms (a ∷ w) ≡ suc (length w) → AlphaShape (a ∷ w)
alpha_shape a [] h =
    let is = named_of (is_alpha_name Atoms (a ∷ [])) (name_width Atoms (a ∷ [])) 0 h in
    absurd (no_width (name_width Atoms (a ∷ [])) (get_or (a ∷ []) (name_width Atoms (a ∷ [])) 0 == 36) is.1 is.0)
alpha_shape a (b ∷ []) h =
    let is = named_of (is_alpha_name Atoms (a ∷ b ∷ [])) (name_width Atoms (a ∷ b ∷ [])) 1 h in
    let dollar : b ≡ 36 = dollar_of (a ∷ b ∷ []) (name_width Atoms (a ∷ b ∷ [])) 0 is.1 is.0 in
    record { head = a; rest = []; shape = one_letter (is_letter a) (is_digit b) (a == 64 && is_letter b) is.1; is = ap (λ (n : ℕ). a ∷ n ∷ []) dollar }
alpha_shape a (b ∷ c ∷ []) h =
    let is = named_of (is_alpha_name Atoms (a ∷ b ∷ c ∷ [])) (name_width Atoms (a ∷ b ∷ c ∷ [])) 2 h in
    let dollar : c ≡ 36 = dollar_of (a ∷ b ∷ c ∷ []) (name_width Atoms (a ∷ b ∷ c ∷ [])) 1 is.1 is.0 in
    record {
      head = a;
      rest = b ∷ [];
      shape = sign_of a b (two_kinds (is_letter a) (is_digit b) (a == 64) (is_letter b) (is_digit c) is.1);
      is = ap (λ (n : ℕ). a ∷ b ∷ n ∷ []) dollar;
    }
alpha_shape a (b ∷ c ∷ d ∷ []) h =
    let is = named_of (is_alpha_name Atoms (a ∷ b ∷ c ∷ d ∷ [])) (name_width Atoms (a ∷ b ∷ c ∷ d ∷ [])) 3 h in
    let dollar : d ≡ 36 = dollar_of (a ∷ b ∷ c ∷ d ∷ []) (name_width Atoms (a ∷ b ∷ c ∷ d ∷ [])) 2 is.1 is.0 in
    let kinds = three_shape (is_letter a) (is_digit b) (a == 64) (is_letter b) (is_digit c) is.1 in
    record { head = a; rest = b ∷ c ∷ []; shape = (equal a 64 kinds.0, kinds.1); is = ap (λ (n : ℕ). a ∷ b ∷ c ∷ n ∷ []) dollar }
alpha_shape a (b ∷ c ∷ d ∷ e ∷ w) h =
    let is = named_of (is_alpha_name Atoms (a ∷ b ∷ c ∷ d ∷ e ∷ w)) (name_width Atoms (a ∷ b ∷ c ∷ d ∷ e ∷ w)) (suc (suc (suc (suc (length w))))) h in
    absurd (too_wide (is_letter a) (is_digit b) (a == 64 && is_letter b) (is_digit c) (length w) is.1)
