-- A line number that is listed without zeros at its front is read as its two bytes.
use Rattle.std.proofs.Common.{◌≡◌, ℕ, suc, ◌+◌, ◌-◌, ◌*◌, ◌/◌, ◌%◌, ◌≤◌, Bool, true, false, if◌then◌else◌, ◌==◌, ◌||◌, [], ◌∷◌, ◌++◌, drop, min, refl, sym, ap, subst, ◌∙◌, arith, nat_le, nat_lt, Err}
use Rattle.std.proofs.lemmas.Bool.Decides.{nat_tests}
use Rattle.b2_base.specs.Lexical.{all_printable, digits_width, first, is_decimal, is_digit, is_printable}
use Rattle.b2_atom.specs.Words.{Text}
use Rattle.b2_atom.specs.Tokens.{spelled}
use Rattle.b2_atom.specs.Tokens.Token.{Lined}
use Rattle.b2_atom.specs.Tree.{one}
use Rattle.b2_atom.specs.Leaves.{refused}
use Rattle.b2_atom.specs.Grammar.{typed_line_number, two_digits}
use Rattle.b2_atom.specs.declared.words.Origin.{Origin}
use Rattle.b2_atom.proofs.Booleans.{and_left, and_right, both}
use Rattle.b2_atom.proofs.typed.Widths.{digits_stop}

one_digit : (p : ℕ) (x : Text) (n : ℕ) → is_digit p ≡ true → digits_width x ≡ n → digits_width (p ∷ x) ≡ suc n
one_digit p x n h e = rw h (ap suc e)

digit_shown : (a : ℕ) → a ≤ 9 → is_digit (48 + a) ≡ true
digit_shown a h = grind (arith, nat_tests)

-- a line number by the count of its digits
by_count : (o : Origin) (code : ℕ) (t : Text) (n : ℕ) → digits_width t ≡ n
    → typed_line_number o code t ≡ (if nat_lt n 1 || nat_lt 4 n then Err (refused o code t) else one (Lined (two_digits t n 0) (two_digits t n 2)) (drop n t))
by_count o code t n e = ap (λ (m : ℕ). if nat_lt m 1 || nat_lt 4 m then Err (refused o code t) else one (Lined (two_digits t m 0) (two_digits t m 2)) (drop m t)) e

two_shown : (a b : ℕ) → a ≤ 9 → b ≤ 9 → min (48 + a - 48) 9 * 16 + min (48 + b - 48) 9 ≡ a * 16 + b
two_shown a b h k = omega arith

one_shown : (b : ℕ) → b ≤ 9 → 0 * 16 + min (48 + b - 48) 9 ≡ b
one_shown b k = omega arith

double_digits : (c d : ℕ) (x : Text) → c ≤ 9 → d ≤ 9 → is_digit (first x) ≡ false → digits_width ((48 + c) ∷ (48 + d) ∷ x) ≡ 2
double_digits c d x hc hd stop =
    one_digit (48 + c) ((48 + d) ∷ x) 1 (digit_shown c hc) (one_digit (48 + d) x 0 (digit_shown d hd) (digits_stop x stop))

three_digits : (b c d : ℕ) (x : Text) → b ≤ 9 → c ≤ 9 → d ≤ 9 → is_digit (first x) ≡ false → digits_width ((48 + b) ∷ (48 + c) ∷ (48 + d) ∷ x) ≡ 3
three_digits b c d x hb hc hd stop = one_digit (48 + b) ((48 + c) ∷ (48 + d) ∷ x) 2 (digit_shown b hb) (double_digits c d x hc hd stop)

four_read : (o : Origin) (code a b c d : ℕ) (x : Text) → a ≤ 9 → b ≤ 9 → c ≤ 9 → d ≤ 9 → is_digit (first x) ≡ false
    → typed_line_number o code ((48 + a) ∷ (48 + b) ∷ (48 + c) ∷ (48 + d) ∷ x) ≡ one (Lined (a * 16 + b) (c * 16 + d)) x
four_read o code a b c d x ha hb hc hd stop =
    by_count o code ((48 + a) ∷ (48 + b) ∷ (48 + c) ∷ (48 + d) ∷ x) 4
    (one_digit (48 + a) ((48 + b) ∷ (48 + c) ∷ (48 + d) ∷ x) 3 (digit_shown a ha) (three_digits b c d x hb hc hd stop))
    ∙ (λ i. one (Lined (two_shown a b ha hb i) (two_shown c d hc hd i)) x)

three_read : (o : Origin) (code b c d : ℕ) (x : Text) → b ≤ 9 → c ≤ 9 → d ≤ 9 → is_digit (first x) ≡ false
    → typed_line_number o code ((48 + b) ∷ (48 + c) ∷ (48 + d) ∷ x) ≡ one (Lined b (c * 16 + d)) x
three_read o code b c d x hb hc hd stop =
    by_count o code ((48 + b) ∷ (48 + c) ∷ (48 + d) ∷ x) 3
    (three_digits b c d x hb hc hd stop)
    ∙ (λ i. one (Lined (one_shown b hb i) (two_shown c d hc hd i)) x)

two_read : (o : Origin) (code c d : ℕ) (x : Text) → c ≤ 9 → d ≤ 9 → is_digit (first x) ≡ false
    → typed_line_number o code ((48 + c) ∷ (48 + d) ∷ x) ≡ one (Lined 0 (c * 16 + d)) x
two_read o code c d x hc hd stop =
    by_count o code ((48 + c) ∷ (48 + d) ∷ x) 2
    (double_digits c d x hc hd stop)
    ∙ (λ i. one (Lined 0 (two_shown c d hc hd i)) x)

one_read : (o : Origin) (code d : ℕ) (x : Text) → d ≤ 9 → is_digit (first x) ≡ false
    → typed_line_number o code ((48 + d) ∷ x) ≡ one (Lined 0 d) x
one_read o code d x hd stop =
    by_count o code ((48 + d) ∷ x) 1 (one_digit (48 + d) x 0 (digit_shown d hd) (digits_stop x stop))
    ∙ (λ i. one (Lined 0 (one_shown d hd i)) x)

-- without zeros at the front
shown_by : Bool → Bool → Bool → ℕ → ℕ → ℕ → ℕ → Text
shown_by p q r a b c d = if p then (if q then (if r then d ∷ [] else c ∷ d ∷ []) else b ∷ c ∷ d ∷ []) else a ∷ b ∷ c ∷ d ∷ []

zero_shown : (a : ℕ) → (48 + a == 48) ≡ true → a ≡ 0
zero_shown a h = grind (arith, nat_tests)

read_by : (o : Origin) (code a b c d : ℕ) (x : Text) (p q r : Bool) → (48 + a == 48) ≡ p → (48 + b == 48) ≡ q → (48 + c == 48) ≡ r
    → a ≤ 9 → b ≤ 9 → c ≤ 9 → d ≤ 9 → is_digit (first x) ≡ false
    → typed_line_number o code (shown_by p q r (48 + a) (48 + b) (48 + c) (48 + d) ++ x) ≡ one (Lined (a * 16 + b) (c * 16 + d)) x
unfolding shown_by
read_by o code a b c d x false q r hp hq hr ha hb hc hd stop = four_read o code a b c d x ha hb hc hd stop
read_by o code a b c d x true false r hp hq hr ha hb hc hd stop =
    let none = zero_shown a hp in
    let same : b ≡ a * 16 + b = omega arith in
    three_read o code b c d x hb hc hd stop ∙ ap (λ (n : ℕ). one (Lined n (c * 16 + d)) x) same
read_by o code a b c d x true true false hp hq hr ha hb hc hd stop =
    let none = zero_shown a hp in
    let nor = zero_shown b hq in
    let same : 0 ≡ a * 16 + b = omega arith in
    two_read o code c d x hc hd stop ∙ ap (λ (n : ℕ). one (Lined n (c * 16 + d)) x) same
read_by o code a b c d x true true true hp hq hr ha hb hc hd stop =
    let none = zero_shown a hp in
    let nor = zero_shown b hq in
    let nil = zero_shown c hr in
    let same : 0 ≡ a * 16 + b = omega arith in
    let last : d ≡ c * 16 + d = omega arith in
    one_read o code d x hd stop ∙ (λ i. one (Lined (same i) (last i)) x)

shown_line : (h l : ℕ) → spelled (Lined h l) ≡ shown_by (48 + h / 16 == 48) (48 + h % 16 == 48) (48 + l / 16 == 48) (48 + h / 16) (48 + h % 16) (48 + l / 16) (48 + l % 16)
unfolding shown_by
shown_line h l = refl

at_most : (m : ℕ) → nat_le m 9 ≡ true → m ≤ 9
at_most m h = grind (arith, nat_tests)

decimal_high : (h : ℕ) → is_decimal h ≡ true → h / 16 ≤ 9
decimal_high h k = at_most (h / 16) (and_left (nat_le (h / 16) 9) (nat_le (h % 16) 9) k)

decimal_low : (h : ℕ) → is_decimal h ≡ true → h % 16 ≤ 9
decimal_low h k = at_most (h % 16) (and_right (nat_le (h / 16) 9) (nat_le (h % 16) 9) k)

whole_byte : (h : ℕ) → h / 16 * 16 + h % 16 ≡ h
whole_byte h = omega arith

-- a line number read where it is listed
pub line_read : (o : Origin) (code h l : ℕ) (x : Text) → is_decimal h ≡ true → is_decimal l ≡ true → is_digit (first x) ≡ false
    → typed_line_number o code (spelled (Lined h l) ++ x) ≡ one (Lined h l) x
line_read o code h l x hh hl stop =
    ap (λ (w : Text). typed_line_number o code (w ++ x)) (shown_line h l)
    ∙ read_by o code (h / 16) (h % 16) (l / 16) (l % 16) x _ _ _ refl refl refl (decimal_high h hh) (decimal_low h hh) (decimal_high l hl) (decimal_low l hl) stop
    ∙ (λ i. one (Lined (whole_byte h i) (whole_byte l i)) x)

-- it begins with a digit
pub record LineShown (w : Text) : Type 0 where
  pub digit : ℕ
  pub rest : Text
  pub is : w ≡ digit ∷ rest
  pub good : is_digit digit ≡ true

shown_digit : (p q r : Bool) (a b c d : ℕ) → is_digit a ≡ true → is_digit b ≡ true → is_digit c ≡ true → is_digit d ≡ true → LineShown (shown_by p q r a b c d)
unfolding shown_by
shown_digit false q r a b c d ha hb hc hd = record { digit = a; rest = b ∷ c ∷ d ∷ []; is = refl; good = ha }
shown_digit true false r a b c d ha hb hc hd = record { digit = b; rest = c ∷ d ∷ []; is = refl; good = hb }
shown_digit true true false a b c d ha hb hc hd = record { digit = c; rest = d ∷ []; is = refl; good = hc }
shown_digit true true true a b c d ha hb hc hd = record { digit = d; rest = []; is = refl; good = hd }

pub line_shown : (h l : ℕ) → is_decimal h ≡ true → is_decimal l ≡ true → LineShown (spelled (Lined h l))
line_shown h l hh hl =
    subst LineShown (sym (shown_line h l))
    (shown_digit _ _ _ _ _ _ _ (digit_shown (h / 16) (decimal_high h hh)) (digit_shown (h % 16) (decimal_low h hh)) (digit_shown (l / 16) (decimal_high l hl)) (digit_shown (l % 16) (decimal_low l hl)))

-- its digits may stand in a line
digit_printable : (a : ℕ) → is_digit a ≡ true → is_printable a ≡ true
digit_printable a h = grind (arith, nat_tests)

more_printable : (a : ℕ) (w : Text) → is_digit a ≡ true → all_printable w ≡ true → all_printable (a ∷ w) ≡ true
more_printable a w h k = both (is_printable a) (all_printable w) (digit_printable a h) k

shown_printable : (p q r : Bool) (a b c d : ℕ) → is_digit a ≡ true → is_digit b ≡ true → is_digit c ≡ true → is_digit d ≡ true → all_printable (shown_by p q r a b c d) ≡ true
unfolding shown_by
shown_printable false q r a b c d ha hb hc hd = more_printable a (b ∷ c ∷ d ∷ []) ha (more_printable b (c ∷ d ∷ []) hb (more_printable c (d ∷ []) hc (more_printable d [] hd refl)))
shown_printable true false r a b c d ha hb hc hd = more_printable b (c ∷ d ∷ []) hb (more_printable c (d ∷ []) hc (more_printable d [] hd refl))
shown_printable true true false a b c d ha hb hc hd = more_printable c (d ∷ []) hc (more_printable d [] hd refl)
shown_printable true true true a b c d ha hb hc hd = more_printable d [] hd refl

pub line_printable : (h l : ℕ) → is_decimal h ≡ true → is_decimal l ≡ true → all_printable (spelled (Lined h l)) ≡ true
line_printable h l hh hl =
    ap all_printable (shown_line h l)
    ∙ shown_printable (48 + h / 16 == 48) (48 + h % 16 == 48) (48 + l / 16 == 48) (48 + h / 16) (48 + h % 16) (48 + l / 16) (48 + l % 16)
    (digit_shown (h / 16) (decimal_high h hh)) (digit_shown (h % 16) (decimal_low h hh)) (digit_shown (l / 16) (decimal_high l hl)) (digit_shown (l % 16) (decimal_low l hl))
