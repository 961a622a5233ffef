-- A listed line is read with its number, a blank and its source.
use Rattle.std.proofs.Common.{◌≡◌, ℕ, suc, ◌+◌, ◌-◌, ◌*◌, ◌/◌, ◌%◌, ◌<◌, ◌≤◌, Bool, true, false, if◌then◌else◌, ◌==◌, ◌&&◌, [], ◌∷◌, ◌++◌, length, min, refl, ap, subst, ◌∙◌, arith, nat_lt, Result, Ok, Err}
use Rattle.std.proofs.lemmas.Bool.Decides.{nat_tests}
use Rattle.b2_atom.specs.Words.{Text}
use Rattle.b2_base.specs.Lexical.{all_printable, capped_value, is_digit, is_printable, skip_blanks}
use Rattle.b2_atom.specs.Lines.{line_atoms}
use Rattle.b2_atom.specs.declared.words.Origin.TheVariants as origin
use Rattle.b2_atom.specs.declared.output.Stop.{Stop}
use Rattle.b2_syntax.specs.Reading.{printable_width, after_digits, not_too_long, read_atoms, with_atoms, after_number, numbered, immediate, by_first, reads}
use Rattle.b2_syntax.specs.declared.Entered.{Entered}
use Rattle.b2_syntax.specs.declared.Entered.TheVariants.{Numbered, Immediate}
use Rattle.b2_syntax.specs.declared.LineErr.{LineErr}
use Rattle.b2_syntax.specs.declared.LineErr.TheVariants.{At}
use Rattle.b2_lister.specs.Listing.{decimal, text_of, listing}
use Rattle.b2_lister.specs.Laws.{EachListedLineIsReadBack, EachTreeIsListedAndReadBack}
use Rattle.b2_atom.specs.Tree as tree
use Rattle.b2_atom.specs.Tree.{Trees, tokens}
use Rattle.b2_atom.specs.Tokens.{listed}
use Rattle.b2_atom.proofs.lines.ReadAgain.{typed_again, read_again}

-- digits, and the number that they spell
abbrev all_digits : Text → Bool
all_digits [] = true
all_digits (d ∷ ds) = is_digit d && all_digits ds

and_left : (a b : Bool) → (a && b) ≡ true → a ≡ true
and_left true b h = refl
and_left false b h = cc

and_right : (a b : Bool) → (a && b) ≡ true → b ≡ true
and_right true b h = h
and_right false b h = cc

both : (a b : Bool) → a ≡ true → b ≡ true → (a && b) ≡ true
both a b h k = rw h k

digit_printable : (d : ℕ) → is_digit d ≡ true → is_printable d ≡ true
digit_printable d h = grind (arith, nat_tests)

digit_no_blank : (d : ℕ) → is_digit d ≡ true → (d == 32) ≡ false
digit_no_blank d h = grind (arith, nat_tests)

-- each byte of a line may stand there
printable_all : (t : Text) → all_printable t ≡ true → printable_width t ≡ length t
printable_all [] h = refl
printable_all (b ∷ t) h = rw (and_left (is_printable b) (all_printable t) h) (ap suc (printable_all t (and_right (is_printable b) (all_printable t) h)))

digits_then : (ds t : Text) → all_digits ds ≡ true → all_printable t ≡ true → all_printable (ds ++ t) ≡ true
digits_then [] t h k = k
digits_then (d ∷ ds) t h k =
    both (is_printable d) (all_printable (ds ++ t)) (digit_printable d (and_left (is_digit d) (all_digits ds) h)) (digits_then ds t (and_right (is_digit d) (all_digits ds) h) k)

behind_all : (ds s : Text) → all_digits ds ≡ true → after_digits (ds ++ 32 ∷ s) ≡ 32 ∷ s
behind_all [] s h = refl
behind_all (d ∷ ds) s h = rw (and_left (is_digit d) (all_digits ds) h) (behind_all ds s (and_right (is_digit d) (all_digits ds) h))

-- what digits spell
abbrev value : ℕ → Text → ℕ
value n [] = n
value n (d ∷ ds) = value (n * 10 + (d - 48)) ds

-- a number that stays below 10000
abbrev Small : ℕ → Text → Type 0
Small n [] = Unit {0}
Small n (d ∷ ds) = (n * 10 + (d - 48) ≤ 9999) × Small (n * 10 + (d - 48)) ds

number_all : (n : ℕ) (ds s : Text) → all_digits ds ≡ true → Small n ds → capped_value 10000 n (ds ++ 32 ∷ s) ≡ value n ds
number_all n [] s h small = refl
number_all n (d ∷ ds) s h small =
    let below = small.0 in
    let same : min (n * 10 + (d - 48)) 10000 ≡ n * 10 + (d - 48) = omega arith in
    ap (λ (b : Bool). if b then capped_value 10000 (min (n * 10 + (d - 48)) 10000) (ds ++ 32 ∷ s) else n) (and_left (is_digit d) (all_digits ds) h)
    ∙ ap (λ (m : ℕ). capped_value 10000 m (ds ++ 32 ∷ s)) same
    ∙ number_all (n * 10 + (d - 48)) ds s (and_right (is_digit d) (all_digits ds) h) small.1

-- a line's number in digits
pub record Shows (n : ℕ) (w : Text) : Type 0 where
  pub first : ℕ
  pub rest : Text
  pub is : w ≡ first ∷ rest
  pub digits : all_digits (first ∷ rest) ≡ true
  pub small : Small 0 (first ∷ rest)
  pub value_is : value 0 (first ∷ rest) ≡ n

abbrev shown_by : Bool → Bool → Bool → Bool → ℕ → ℕ → ℕ → ℕ → ℕ → Text
shown_by p q r t a b c d e =
    if p then (if q then (if r then (if t then e ∷ [] else d ∷ e ∷ []) else c ∷ d ∷ e ∷ []) else b ∷ c ∷ d ∷ e ∷ []) else a ∷ b ∷ c ∷ d ∷ e ∷ []

digit_of : (a : ℕ) → a ≤ 9 → is_digit (48 + a) ≡ true
digit_of a h = grind (arith, nat_tests)

zero_of : (a : ℕ) → (48 + a == 48) ≡ true → a ≡ 0
zero_of a h = grind (arith, nat_tests)

one_digit : (a : ℕ) (ds : Text) → a ≤ 9 → all_digits ds ≡ true → all_digits ((48 + a) ∷ ds) ≡ true
one_digit a ds h k = both (is_digit (48 + a)) (all_digits ds) (digit_of a h) k

not_five : (a : ℕ) → a ≡ 0 → (48 + a == 48) ≡ false → ⊥
not_five a h k = grind (arith, nat_tests)

shows_by : (n a b c d e : ℕ) (p q r t : Bool) → (48 + a == 48) ≡ p → (48 + b == 48) ≡ q → (48 + c == 48) ≡ r → (48 + d == 48) ≡ t
    → a ≡ 0 → b ≤ 9 → c ≤ 9 → d ≤ 9 → e ≤ 9 → n ≡ b * 1000 + c * 100 + d * 10 + e → Shows n (shown_by p q r t (48 + a) (48 + b) (48 + c) (48 + d) (48 + e))
shows_by n a b c d e false q r t hp hq hr ht ha hb hc hd he sum = absurd (not_five a ha hp)
shows_by n a b c d e true false r t hp hq hr ht ha hb hc hd he sum = record {
  first = 48 + b;
  rest = (48 + c) ∷ (48 + d) ∷ (48 + e) ∷ [];
  is = refl;
  digits = one_digit b ((48 + c) ∷ (48 + d) ∷ (48 + e) ∷ []) hb (one_digit c ((48 + d) ∷ (48 + e) ∷ []) hc (one_digit d ((48 + e) ∷ []) hd (one_digit e [] he refl)));
  small = (omega arith, (omega arith, (omega arith, (omega arith, tt))));
  value_is = omega arith;
}
shows_by n a b c d e true true false t hp hq hr ht ha hb hc hd he sum = let none = zero_of b hq in record {
  first = 48 + c;
  rest = (48 + d) ∷ (48 + e) ∷ [];
  is = refl;
  digits = one_digit c ((48 + d) ∷ (48 + e) ∷ []) hc (one_digit d ((48 + e) ∷ []) hd (one_digit e [] he refl));
  small = (omega arith, (omega arith, (omega arith, tt)));
  value_is = omega arith;
}
shows_by n a b c d e true true true false hp hq hr ht ha hb hc hd he sum = let none = zero_of b hq in let nor = zero_of c hr in record {
  first = 48 + d;
  rest = (48 + e) ∷ [];
  is = refl;
  digits = one_digit d ((48 + e) ∷ []) hd (one_digit e [] he refl);
  small = (omega arith, (omega arith, tt));
  value_is = omega arith;
}
shows_by n a b c d e true true true true hp hq hr ht ha hb hc hd he sum = let none = zero_of b hq in let nor = zero_of c hr in let nil = zero_of d ht in record {
  first = 48 + e;
  rest = [];
  is = refl;
  digits = one_digit e [] he refl;
  small = (omega arith, tt);
  value_is = omega arith;
}

no_fifth : (n : ℕ) → n ≤ 9999 → n / 10000 ≡ 0
no_fifth n h = omega arith

digit_most : (n : ℕ) → n % 10 ≤ 9
digit_most n = omega arith

digits_sum : (n : ℕ) → n ≤ 9999 → n ≡ n / 1000 % 10 * 1000 + n / 100 % 10 * 100 + n / 10 % 10 * 10 + n % 10
digits_sum n h = omega arith

shows : (n : ℕ) → n ≤ 9999 → Shows n (decimal n)
shows n h =
    shows_by n (n / 10000) (n / 1000 % 10) (n / 100 % 10) (n / 10 % 10) (n % 10) (48 + n / 10000 == 48) (48 + n / 1000 % 10 == 48) (48 + n / 100 % 10 == 48) (48 + n / 10 % 10 == 48)
    refl refl refl refl (no_fifth n h) (digit_most (n / 1000)) (digit_most (n / 100)) (digit_most (n / 10)) (digit_most n) (digits_sum n h)

-- a line after its number
not_less : (n : ℕ) → nat_lt n n ≡ false
not_less n = grind (arith, nat_tests)

not_more : (n m : ℕ) → n ≤ m → nat_lt m n ≡ false
not_more n m h = grind (arith, nat_tests)

fitted_line : (a : Text) (n : ℕ) → length a ≤ 255 → not_too_long (Ok a) n ≡ Ok a
fitted_line a n h = rw (not_more (length a) 255 h) refl

behind : (n number : ℕ) (s a : Text) → 0 < length s → line_atoms origin.Program s ≡ Ok a → length a ≤ 255 → after_number n number s ≡ Ok (Numbered number a)
behind n number [] a some is h = absurd (omega arith)
behind n number (b ∷ s) a some is h =
    ap (λ (r : Result Text Stop). with_atoms (Numbered number) (not_too_long r n)) is ∙ ap (with_atoms (Numbered number)) (fitted_line a n h)

own_line : (n m : ℕ) (own s a : Text) → m ≤ 9999 → capped_value 10000 0 own ≡ m → after_digits own ≡ 32 ∷ s → skip_blanks s ≡ s → 0 < length s
    → line_atoms origin.Program s ≡ Ok a → length a ≤ 255 → numbered n own ≡ Ok (Numbered m a)
own_line n m own s a small is rest no_blank some spelled line =
    ap (λ (k : ℕ). if nat_lt 9999 k then Err (At 7 0) else after_number n k (skip_blanks (after_digits own))) is
    ∙ ap (λ (b : Bool). if b then Err (At 7 0) else after_number n m (skip_blanks (after_digits own))) (not_more m 9999 small)
    ∙ ap (λ (t : Text). after_number n m (skip_blanks t)) rest
    ∙ ap (after_number n m) no_blank
    ∙ behind n m s a some spelled line

shown_line : (n d : ℕ) (ds s a : Text) → n ≤ 9999 → all_digits (d ∷ ds) ≡ true → Small 0 (d ∷ ds) → value 0 (d ∷ ds) ≡ n → all_printable s ≡ true → skip_blanks s ≡ s → 0 < length s
    → line_atoms origin.Program s ≡ Ok a → length a ≤ 255 → reads (d ∷ (ds ++ 32 ∷ s)) ≡ Ok (Numbered n a)
shown_line n d ds s a small digits below is good no_blank some spelled line =
    let t : Text = d ∷ (ds ++ 32 ∷ s) in
    let digit = and_left (is_digit d) (all_digits ds) digits in
    let whole : all_printable (32 ∷ s) ≡ true = good in
    let all : printable_width t ≡ length t = printable_all t (digits_then (d ∷ ds) (32 ∷ s) digits whole) in
    ap (λ (k : ℕ). if nat_lt k (length t) then Err (At 29 (printable_width t + 1)) else by_first (length t) (skip_blanks t)) all
    ∙ ap (λ (b : Bool). if b then Err (At 29 (printable_width t + 1)) else by_first (length t) (skip_blanks t)) (not_less (length t))
    ∙ ap (λ (b : Bool). by_first (length t) (if b then skip_blanks (ds ++ 32 ∷ s) else t)) (digit_no_blank d digit)
    ∙ ap (λ (b : Bool). if b then numbered (length t) t else immediate (length t) t) digit
    ∙ own_line (length t) n t s a small (number_all 0 (d ∷ ds) s digits below ∙ is) (behind_all (d ∷ ds) s digits) no_blank some spelled line

-- a listed line is read as its number and its atoms, where its source is
pub whole_line : (n : ℕ) (s a : Text) → n ≤ 9999 → all_printable s ≡ true → skip_blanks s ≡ s → 0 < length s → line_atoms origin.Program s ≡ Ok a → length a ≤ 255
    → reads (decimal n ++ 32 ∷ s) ≡ Ok (Numbered n a)
whole_line n s a small good no_blank some spelled line =
    let sh = shows n small in
    ap (λ (w : Text). reads (w ++ 32 ∷ s)) sh.is
    ∙ shown_line n sh.first sh.rest s a small sh.digits sh.small sh.value_is good no_blank some spelled line

-- what was read of a typed line
pub record Typed (n : ℕ) (a : Text) : Type 0 where
  pub text : Text
  pub spelled : line_atoms origin.Program text ≡ Ok a
  pub small : n ≤ 9999
  pub short : length a ≤ 255

same_entered : (n m : ℕ) (a b : Text) → ◌≡◌ {A = Result Entered LineErr} (Ok (Numbered n a)) (Ok (Numbered m b)) → (n ≡ m) × (a ≡ b)
same_entered n m a b h =
    let pairs : Numbered n a ≡ Numbered m b = cc in
    (cc, cc)

short_of : (n : ℕ) → nat_lt 255 n ≡ false → n ≤ 255
short_of n h = grind (arith, nat_tests)

small_of : (n : ℕ) → nat_lt 9999 n ≡ false → n ≤ 9999
small_of n h = grind (arith, nat_tests)

fits_by : (n m : ℕ) (a b : Text) (long : Bool) → nat_lt 255 (length b) ≡ long → with_atoms (Numbered m) (if long then Err (At 5 0) else Ok b) ≡ Ok (Numbered n a) → (m ≡ n) × ((b ≡ a) × (length b ≤ 255))
fits_by n m a b true is h = cc
fits_by n m a b false is h = let same = same_entered m n b a h in (same.0, (same.1, short_of (length b) is))

fits_of : (k n m : ℕ) (a : Text) (r : Result Text Stop) → with_atoms (Numbered m) (not_too_long r k) ≡ Ok (Numbered n a) → (m ≡ n) × ((r ≡ Ok a) × (length a ≤ 255))
fits_of k n m a (Err e) h = cc
fits_of k n m a (Ok b) h =
    let is = fits_by n m a b (nat_lt 255 (length b)) refl h in
    (is.0, (ap Ok is.1.0, (let P : Text → Type 0 = λ t. length t ≤ 255 in subst P is.1.0 is.1.1)))

behind_typed : (k n m : ℕ) (a t : Text) → m ≤ 9999 → after_number k m t ≡ Ok (Numbered n a) → Typed n a
behind_typed k n m a [] small h = cc
behind_typed k n m a (b ∷ bs) small h =
    let is = fits_of k n m a (line_atoms origin.Program (b ∷ bs)) h in
    record { text = b ∷ bs; spelled = is.1.0; small = (let P : ℕ → Type 0 = λ i. i ≤ 9999 in subst P is.0 small); short = is.1.1 }

numbered_by : (k n m : ℕ) (a t : Text) (big : Bool) → nat_lt 9999 m ≡ big → (if big then Err (At 7 0) else after_number k m t) ≡ Ok (Numbered n a) → Typed n a
numbered_by k n m a t true is h = cc
numbered_by k n m a t false is h = behind_typed k n m a t (small_of m is) h

immediate_of : (k n : ℕ) (a : Text) (r : Result Text LineErr) → with_atoms Immediate r ≡ Ok (Numbered n a) → ⊥
immediate_of k n a (Err e) h = cc
immediate_of k n a (Ok b) h = cc

first_by : (k n : ℕ) (a : Text) (b : ℕ) (bs : Text) (digit : Bool) → (if digit then numbered k (b ∷ bs) else immediate k (b ∷ bs)) ≡ Ok (Numbered n a) → Typed n a
first_by k n a b bs true h = numbered_by k n (capped_value 10000 0 (b ∷ bs)) a (skip_blanks (after_digits (b ∷ bs))) (nat_lt 9999 (capped_value 10000 0 (b ∷ bs))) refl h
first_by k n a b bs false h = absurd (immediate_of k n a (read_atoms origin.Immediate (b ∷ bs) k) h)

typed_first : (k n : ℕ) (a t : Text) → by_first k t ≡ Ok (Numbered n a) → Typed n a
typed_first k n a [] h = cc
typed_first k n a (b ∷ bs) h = first_by k n a b bs (is_digit b) h

reads_by : (line : Text) (n : ℕ) (a : Text) (bad : Bool) → (if bad then Err (At 29 (printable_width line + 1)) else by_first (length line) (skip_blanks line)) ≡ Ok (Numbered n a) → Typed n a
reads_by line n a true h = cc
reads_by line n a false h = typed_first (length line) n a (skip_blanks line) h

typed : (line : Text) (n : ℕ) (a : Text) → reads line ≡ Ok (Numbered n a) → Typed n a
typed line n a h = reads_by line n a (nat_lt (printable_width line) (length line)) h

-- a line that was read as one of a program is read as the same once it is listed
pub listed_again : EachListedLineIsReadBack
listed_again line n a h =
    let t = typed line n a h in
    let again = typed_again t.text a t.spelled in
    let r = again.1 in
    ap (λ (s : Result Text Stop). reads (decimal n ++ 32 ∷ text_of s)) r.source
    ∙ whole_line n again.0 a t.small r.printable r.skips r.some r.again t.short

-- and each tree is listed and read back
pub tree_again : EachTreeIsListedAndReadBack
tree_again t n h short small =
    let r = read_again t h in
    let source : Text = listed false false (tokens t) in
    let shown : listing n (tree.atoms t) ≡ decimal n ++ 32 ∷ source = ap (λ (s : Result Text Stop). decimal n ++ 32 ∷ text_of s) r.source in
    record {
      shown = shown;
      back = ap reads shown ∙ whole_line n source (tree.atoms t) small r.printable r.skips r.some r.again short;
    }
