-- What a text answers where its tokens have a lookahead that settles the question.
use Rattle.std.proofs.Common.{◌≡◌, ℕ, ◌-◌, ◌==◌, ◌&&◌, ◌||◌, not, nat_le, nat_lt, Bool, true, false, if◌then◌else◌, List, [], ◌∷◌, ◌++◌, length, get_or, refl, sym, ap, subst, ◌∙◌, arith, inl, inr}
use Rattle.std.proofs.lemmas.Bool.Decides.{nat_tests}
use Rattle.b2_base.specs.Lexical.{capped_value, digits_width, first, is_digit, is_hex_digit, is_letter}
use Rattle.b2_atom.specs.Words.{Text, skipped, ahead, kept_byte, word_at}
use Rattle.b2_atom.specs.Tokens.{Token}
use Rattle.b2_atom.specs.Tokens.Token.{Coded, Short, Plain, Lined}
use Rattle.b2_atom.specs.Leaves.{is_alpha_name, name_width, numeric_name_width, mantissa_width, number_width, local_name_width, function_name_width, literal_width, slot_width, small_width, signed_number_width, relation_width, alpha_name_width}
use Rattle.b2_atom.specs.Grammar.{alpha_begins, numeric_begins, begins_name, class_at, is_among, is_line, starts, is_numeric_sign}
use Rattle.b2_atom.specs.Spelling.{ShowsName, ShowsHex, Named, Spells, is_whole, is_classed}
use Rattle.b2_atom.specs.Fitting.{leaf_number}
use Rattle.b2_atom.proofs.Booleans.{or_assoc, and_left, and_right, or_left, or_right, or_none, or_one, or_other, or_false, or_cases, equal, span_of, among_inside, among_apart}
use Rattle.b2_atom.proofs.settled.Lookaheads.{is_hex_lookahead, is_numbered, Span, spans, inside, apart, every, some, Lookahead, is_ahead, leaf_spans, classes, is_some, sure, surely, name_spans, number_spans, alpha_spans, numeric_spans, numeric, alpha, is_numeric_name, is_alpha_lookahead}
use Rattle.b2_atom.proofs.settled.Lookaheads.Lookahead.{Any, None, Spanned, ShortOf, Hand, Numbered}
use Rattle.b2_atom.specs.declared.words.TheConstants as word
use Rattle.b2_atom.specs.declared.words.Origin.{Origin}
use Rattle.b2_atom.specs.declared.words.Origin.TheVariants as origin
use Rattle.b2_atom.specs.declared.forms.Leaf.{Leaf}
use Rattle.b2_atom.specs.declared.forms.Leaf.TheVariants as leaf
use Rattle.b2_atom.specs.declared.forms.Start.{Start}
use Rattle.b2_atom.specs.declared.forms.Start.TheVariants as start

inside_says : (ss : List Span) (t : Span) (c : ℕ) → inside ss t ≡ true → is_among t.0 t.1 c ≡ true → spans ss c ≡ true
inside_says [] t c h k = cc
inside_says (s ∷ ss) t c h k = elim (or_cases (nat_le s.0 t.0 && nat_le t.1 s.1) (inside ss t) h) [
  | inl g ↦ or_one _ _ (among_inside s.0 s.1 t.0 t.1 c g k)
  | inr g ↦ or_other (is_among s.0 s.1 c) _ (inside_says ss t c g k)
]

apart_says : (ss : List Span) (t : Span) (c : ℕ) → apart ss t ≡ true → is_among t.0 t.1 c ≡ true → spans ss c ≡ false
apart_says [] t c h k = refl
apart_says (s ∷ ss) t c h k =
    or_none _ _ (among_apart s.0 s.1 t.0 t.1 c (and_left _ _ h) k) (apart_says ss t c (and_right (nat_lt s.1 t.0 || nat_lt t.1 s.0) _ h) k)

all_inside : (ss ts : List Span) (c : ℕ) → every (inside ss) ts ≡ true → spans ts c ≡ true → spans ss c ≡ true
all_inside ss [] c h k = cc
all_inside ss (t ∷ ts) c h k = elim (or_cases (is_among t.0 t.1 c) (spans ts c) k) [
  | inl g ↦ inside_says ss t c (and_left _ _ h) g
  | inr g ↦ all_inside ss ts c (and_right (inside ss t) _ h) g
]

all_apart : (ss ts : List Span) (c : ℕ) → every (apart ss) ts ≡ true → spans ts c ≡ true → spans ss c ≡ false
all_apart ss [] c h k = cc
all_apart ss (t ∷ ts) c h k = elim (or_cases (is_among t.0 t.1 c) (spans ts c) k) [
  | inl g ↦ apart_says ss t c (and_left _ _ h) g
  | inr g ↦ all_apart ss ts c (and_right (apart ss t) _ h) g
]

sure_known : (ss : List Span) (f : Lookahead) (b : Bool) → sure ss f b ≡ true → is_some (classes f) ≡ true
sure_known ss f true h = and_left _ _ h
sure_known ss f false h = and_left _ _ h

sure_says : (ss : List Span) (f : Lookahead) (b : Bool) (c : ℕ) → sure ss f b ≡ true → spans (classes f) c ≡ true → spans ss c ≡ b
sure_says ss f true c h k = all_inside ss (classes f) c (and_right (is_some (classes f)) _ h) k
sure_says ss f false c h k = all_apart ss (classes f) c (and_right (is_some (classes f)) _ h) k

-- the class of nothing
pub class_none : (o : Origin) → class_at o [] ≡ 0
unfolding word_at
class_none origin.Program = refl
class_none origin.Immediate = refl
class_none origin.Atoms = refl

-- what a whole leaf begins with
whole_width : (n m : ℕ) → (nat_lt 0 n && m == n) ≡ true → m ≡ 0 → ⊥
whole_width n m h k = grind (arith, nat_tests)

begun : (b : Bool) (n m : ℕ) → (b ≡ false → m ≡ 0) → (nat_lt 0 n && m == n) ≡ true → b ≡ true
begun true n m f h = refl
begun false n m f h = absurd (whole_width n m h (f refl))

no_letter : (c : ℕ) → spans name_spans c ≡ false → is_letter c ≡ false
no_letter c h = grind (arith, nat_tests)

no_at : (c : ℕ) → spans name_spans c ≡ false → (c == 64) ≡ false
no_at c h = grind (arith, nat_tests)

pub not_named : (o : Origin) (u : Text) → spans name_spans (ahead o u).0 ≡ false → name_width o u ≡ 0
not_named o u h = let a : is_letter (ahead o u).0 ≡ false = no_letter (ahead o u).0 h in let b : ((ahead o u).0 == 64) ≡ false = no_at (ahead o u).0 h in rw a (rw b refl)

pub not_alpha : (o : Origin) (u : Text) → name_width o u ≡ 0 → is_alpha_name o u ≡ false
not_alpha o u h = rw h refl

pub not_numeric : (o : Origin) (u : Text) → name_width o u ≡ 0 → numeric_name_width o u ≡ 0
not_numeric o u h = rw h refl

no_digits : (w : Text) → is_digit (first w) ≡ false → digits_width w ≡ 0
no_digits [] h = refl
no_digits (b ∷ bs) h = rw h refl

first_is : (w : Text) → get_or w 0 0 ≡ first w
first_is [] = refl
first_is (b ∷ bs) = refl

no_number_digit : (c : ℕ) → spans number_spans c ≡ false → is_digit c ≡ false
no_number_digit c h = grind (arith, nat_tests)

no_number_point : (c : ℕ) → spans number_spans c ≡ false → (c == 46) ≡ false
no_number_point c h = grind (arith, nat_tests)

no_number : (w : Text) → spans number_spans (first w) ≡ false → number_width origin.Atoms w ≡ 0
no_number w h =
    let d : digits_width w ≡ 0 = no_digits w (no_number_digit (first w) h) in
    let p : (get_or w 0 0 == 46) ≡ false = ap (λ (n : ℕ). n == 46) (first_is w) ∙ no_number_point (first w) h in
    let m : mantissa_width w ≡ 0 = rw d (rw p refl) in
    rw m refl

-- how a name begins
no_name : (w : Text) → spans name_spans (first w) ≡ false → name_width origin.Atoms w ≡ 0
no_name w h = not_named origin.Atoms w h

zero_if : (b : Bool) (n : ℕ) → n ≡ 0 → (if b then 0 else n) ≡ 0
zero_if true n h = refl
zero_if false n h = h

no_local : (w : Text) → spans name_spans (first w) ≡ false → local_name_width origin.Atoms w ≡ 0
no_local w h = zero_if (first w == 64) (numeric_name_width origin.Atoms w) (not_numeric origin.Atoms w (no_name w h))

no_function : (w : Text) → spans (leaf_spans leaf.FunctionName) (first w) ≡ false → function_name_width origin.Atoms w ≡ 0
no_function w h = let a : (is_letter (first w) || is_digit (first w)) ≡ false = grind (arith, nat_tests) in rw a refl

no_literal : (w : Text) → spans (leaf_spans leaf.Literal) (first w) ≡ false → literal_width w ≡ 0
no_literal w h = let a : (first w == 34) ≡ false = grind (arith, nat_tests) in rw a refl

no_slot : (w : Text) → spans (leaf_spans leaf.Slot) (first w) ≡ false → slot_width w ≡ 0
no_slot w h = let a : (first w == 35) ≡ false = grind (arith, nat_tests) in rw a refl

if_zero : (b : Bool) (n : ℕ) → n ≡ 0 → (if b then n else 0) ≡ 0
if_zero true n h = h
if_zero false n h = refl

no_small : (w : Text) → spans (leaf_spans leaf.Small) (first w) ≡ false → small_width w ≡ 0
no_small w h = let a : is_digit (first w) ≡ false = grind (arith, nat_tests) in if_zero (nat_le (capped_value 999 0 w) 255) (digits_width w) (no_digits w a)

no_signed_digit : (c : ℕ) → spans (leaf_spans leaf.SignedNumber) c ≡ false → spans number_spans c ≡ false
no_signed_digit c h = grind (arith, nat_tests)

no_signed : (w : Text) → spans (leaf_spans leaf.SignedNumber) (first w) ≡ false → signed_number_width origin.Atoms w ≡ 0
no_signed w h =
    let a : (first w == 43 || first w == 45) ≡ false = grind (arith, nat_tests) in
    rw a (no_number w (no_signed_digit (first w) h))

no_relation : (w : Text) → spans (leaf_spans leaf.Relation) (first w) ≡ false → relation_width w ≡ 0
no_relation w h =
    let a : (first w == 60) ≡ false = grind (arith, nat_tests) in
    let b : (first w == 61) ≡ false = grind (arith, nat_tests) in
    let c : (first w == 62) ≡ false = grind (arith, nat_tests) in
    rw a (rw c (rw b refl))

no_alpha : (w : Text) → spans name_spans (first w) ≡ false → alpha_name_width origin.Atoms w ≡ 0
no_alpha w h = rw (not_alpha origin.Atoms w (no_name w h)) refl

pub leaf_first : (k : Leaf) (w : Text) → is_whole k w ≡ true → is_some (leaf_spans k) ≡ true → spans (leaf_spans k) (first w) ≡ true
leaf_first leaf.Number w h k = begun _ _ _ (no_number w) h
leaf_first leaf.SignedNumber w h k = begun _ _ _ (no_signed w) h
leaf_first leaf.Name w h k = begun _ _ _ (λ g. not_numeric origin.Atoms w (no_name w g)) h
leaf_first leaf.AlphaName w h k = begun _ _ _ (no_alpha w) h
leaf_first leaf.LocalName w h k = begun _ _ _ (no_local w) h
leaf_first leaf.FunctionName w h k = begun _ _ _ (no_function w) h
leaf_first leaf.Literal w h k = begun _ _ _ (no_literal w) h
leaf_first leaf.LineNumber w h k = cc
leaf_first leaf.HexPair w h k = cc
leaf_first leaf.HexDigit w h k = cc
leaf_first leaf.Address w h k = cc
leaf_first leaf.Slot w h k = begun _ _ _ (no_slot w) h
leaf_first leaf.Small w h k = begun _ _ _ (no_small w) h
leaf_first leaf.Image w h k = cc
leaf_first leaf.Text w h k = cc
leaf_first leaf.Relation w h k = begun _ _ _ (no_relation w) h

-- kinds are told apart by their numbers
leaf_of : ℕ → Leaf
leaf_of n =
    if n == 0 then leaf.Number else (if n == 1 then leaf.SignedNumber else (if n == 2 then leaf.Name else (if n == 3 then leaf.AlphaName
    else (if n == 4 then leaf.LocalName else (if n == 5 then leaf.FunctionName else (if n == 6 then leaf.Literal else (if n == 7 then leaf.LineNumber
    else (if n == 8 then leaf.HexPair else (if n == 9 then leaf.HexDigit else (if n == 10 then leaf.Address else (if n == 11 then leaf.Slot
    else (if n == 12 then leaf.Small else (if n == 13 then leaf.Image else (if n == 14 then leaf.Text else leaf.Relation))))))))))))))

leaf_known : (k : Leaf) → leaf_of (leaf_number k) ≡ k
unfolding leaf_of
leaf_known leaf.Number = refl
leaf_known leaf.SignedNumber = refl
leaf_known leaf.Name = refl
leaf_known leaf.AlphaName = refl
leaf_known leaf.LocalName = refl
leaf_known leaf.FunctionName = refl
leaf_known leaf.Literal = refl
leaf_known leaf.LineNumber = refl
leaf_known leaf.HexPair = refl
leaf_known leaf.HexDigit = refl
leaf_known leaf.Address = refl
leaf_known leaf.Slot = refl
leaf_known leaf.Small = refl
leaf_known leaf.Image = refl
leaf_known leaf.Text = refl
leaf_known leaf.Relation = refl

pub same_leaf : (k j : Leaf) → (leaf_number j == leaf_number k) ≡ true → j ≡ k
same_leaf k j h = sym (leaf_known j) ∙ ap leaf_of (equal (leaf_number j) (leaf_number k) h) ∙ leaf_known k

classed : (k : Leaf) → is_some (leaf_spans k) ≡ true → is_classed k ≡ true
classed leaf.Number h = refl
classed leaf.SignedNumber h = refl
classed leaf.Name h = refl
classed leaf.AlphaName h = refl
classed leaf.LocalName h = refl
classed leaf.FunctionName h = refl
classed leaf.Literal h = refl
classed leaf.LineNumber h = refl
classed leaf.HexPair h = cc
classed leaf.HexDigit h = cc
classed leaf.Address h = cc
classed leaf.Slot h = refl
classed leaf.Small h = refl
classed leaf.Image h = cc
classed leaf.Text h = cc
classed leaf.Relation h = refl

line_class : (o : Origin) (c : ℕ) → is_line o c ≡ true → spans (classes Numbered) c ≡ true
line_class origin.Program c h = grind (arith, nat_tests)
line_class origin.Immediate c h = grind (arith, nat_tests)
line_class origin.Atoms c h = grind (arith, nat_tests)

no_line : (o : Origin) (c : ℕ) → spans ((48, 57) ∷ (255, 255) ∷ []) c ≡ false → is_line o c ≡ false
no_line origin.Program c h = grind (arith, nat_tests)
no_line origin.Immediate c h = grind (arith, nat_tests)
no_line origin.Atoms c h = grind (arith, nat_tests)

hand_class : (o : Origin) (k j : Leaf) (w : Text) (ts : List Token) (s : Text) → j ≡ k → is_whole j w ≡ true → is_some (leaf_spans k) ≡ true → Spells o (Plain j w ∷ ts) s
    → spans (leaf_spans k) (class_at o s) ≡ true
hand_class o k j w ts s same whole known h =
    let known' : is_some (leaf_spans j) ≡ true = ap (λ (l : Leaf). is_some (leaf_spans l)) same ∙ known in
    ap (λ (l : Leaf). spans (leaf_spans l) (class_at o s)) (sym same)
    ∙ ap (spans (leaf_spans j)) (h.1.0.class (classed j known'))
    ∙ leaf_first j w whole known'

-- the class of a text lies in the spans of its lookahead
pub class_of_lookahead : (o : Origin) (f : Lookahead) (ts : List Token) (s : Text) → is_ahead f ts ≡ true → is_some (classes f) ≡ true → Spells o ts s
    → spans (classes f) (class_at o s) ≡ true
class_of_lookahead o Any ts s h k spelled = cc
class_of_lookahead o None [] s h k spelled = ap (λ (u : Text). spans ((0, 0) ∷ []) (class_at o u)) spelled ∙ ap (spans ((0, 0) ∷ [])) (class_none o)
class_of_lookahead o None (t ∷ ts) s h k spelled = cc
class_of_lookahead o (Spanned a b) [] s h k spelled = cc
class_of_lookahead o (Spanned a b) (Coded c ∷ ts) s h k spelled = ap (spans ((a, b) ∷ [])) (spelled.1.0.class refl) ∙ or_one (is_among a b c) false h
class_of_lookahead o (Spanned a b) (Plain j w ∷ ts) s h k spelled = cc
class_of_lookahead o (Spanned a b) (Lined x y ∷ ts) s h k spelled = cc
class_of_lookahead o (Spanned a b) (Short c ∷ ts) s h k spelled = cc
class_of_lookahead o (ShortOf c) ts s h k spelled = cc
class_of_lookahead o (Hand l) [] s h k spelled = cc
class_of_lookahead o (Hand l) (Coded c ∷ ts) s h k spelled = cc
class_of_lookahead o (Hand l) (Plain j w ∷ ts) s h k spelled = hand_class o l j w ts s (same_leaf l j (and_left _ _ h)) (and_right (leaf_number j == leaf_number l) _ h) k spelled
class_of_lookahead o (Hand l) (Lined x y ∷ ts) s h k spelled = cc
class_of_lookahead o (Hand l) (Short c ∷ ts) s h k spelled = cc
class_of_lookahead o Numbered [] s h k spelled = cc
class_of_lookahead o Numbered (Coded c ∷ ts) s h k spelled = cc
class_of_lookahead o Numbered (Plain j w ∷ ts) s h k spelled = cc
class_of_lookahead o Numbered (Short c ∷ ts) s h k spelled = cc
class_of_lookahead o Numbered (Lined x y ∷ ts) s h k spelled = line_class o (class_at o s) spelled.1.0.line

-- a question of the class alone
pub class_says : (ss : List Span) (o : Origin) (f : Lookahead) (b : Bool) (ts : List Token) (s : Text) → sure ss f b ≡ true → is_ahead f ts ≡ true → Spells o ts s → spans ss (class_at o s) ≡ b
class_says ss o f b ts s h k spelled = sure_says ss f b (class_at o s) h (class_of_lookahead o f ts s k (sure_known ss f b h) spelled)

-- questions of some codes
says_code : (o : Origin) (a : ℕ) (s : Text) (b : Bool) → spans ((a, a) ∷ []) (class_at o s) ≡ b → starts o (start.Code a) s ≡ b
unfolding starts
says_code o a s b h = span_of a (class_at o s) ∙ sym (or_false _) ∙ h

says_two : (o : Origin) (a c : ℕ) (s : Text) (b : Bool) → spans ((a, a) ∷ (c, c) ∷ []) (class_at o s) ≡ b → starts o (start.Two a c) s ≡ b
unfolding starts
says_two o a c s b h =
    (λ i. span_of a (class_at o s) i || span_of c (class_at o s) i)
    ∙ ap (λ (x : Bool). is_among a a (class_at o s) || x) (sym (or_false (is_among c c (class_at o s))))
    ∙ h

says_three : (o : Origin) (a c d : ℕ) (s : Text) (b : Bool) → spans ((a, a) ∷ (c, c) ∷ (d, d) ∷ []) (class_at o s) ≡ b → starts o (start.Three a c d) s ≡ b
unfolding starts
says_three o a c d s b h =
    or_assoc (class_at o s == a) (class_at o s == c) (class_at o s == d)
    ∙ (λ i. span_of a (class_at o s) i || (span_of c (class_at o s) i || span_of d (class_at o s) i))
    ∙ ap (λ (x : Bool). is_among a a (class_at o s) || (is_among c c (class_at o s) || x)) (sym (or_false (is_among d d (class_at o s))))
    ∙ h

says_among : (o : Origin) (a c : ℕ) (s : Text) (b : Bool) → spans ((a, c) ∷ []) (class_at o s) ≡ b → starts o (start.Among a c) s ≡ b
unfolding starts
says_among o a c s b h = sym (or_false _) ∙ h

says_number : (o : Origin) (s : Text) (b : Bool) → spans number_spans (class_at o s) ≡ b → starts o start.Number s ≡ b
unfolding starts
says_number o s true h = grind (arith, nat_tests)
says_number o s false h = grind (arith, nat_tests)

-- a name's sign, and whether it is an alpha name
sign_spans : (c : ℕ) → is_numeric_sign c ≡ spans numeric_spans c
sign_spans c = grind (arith, nat_tests)

-- what a name shows
shows_numeric : (o : Origin) (k : Leaf) (j : Leaf) (w : Text) (s rest : Text) → j ≡ k → is_numeric_name (Hand k) ≡ true → is_whole j w ≡ true → ShowsName o (Plain j w) s rest
    → (is_alpha_name o (skipped o s) ≡ false) × (nat_lt 0 (numeric_name_width o (skipped o s)) ≡ true)
shows_numeric o leaf.Name j w s rest same h whole shown =
    let P : Leaf → Type 0 = λ l. ShowsName o (Plain l w) s rest in
    let W : Leaf → Type 0 = λ l. is_whole l w ≡ true in
    let n : Named o false (length w) w (skipped o s) rest = subst P same shown in
    let a : nat_lt 0 (length w) ≡ true = and_left _ _ (subst W same whole) in
    let b : is_alpha_name o (skipped o s) ≡ false = n.alpha in
    let c : name_width o (skipped o s) ≡ length w = n.width_is in
    (b, ap (λ (x : Bool). nat_lt 0 (if x then 0 else name_width o (skipped o s))) b ∙ ap (nat_lt 0) c ∙ a)
shows_numeric o leaf.LocalName j w s rest same h whole shown =
    let P : Leaf → Type 0 = λ l. ShowsName o (Plain l w) s rest in
    let W : Leaf → Type 0 = λ l. is_whole l w ≡ true in
    let n : Named o false (length w) w (skipped o s) rest = subst P same shown in
    let a : nat_lt 0 (length w) ≡ true = and_left _ _ (subst W same whole) in
    let b : is_alpha_name o (skipped o s) ≡ false = n.alpha in
    let c : name_width o (skipped o s) ≡ length w = n.width_is in
    (b, ap (λ (x : Bool). nat_lt 0 (if x then 0 else name_width o (skipped o s))) b ∙ ap (nat_lt 0) c ∙ a)
shows_numeric o k j w s rest same h whole shown = cc

shows_alpha : (o : Origin) (k : Leaf) (j : Leaf) (w : Text) (s rest : Text) → j ≡ k → is_alpha_lookahead (Hand k) ≡ true → ShowsName o (Plain j w) s rest
    → is_alpha_name o (skipped o s) ≡ true
shows_alpha o leaf.AlphaName j w s rest same h shown =
    let P : Leaf → Type 0 = λ l. ShowsName o (Plain l w) s rest in
    let n : Named o true (length w - 1) w (skipped o s) rest = subst P same shown in
    n.alpha
shows_alpha o k j w s rest same h shown = cc

pub names_number : (o : Origin) (f : Lookahead) (ts : List Token) (s : Text) → is_numeric_name f ≡ true → is_ahead f ts ≡ true → Spells o ts s
    → (is_alpha_name o (skipped o s) ≡ false) × (nat_lt 0 (numeric_name_width o (skipped o s)) ≡ true)
names_number o (Hand k) (Plain j w ∷ ts) s n h spelled =
    shows_numeric o k j w s spelled.0 (same_leaf k j (and_left _ _ h)) n (and_right (leaf_number j == leaf_number k) _ h) spelled.1.0.name
names_number o Any ts s n h spelled = cc
names_number o None ts s n h spelled = cc
names_number o (Spanned a b) ts s n h spelled = cc
names_number o (Hand k) [] s n h spelled = cc
names_number o (Hand k) (Coded c ∷ ts) s n h spelled = cc
names_number o (Hand k) (Lined a b ∷ ts) s n h spelled = cc
names_number o (Hand k) (Short c ∷ ts) s n h spelled = cc
names_number o (ShortOf c) ts s n h spelled = cc
names_number o Numbered ts s n h spelled = cc

pub names_alpha : (o : Origin) (f : Lookahead) (ts : List Token) (s : Text) → is_alpha_lookahead f ≡ true → is_ahead f ts ≡ true → Spells o ts s → is_alpha_name o (skipped o s) ≡ true
names_alpha o (Hand k) (Plain j w ∷ ts) s n h spelled = shows_alpha o k j w s spelled.0 (same_leaf k j (and_left _ _ h)) n spelled.1.0.name
names_alpha o Any ts s n h spelled = cc
names_alpha o None ts s n h spelled = cc
names_alpha o (Spanned a b) ts s n h spelled = cc
names_alpha o (Hand k) [] s n h spelled = cc
names_alpha o (Hand k) (Coded c ∷ ts) s n h spelled = cc
names_alpha o (Hand k) (Lined a b ∷ ts) s n h spelled = cc
names_alpha o (Hand k) (Short c ∷ ts) s n h spelled = cc
names_alpha o (ShortOf c) ts s n h spelled = cc
names_alpha o Numbered ts s n h spelled = cc

name_lookahead : (f : Lookahead) → is_numeric_name f ≡ true → sure (numeric_spans ++ alpha_spans) f false ≡ true
name_lookahead Any h = cc
name_lookahead None h = cc
name_lookahead (Spanned a b) h = cc
name_lookahead (ShortOf c) h = cc
name_lookahead (Hand leaf.Name) h = refl
name_lookahead (Hand leaf.LocalName) h = refl
name_lookahead (Hand k) h = cc
name_lookahead Numbered h = cc

alpha_lookahead : (f : Lookahead) → is_alpha_lookahead f ≡ true → sure (numeric_spans ++ alpha_spans) f false ≡ true
alpha_lookahead Any h = cc
alpha_lookahead None h = cc
alpha_lookahead (Spanned a b) h = cc
alpha_lookahead (ShortOf c) h = cc
alpha_lookahead (Hand leaf.AlphaName) h = refl
alpha_lookahead (Hand k) h = cc
alpha_lookahead Numbered h = cc

spans_left : (ss ts : List Span) (c : ℕ) → spans (ss ++ ts) c ≡ false → spans ss c ≡ false
spans_left [] ts c h = refl
spans_left (s ∷ ss) ts c h = or_none _ _ (or_left _ _ h) (spans_left ss ts c (or_right (is_among s.0 s.1 c) _ h))

spans_right : (ss ts : List Span) (c : ℕ) → spans (ss ++ ts) c ≡ false → spans ts c ≡ false
spans_right [] ts c h = h
spans_right (s ∷ ss) ts c h = spans_right ss ts c (or_right (is_among s.0 s.1 c) _ h)

alpha_codes : (c : ℕ) → (c == 34 || is_among word.HEX_OPEN word.BIN_OPEN c) ≡ spans alpha_spans c
alpha_codes c = (λ i. span_of 34 c i || is_among word.HEX_OPEN word.BIN_OPEN c) ∙ ap (λ (x : Bool). is_among 34 34 c || x) (sym (or_false (is_among word.HEX_OPEN word.BIN_OPEN c)))

pub says_alpha : (o : Origin) (f : Lookahead) (b : Bool) (ts : List Token) (s : Text) → alpha f b ≡ true → is_ahead f ts ≡ true → Spells o ts s → alpha_begins o (skipped o s) ≡ b
says_alpha o f true ts s h k spelled = elim (or_cases (is_alpha_lookahead f) (sure alpha_spans f true) h) [
  | inl g ↦ or_other _ _ (names_alpha o f ts s g k spelled)
  | inr g ↦ or_one _ _ (alpha_codes (class_at o s) ∙ class_says alpha_spans o f true ts s g k spelled)
]
says_alpha o f false ts s h k spelled = elim (or_cases (is_numeric_name f) (sure (name_spans ++ alpha_spans) f false) h) [
  | inl g ↦ or_none _ _
      (alpha_codes (class_at o s) ∙ spans_right numeric_spans alpha_spans (class_at o s) (class_says (numeric_spans ++ alpha_spans) o f false ts s (name_lookahead f g) k spelled))
      (names_number o f ts s g k spelled).0
  | inr g ↦ (let none = class_says (name_spans ++ alpha_spans) o f false ts s g k spelled in
      or_none _ _ (alpha_codes (class_at o s) ∙ spans_right name_spans alpha_spans (class_at o s) none)
      (not_alpha o (skipped o s) (not_named o (skipped o s) (spans_left name_spans alpha_spans (class_at o s) none))))
]

-- where a name without `$` begins, and where none does
begins_where : (letter at second : Bool) (n m : ℕ) → nat_lt 0 (if letter then n else (if at && second then m else 0)) ≡ true → (letter || at) ≡ true
begins_where true at second n m h = refl
begins_where false true second n m h = refl
begins_where false false second n m h = cc

both_hold : (a b : Bool) → a ≡ true → b ≡ false → (a && not b) ≡ true
both_hold true b h k = rw k refl
both_hold false b h k = cc

number_begins : (o : Origin) (u : Text) → is_alpha_name o u ≡ false → nat_lt 0 (numeric_name_width o u) ≡ true → (begins_name (ahead o u).0 && not (is_alpha_name o u)) ≡ true
number_begins o u a w =
    let n : nat_lt 0 (name_width o u) ≡ true = ap (λ (x : Bool). nat_lt 0 (if x then 0 else name_width o u)) (sym a) ∙ w in
    both_hold (begins_name (ahead o u).0) (is_alpha_name o u) (begins_where (is_letter (ahead o u).0) ((ahead o u).0 == 64) _ _ _ n) a

one_fails : (a b : Bool) → b ≡ true → (a && not b) ≡ false
one_fails true b h = rw h refl
one_fails false b h = refl

nothing_begins : (c : ℕ) (b : Bool) → spans name_spans c ≡ false → (begins_name c && b) ≡ false
nothing_begins c b h = ap (λ (x : Bool). x && b) (or_none _ _ (no_letter c h) (no_at c h))

pub says_numeric : (o : Origin) (f : Lookahead) (b : Bool) (ts : List Token) (s : Text) → numeric f b ≡ true → is_ahead f ts ≡ true → Spells o ts s → numeric_begins o (skipped o s) ≡ b
says_numeric o f true ts s h k spelled = elim (or_cases (is_numeric_name f) (sure numeric_spans f true) h) [
  | inl g ↦ (let n = names_number o f ts s g k spelled in or_other _ _ (number_begins o (skipped o s) n.0 n.1))
  | inr g ↦ or_one _ _ (sign_spans (class_at o s) ∙ class_says numeric_spans o f true ts s g k spelled)
]
says_numeric o f false ts s h k spelled = elim (or_cases (is_alpha_lookahead f) (sure (name_spans ++ numeric_spans) f false) h) [
  | inl g ↦ or_none _ _
      (sign_spans (class_at o s) ∙ spans_left numeric_spans alpha_spans (class_at o s) (class_says (numeric_spans ++ alpha_spans) o f false ts s (alpha_lookahead f g) k spelled))
      (one_fails (begins_name (class_at o s)) (is_alpha_name o (skipped o s)) (names_alpha o f ts s g k spelled))
  | inr g ↦ (let none = class_says (name_spans ++ numeric_spans) o f false ts s g k spelled in
      or_none _ _ (sign_spans (class_at o s) ∙ spans_right name_spans numeric_spans (class_at o s) none)
      (nothing_begins (class_at o s) (not (is_alpha_name o (skipped o s))) (spans_left name_spans numeric_spans (class_at o s) none)))
]

and_none : (a b : Bool) → a ≡ false → (a && b) ≡ false
and_none true b h = cc
and_none false b h = refl

shows_hex : (o : Origin) (k j : Leaf) (w s : Text) → j ≡ k → is_hex_lookahead (Hand k) ≡ true → ShowsHex o (Plain j w) s → is_hex_digit (kept_byte o (first (skipped o s))) ≡ true
shows_hex o leaf.HexPair j w s same h shown = let P : Leaf → Type 0 = λ l. ShowsHex o (Plain l w) s in subst P same shown
shows_hex o k j w s same h shown = cc

says_hex : (o : Origin) (f : Lookahead) (ts : List Token) (s : Text) → is_hex_lookahead f ≡ true → is_ahead f ts ≡ true → Spells o ts s → is_hex_digit (kept_byte o (first (skipped o s))) ≡ true
says_hex o (Hand k) (Plain j w ∷ ts) s n h spelled = shows_hex o k j w s (same_leaf k j (and_left _ _ h)) n spelled.1.0.hex
says_hex o Any ts s n h spelled = cc
says_hex o None ts s n h spelled = cc
says_hex o (Spanned a b) ts s n h spelled = cc
says_hex o (Hand k) [] s n h spelled = cc
says_hex o (Hand k) (Coded c ∷ ts) s n h spelled = cc
says_hex o (Hand k) (Lined a b ∷ ts) s n h spelled = cc
says_hex o (Hand k) (Short c ∷ ts) s n h spelled = cc
says_hex o (ShortOf c) ts s n h spelled = cc
says_hex o Numbered ts s n h spelled = cc

close_kept : (o : Origin) → is_hex_digit (kept_byte o 41) ≡ false
close_kept origin.Program = refl
close_kept origin.Immediate = refl
close_kept origin.Atoms = refl

close_code : (a b c : ℕ) → (a == 41 && b == 41) ≡ true → is_among a b c ≡ true → (c == 41) ≡ true
close_code a b c h k = grind (arith, nat_tests)

no_hex : (o : Origin) (f : Lookahead) (ts : List Token) (s : Text) → surely start.Hex f false ≡ true → is_ahead f ts ≡ true → Spells o ts s → is_hex_digit (kept_byte o (first (skipped o s))) ≡ false
no_hex o (Spanned a b) (Coded c ∷ ts) s h k spelled =
    ap (λ (n : ℕ). is_hex_digit (kept_byte o n)) (equal (first (skipped o s)) 41 (spelled.1.0.closes refl ∙ close_code a b c h k)) ∙ close_kept o
no_hex o (Spanned a b) [] s h k spelled = cc
no_hex o (Spanned a b) (Plain j w ∷ ts) s h k spelled = cc
no_hex o (Spanned a b) (Lined x y ∷ ts) s h k spelled = cc
no_hex o (Spanned a b) (Short c ∷ ts) s h k spelled = cc
no_hex o (ShortOf c) ts s h k spelled = cc
no_hex o Any ts s h k spelled = cc
no_hex o None ts s h k spelled = cc
no_hex o (Hand l) ts s h k spelled = cc
no_hex o Numbered ts s h k spelled = cc

says_line : (o : Origin) (f : Lookahead) (ts : List Token) (s : Text) → is_numbered f ≡ true → is_ahead f ts ≡ true → Spells o ts s → is_line o (class_at o s) ≡ true
says_line o Numbered (Lined a b ∷ ts) s n h spelled = spelled.1.0.line
says_line o Numbered [] s n h spelled = cc
says_line o Numbered (Coded c ∷ ts) s n h spelled = cc
says_line o Numbered (Plain j w ∷ ts) s n h spelled = cc
says_line o Numbered (Short c ∷ ts) s n h spelled = cc
says_line o (ShortOf c) ts s n h spelled = cc
says_line o Any ts s n h spelled = cc
says_line o None ts s n h spelled = cc
says_line o (Spanned a b) ts s n h spelled = cc
says_line o (Hand k) ts s n h spelled = cc

-- one code
one_code : (a c : ℕ) (b : Bool) → spans ((a, a) ∷ []) c ≡ b → (c == a) ≡ b
one_code a c b h = span_of a c ∙ sym (or_false _) ∙ h

one_span : (a d c : ℕ) (b : Bool) → spans ((a, d) ∷ []) c ≡ b → is_among a d c ≡ b
one_span a d c b h = sym (or_false _) ∙ h

-- a text answers what the front of its tokens settles
pub says : (o : Origin) (st : Start) (f : Lookahead) (b : Bool) (ts : List Token) (s : Text) → surely st f b ≡ true → is_ahead f ts ≡ true → Spells o ts s → starts o st s ≡ b
unfolding starts
says o (start.Code a) f b ts s h k spelled = says_code o a s b (class_says ((a, a) ∷ []) o f b ts s h k spelled)
says o (start.Two a c) f b ts s h k spelled = says_two o a c s b (class_says ((a, a) ∷ (c, c) ∷ []) o f b ts s h k spelled)
says o (start.Three a c d) f b ts s h k spelled = says_three o a c d s b (class_says ((a, a) ∷ (c, c) ∷ (d, d) ∷ []) o f b ts s h k spelled)
says o (start.Among a c) f b ts s h k spelled = says_among o a c s b (class_says ((a, c) ∷ []) o f b ts s h k spelled)
says o (start.Pair a c) f true ts s h k spelled = cc
says o (start.Pair a c) f false ts s h k spelled = and_none _ _ (one_code a (class_at o s) false (class_says ((a, a) ∷ []) o f false ts s h k spelled))
says o (start.Letters a c d) f true ts s h k spelled = cc
says o (start.Letters a c d) f false ts s h k spelled = and_none _ _ (one_code a (class_at o s) false (class_says ((a, a) ∷ []) o f false ts s h k spelled))
says o (start.ShortAfter a c) f true ts s h k spelled = cc
says o (start.ShortAfter a c) f false ts s h k spelled = and_none _ _ (one_code a (class_at o s) false (class_says ((a, a) ∷ []) o f false ts s h k spelled))
says o start.Number f b ts s h k spelled = says_number o s b (class_says number_spans o f b ts s h k spelled)
says o start.Line f true ts s h k spelled = says_line o f ts s h k spelled
says o start.Line f false ts s h k spelled = no_line o (class_at o s) (class_says ((48, 57) ∷ (255, 255) ∷ []) o f false ts s h k spelled)
says o start.Numeric f b ts s h k spelled = says_numeric o f b ts s h k spelled
says o start.Alpha f b ts s h k spelled = says_alpha o f b ts s h k spelled
says o start.Hex f true ts s h k spelled = says_hex o f ts s h k spelled
says o start.Hex f false ts s h k spelled = no_hex o f ts s h k spelled
says o start.Array f b ts s h k spelled = cc
says o start.AlphaInside f b ts s h k spelled = cc
says o start.CommaOrAlpha f true ts s h k spelled = elim (or_cases (alpha f true) (sure ((44, 44) ∷ []) f true) h) [
  | inl g ↦ or_other _ _ (says_alpha o f true ts s g k spelled)
  | inr g ↦ or_one _ _ (one_code 44 (class_at o s) true (class_says ((44, 44) ∷ []) o f true ts s g k spelled))
]
says o start.CommaOrAlpha f false ts s h k spelled =
    or_none _ _ (one_code 44 (class_at o s) false (class_says ((44, 44) ∷ []) o f false ts s (and_right (alpha f false) _ h) k spelled)) (says_alpha o f false ts s (and_left _ _ h) k spelled)
says o start.PrintItem f true ts s h k spelled =
    elim (or_cases (numeric f true) _ h) [
      | inl g ↦ or_other _ _ (or_other _ _ (or_one _ _ (says_numeric o f true ts s g k spelled)))
      | inr g ↦ elim (or_cases (alpha f true) (sure ((word.TAB_OPEN, word.HEXOF_OPEN) ∷ []) f true || sure ((word.AT_OPEN, word.BOX_OPEN) ∷ []) f true) g) [
        | inl e ↦ or_other (is_among word.TAB_OPEN word.HEXOF_OPEN (ahead o (skipped o s)).0) _ (or_other (is_among word.AT_OPEN word.BOX_OPEN (ahead o (skipped o s)).0) _ (or_other (numeric_begins o (skipped o s)) _ (says_alpha o f true ts s e k spelled)))
        | inr e ↦ elim (or_cases (sure ((word.TAB_OPEN, word.HEXOF_OPEN) ∷ []) f true) (sure ((word.AT_OPEN, word.BOX_OPEN) ∷ []) f true) e) [
          | inl t ↦ or_one _ _ (one_span word.TAB_OPEN word.HEXOF_OPEN (class_at o s) true (class_says ((word.TAB_OPEN, word.HEXOF_OPEN) ∷ []) o f true ts s t k spelled))
          | inr t ↦ or_other _ _ (or_one _ _ (one_span word.AT_OPEN word.BOX_OPEN (class_at o s) true (class_says ((word.AT_OPEN, word.BOX_OPEN) ∷ []) o f true ts s t k spelled)))
        ]
      ]
    ]
says o start.PrintItem f false ts s h k spelled =
    let rest = and_right (numeric f false) _ h in
    let both = and_right (alpha f false) _ rest in
    or_none _ _ (one_span word.TAB_OPEN word.HEXOF_OPEN (class_at o s) false (class_says ((word.TAB_OPEN, word.HEXOF_OPEN) ∷ []) o f false ts s (and_left _ _ both) k spelled))
    (or_none _ _ (one_span word.AT_OPEN word.BOX_OPEN (class_at o s) false (class_says ((word.AT_OPEN, word.BOX_OPEN) ∷ []) o f false ts s (and_right (sure ((word.TAB_OPEN, word.HEXOF_OPEN) ∷ []) f false) _ both) k spelled))
    (or_none _ _ (says_numeric o f false ts s (and_left _ _ h) k spelled) (says_alpha o f false ts s (and_left _ _ rest) k spelled)))

-- one of some lookaheads stands there, so what all of them settle is answered
pub some_lookahead : (q : Lookahead → Bool) (fs : List Lookahead) (ts : List Token) → every q fs ≡ true → some (λ (f : Lookahead). is_ahead f ts) fs ≡ true → (f : Lookahead) × ((q f ≡ true) × (is_ahead f ts ≡ true))
some_lookahead q [] ts h k = cc
some_lookahead q (f ∷ fs) ts h k = elim (or_cases (is_ahead f ts) (some (λ (g : Lookahead). is_ahead g ts) fs) k) [
  | inl g ↦ (f, (and_left _ _ h, g))
  | inr g ↦ some_lookahead q fs ts (and_right (q f) _ h) g
]

pub answers : (o : Origin) (st : Start) (fs : List Lookahead) (b : Bool) (ts : List Token) (s : Text) → every (λ (f : Lookahead). surely st f b) fs ≡ true
    → some (λ (f : Lookahead). is_ahead f ts) fs ≡ true → Spells o ts s → starts o st s ≡ b
answers o st fs b ts s h k spelled =
    let one = some_lookahead (λ (f : Lookahead). surely st f b) fs ts h k in says o st one.0 b ts s one.1.0 one.1.1 spelled
