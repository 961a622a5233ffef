-- The canonical source of tokens spells them.
use Rattle.std.proofs.Common.{◌≡◌, ℕ, suc, ◌<◌, Bool, true, false, not, if◌then◌else◌, ◌==◌, ◌||◌, ◌&&◌, List, [], ◌∷◌, ◌++◌, length, drop, refl, sym, ap, subst, ◌∙◌, arith, nat_lt, append-nil, length-append}
use Rattle.std.specs.Prelude.{codes}
use Rattle.std.proofs.lemmas.Bool.Decides.{nat_tests}
use Rattle.b2_base.specs.Lexical.{all_printable, first, is_decimal, is_digit, is_hex_digit, is_letter, skip_blanks, upper}
use Rattle.b2_atom.specs.Words.{Text, ahead, skipped, word_text, begins_with, is_source, typed_ahead, is_short, short_text, short_stands, short_width}
use Rattle.b2_atom.specs.Tokens.{Token, listed, maybe_spaced, spelled, is_apart, is_word, ends_wordy, begins_wordy, is_operand, closes}
use Rattle.b2_atom.specs.Tokens.Token.{Coded, Short, Plain, Lined}
use Rattle.b2_atom.specs.Tree.{one}
use Rattle.b2_atom.specs.Leaves.{leaf_width}
use Rattle.b2_atom.specs.Grammar.{is_line, line_number_at, typed_line_number}
use Rattle.b2_atom.specs.Spelling.{Begins, Spells, good_token, is_whole, plain_signs, is_in, is_word_or_sign, is_free_text, is_image, may_follow, may_follow_code, may_follow_leaf, AllGood, Neighbours, is_classed}
use Rattle.b2_atom.specs.declared.words.TheConstants as word
use Rattle.b2_atom.specs.declared.words.Origin.{Origin}
use Rattle.b2_atom.specs.declared.words.Origin.TheVariants.{Program, Immediate, Atoms}
use Rattle.b2_atom.specs.declared.forms.Leaf.{Leaf}
use Rattle.b2_atom.specs.declared.forms.Leaf.TheVariants as leaf
use Rattle.b2_atom.proofs.Booleans.{and_left, and_right, equal, not_true}
use Rattle.b2_atom.proofs.typed.Longest.{every, below}
use Rattle.b2_atom.proofs.typed.WordsRead.{is_code, lengthens, lengthens_word, typed_word, word_some, joins, typed_da, typed_ba}
use Rattle.b2_atom.proofs.typed.Keywords.{is_keyword, not_at_sign, not_at_other, at_no_word, no_word_but, never_let, never_using, only_save, only_load}
use Rattle.b2_atom.proofs.typed.LineNumbers.{LineShown, line_shown, line_read}
use Rattle.b2_atom.proofs.typed.LeavesRead.{ends}
use Rattle.b2_atom.proofs.typed.LeafStarts.{leaf_front}
use Rattle.b2_atom.proofs.spelling.Begun.{begins_plain, begins_coded, begins_short, begins_lined, front_no_blank, leaf_quiet, quiet_keyword, is_plain_sign, ahead_plain, let_none}
use Rattle.b2_atom.proofs.spelling.SideBySide.{among_signs, later, whole_width, not_empty, is_text, leaf_ends, line_ends}
use Rattle.b2_atom.proofs.spelling.Lettered.{letter_ahead, beg_shown}
use Rattle.b2_atom.proofs.spelling.SpellsAtoms.{begins_text, text_last}
use Rattle.b2_atom.proofs.spelling.Listed.{good_word, good_sign, word_fronts, source_behind, source_shown, spelled_word, spelled_sign, first_more, or_first, or_second, of_short}

-- the blank before a token is skipped
skip_sure : (o : Origin) → is_source o ≡ true → (a : ℕ) (y : Text) → (a == 32) ≡ false → skipped o (a ∷ y) ≡ a ∷ y
skip_sure Program s a y h = rw h refl
skip_sure Immediate s a y h = rw h refl
skip_sure Atoms s a y h = refl

skip_blank : (o : Origin) → is_source o ≡ true → (y : Text) → skipped o (32 ∷ y) ≡ skipped o y
skip_blank Program s y = refl
skip_blank Immediate s y = refl
skip_blank Atoms s y = cc

pub skip_spaced : (o : Origin) → is_source o ≡ true → (apart : Bool) (v y : Text) → (first v == 32) ≡ false → 0 < length v → skipped o (maybe_spaced apart v ++ y) ≡ v ++ y
skip_spaced o s apart [] y h some = absurd (omega arith)
skip_spaced o s true (a ∷ v) y h some = skip_blank o s (a ∷ (v ++ y)) ∙ skip_sure o s a (v ++ y) h
skip_spaced o s false (a ∷ v) y h some = skip_sure o s a (v ++ y) h

-- what may follow a word that ends in a letter
abbrev closing : ℕ → Bool
closing b = b == 58 || b == 44 || b == 59 || b == 41 || b == 61 || b == 47

closing_small : (c : ℕ) → closing c ≡ true → is_word c ≡ false
closing_small c h = grind (arith, nat_tests)

closing_plain : (k : Leaf) (w x : Text) → closes (Plain k w) ≡ true → closing (first (w ++ x)) ≡ true
closing_plain k [] x h = cc
closing_plain k (a ∷ w) x h = cc

closing_first : (u : Token) (x : Text) → closes u ≡ true → closing (first (spelled u ++ x)) ≡ true
closing_first (Coded c) x h = ap (λ (t : Text). closing (first (t ++ x))) (spelled_sign c (closing_small c h)) ∙ h
closing_first (Short c) x h = cc
closing_first (Plain k w) x h = closing_plain k w x h
closing_first (Lined high low) x h = cc

closing_stops : (n : ℕ) → closing n ≡ true → lengthens (upper n) ≡ false
closing_stops n h = grind (arith, nat_tests)

closes_not : (b : Bool) → not b ≡ false → b ≡ true
closes_not true h = refl
closes_not false h = cc

stops_by : (operand : Bool) (u : Token) (x : Text) (b : Bool) → is_apart true operand u ≡ b → lengthens (upper (first (maybe_spaced b (spelled u) ++ x))) ≡ false
stops_by operand u x true is = refl
stops_by operand u x false is =
    closing_stops (first (spelled u ++ x)) (closing_first u x (closes_not (closes u) (or_first (not (closes u)) (operand && begins_wordy u) is)))

stops_listed : (wordy operand : Bool) (ts : List Token) → (wordy && lengthens (upper (first (listed wordy operand ts)))) ≡ false
stops_listed false operand ts = refl
stops_listed true operand [] = refl
stops_listed true operand (u ∷ us) = stops_by operand u (listed (ends_wordy u) (is_operand u) us) (is_apart true operand u) refl

-- tokens begin with no blank, but for free text
signs_no_blank : every (λ c. not (c == 32)) plain_signs ≡ true
signs_no_blank = refl

pub record Fronted (v : Text) : Type 0 where
  pub blank : (first v == 32) ≡ false
  pub some : 0 < length v

digit_blank : (n : ℕ) → is_digit n ≡ true → (n == 32) ≡ false
digit_blank n h = grind (arith, nat_tests)

coded_fronted : (c : ℕ) (b : Bool) → is_word c ≡ b → good_token (Coded c) ≡ true → Fronted (spelled (Coded c))
coded_fronted c true is g =
    subst Fronted (sym (spelled_word c is)) (record { blank = (word_fronts c (good_word c g is)).blank; some = word_some c (good_word c g is) })
coded_fronted c false is g =
    subst Fronted (sym (spelled_sign c is)) (record { blank = not_true (c == 32) (among_signs (λ c. not (c == 32)) c plain_signs signs_no_blank (good_sign c g is)); some = omega arith })

plain_fronted : (k : Leaf) (w : Text) → is_text k ≡ false → is_whole k w ≡ true → Fronted w
plain_fronted k [] n h = absurd (not_empty k h)
plain_fronted k (a ∷ w) n h = record { blank = front_no_blank k a (leaf_front k a w (whole_width k a w n h)); some = omega arith }

shown_fronted : (w : Text) → LineShown w → Fronted w
shown_fronted w s = subst Fronted (sym s.is) (record { blank = digit_blank s.digit s.good; some = omega arith })

line_of : (high low : ℕ) → good_token (Lined high low) ≡ true → LineShown (spelled (Lined high low))
line_of high low g = line_shown high low (and_left (is_decimal high) (is_decimal low) g) (and_right (is_decimal high) (is_decimal low) g)

not_free_text : (k : Leaf) (w : Text) → is_free_text (Plain k w) ≡ false → is_text k ≡ false
not_free_text leaf.Text w h = cc
not_free_text k w h = refl

short_fronted : (c : ℕ) → is_short c ≡ true → Fronted (short_text c)
short_fronted c h = of_short (λ d. Fronted (short_text d)) (record { blank = refl; some = omega arith }) (record { blank = refl; some = omega arith }) c h

pub token_fronted : (u : Token) → is_free_text u ≡ false → good_token u ≡ true → Fronted (spelled u)
token_fronted (Coded c) n g = coded_fronted c (is_word c) refl g
token_fronted (Short c) n g = short_fronted c g
token_fronted (Plain k w) n g = plain_fronted k w (not_free_text k w n) g
token_fronted (Lined high low) n g = shown_fronted (spelled (Lined high low)) (line_of high low g)

-- a word that isn't in the table: its first letter is no hexadecimal digit and no letter that stands for itself
abbrev is_foreign : Text → Bool
is_foreign v = is_keyword v && (not (is_hex_digit (first v)) && every (λ c. not (first v == upper c) || is_plain_sign c) plain_signs)

hex_other : (v b : ℕ) → not (is_hex_digit v) ≡ true → is_hex_digit b ≡ true → (v == upper b) ≡ false
hex_other v b h k = grind (arith, nat_tests)

plain_letter : (c : ℕ) → is_plain_sign c ≡ true → is_letter (upper c) ≡ false
plain_letter c h = grind (arith, nat_tests)

sign_case : (v : Text) (c : ℕ) (x : Text) → is_keyword v ≡ true → (b : Bool) → (first v == upper c) ≡ b → (not b || is_plain_sign c) ≡ true → begins_with v (c ∷ x) ≡ false
sign_case v c x k true is h = not_at_sign v (c ∷ x) k (plain_letter c h)
sign_case v c x k false is h = not_at_other v c x k is

foreign_sign : (v : Text) (c : ℕ) (x : Text) → is_keyword v ≡ true → (not (first v == upper c) || is_plain_sign c) ≡ true → begins_with v (c ∷ x) ≡ false
foreign_sign v c x k h = sign_case v c x k (first v == upper c) refl h

hex_leaf : (v : Text) (a : ℕ) (x : Text) → is_foreign v ≡ true → is_hex_digit a ≡ true → begins_with v (a ∷ x) ≡ false
hex_leaf v a x f h =
    let rest = and_right (is_keyword v) (not (is_hex_digit (first v)) && every (λ c. not (first v == upper c) || is_plain_sign c) plain_signs) f in
    not_at_other v a x (and_left (is_keyword v) _ f) (hex_other (first v) a (and_left (not (is_hex_digit (first v))) _ rest) h)

classed_leaf : (v : Text) (k : Leaf) (a : ℕ) (w y : Text) → is_foreign v ≡ true → is_classed k ≡ true → leaf_width Atoms k (a ∷ w) ≡ suc (length w) → ends k (first y) ≡ true
    → begins_with v (a ∷ (w ++ y)) ≡ false
classed_leaf v k a w y f c h stop = quiet_keyword v a (w ++ y) (and_left (is_keyword v) _ f) (leaf_quiet k a w y c h stop)

kind_absent : (v : Text) (k : Leaf) (a : ℕ) (w y : Text) → is_foreign v ≡ true → is_image (Plain k (a ∷ w)) ≡ false → leaf_width Atoms k (a ∷ w) ≡ suc (length w) → ends k (first y) ≡ true
    → begins_with v (a ∷ (w ++ y)) ≡ false
kind_absent v leaf.HexPair a w y f n h stop = hex_leaf v a (w ++ y) f (leaf_front leaf.HexPair a w h)
kind_absent v leaf.HexDigit a w y f n h stop = hex_leaf v a (w ++ y) f (leaf_front leaf.HexDigit a w h)
kind_absent v leaf.Address a w y f n h stop = hex_leaf v a (w ++ y) f (leaf_front leaf.Address a w h)
kind_absent v leaf.Image a w y f n h stop = cc
kind_absent v leaf.Text a w y f n h stop = cc
kind_absent v k a w y f n h stop = classed_leaf v k a w y f refl h stop

plain_absent : (v : Text) (k : Leaf) (w y : Text) → is_foreign v ≡ true → is_image (Plain k w) ≡ false → is_free_text (Plain k w) ≡ false → is_whole k w ≡ true → ends k (first y) ≡ true
    → begins_with v (w ++ y) ≡ false
plain_absent v k [] y f n t h stop = absurd (not_empty k h)
plain_absent v k (a ∷ w) y f n t h stop = kind_absent v k a w y f n (whole_width k a w (not_free_text k (a ∷ w) t) h) stop

digit_plain : (n : ℕ) → is_digit n ≡ true → is_plain_sign n ≡ true
digit_plain n h = grind (arith, nat_tests)

line_absent : (v w y : Text) → is_foreign v ≡ true → LineShown w → begins_with v (w ++ y) ≡ false
line_absent v w y f s =
    let P : Text → Type 0 = λ t. begins_with v (t ++ y) ≡ false in
    subst P (sym s.is) (not_at_sign v (s.digit ∷ (s.rest ++ y)) (and_left (is_keyword v) _ f) (plain_letter s.digit (digit_plain s.digit s.good)))

sign_absent : (v : Text) (c : ℕ) (y : Text) → is_foreign v ≡ true → is_in c plain_signs ≡ true → begins_with v (c ∷ y) ≡ false
sign_absent v c y f h =
    let rest = and_right (is_keyword v) (not (is_hex_digit (first v)) && every (λ c. not (first v == upper c) || is_plain_sign c) plain_signs) f in
    foreign_sign v c y (and_left (is_keyword v) _ f)
    (among_signs (λ c. not (first v == upper c) || is_plain_sign c) c plain_signs (and_right (not (is_hex_digit (first v))) (every (λ c. not (first v == upper c) || is_plain_sign c) plain_signs) rest) h)

-- the code of a word, where it may be one
coded_absent : (v : Text) (d c : ℕ) (y : Text) (b : Bool) → is_word c ≡ b → is_foreign v ≡ true → good_token (Coded c) ≡ true → (b ≡ true → (c == d) ≡ false)
    → below (no_word_but v d) word.CODED ≡ true → begins_with v (spelled (Coded c) ++ y) ≡ false
coded_absent v d c y true is f g other all =
    ap (λ (t : Text). begins_with v (t ++ y)) (spelled_word c is) ∙ at_no_word v d c y all (good_word c g is) (other refl)
coded_absent v d c y false is f g other all =
    ap (λ (t : Text). begins_with v (t ++ y)) (spelled_sign c is) ∙ sign_absent v c y f (good_sign c g is)

short_absent : (v : Text) (c : ℕ) (y : Text) → is_foreign v ≡ true → is_short c ≡ true → begins_with v (short_text c ++ y) ≡ false
short_absent v c y f h =
    of_short (λ d. begins_with v (short_text d ++ y) ≡ false) (hex_leaf v 68 (65 ∷ y) f refl) (hex_leaf v 66 (65 ∷ y) f refl) c h

-- no such word stands where a token does
pub absent : (v : Text) (d : ℕ) (u : Token) (us : List Token) → is_foreign v ≡ true → below (no_word_but v d) word.CODED ≡ true → is_image u ≡ false → is_free_text u ≡ false
    → ((c : ℕ) → u ≡ Coded c → is_word c ≡ true → (c == d) ≡ false) → AllGood (u ∷ us) → Neighbours (u ∷ us) → begins_with v (spelled u ++ source_behind u us) ≡ false
absent v d (Coded c) us f all n t other g nb = coded_absent v d c (source_behind (Coded c) us) (is_word c) refl f g.0 (other c refl) all
absent v d (Short c) us f all n t other g nb = short_absent v c (source_behind (Short c) us) f g.0
absent v d (Plain k w) us f all n t other g nb = plain_absent v k w (source_behind (Plain k w) us) f n t g.0 (leaf_ends Program source_behind (source_shown Program) k w us g.1 nb)
absent v d (Lined high low) us f all n t other g nb = line_absent v (spelled (Lined high low)) (source_behind (Lined high low) us) f (line_of high low g.0)

-- DATA and PRINT make no other word with what is listed after them
join_cases : (a b s l u : Bool) → (a ≡ true → s ≡ false) → (a ≡ true → l ≡ false) → (b ≡ true → u ≡ false) → (a && s || (a && l || b && u)) ≡ false
join_cases true true s l u hs hl hu = rw (hs refl) (rw (hl refl) (hu refl))
join_cases true false s l u hs hl hu = rw (hs refl) (rw (hl refl) refl)
join_cases false true s l u hs hl hu = hu refl
join_cases false false s l u hs hl hu = refl

no_symbol_word : (e : ℕ) → not (is_letter e) ≡ false → is_word e ≡ true → ⊥
no_symbol_word e h k = grind (arith, nat_tests)

word_not_zero : (e : ℕ) → is_word e ≡ true → (e == 0) ≡ false
word_not_zero e h = grind (arith, nat_tests)

behind_data : (c : ℕ) (u : Token) → (c == word.DATA) ≡ true → may_follow_code c u ≡ true → (not (is_free_text u) && not (is_word_or_sign u || is_image u)) ≡ true
behind_data c u is h = ap (λ (n : ℕ). may_follow_code n u) (sym (equal c word.DATA is)) ∙ h

behind_print : (c : ℕ) (u : Token) → (c == word.PRINT) ≡ true → may_follow_code c u ≡ true → (not (is_free_text u) && not (is_image u)) ≡ true
behind_print c u is h = ap (λ (n : ℕ). may_follow_code n u) (sym (equal c word.PRINT is)) ∙ h

-- a text after a word: what is listed there begins with a token
pub next_shown : (t u : Token) (us : List Token) → is_free_text u ≡ false → good_token u ≡ true → skip_blanks (source_behind t (u ∷ us)) ≡ spelled u ++ source_behind u us
unfolding source_behind
next_shown t u us n g =
    let f = token_fronted u n g in
    skip_spaced Program refl (is_apart (ends_wordy t) (is_operand t) u) (spelled u) (listed (ends_wordy u) (is_operand u) us) f.blank f.some

absent_behind : (v : Text) (d : ℕ) (t u : Token) (us : List Token) → is_foreign v ≡ true → below (no_word_but v d) word.CODED ≡ true → is_image u ≡ false → is_free_text u ≡ false
    → ((c : ℕ) → u ≡ Coded c → is_word c ≡ true → (c == d) ≡ false) → AllGood (u ∷ us) → Neighbours (u ∷ us) → begins_with v (skip_blanks (source_behind t (u ∷ us))) ≡ false
absent_behind v d t u us f all n fr other g nb = ap (begins_with v) (next_shown t u us fr g.0) ∙ absent v d u us f all n fr other g nb

behind_data_absent : (v : Text) (d c : ℕ) (u : Token) (us : List Token) → is_foreign v ≡ true → below (no_word_but v d) word.CODED ≡ true → AllGood (u ∷ us) → Neighbours (Coded c ∷ u ∷ us)
    → (c == word.DATA) ≡ true → begins_with v (skip_blanks (source_behind (Coded c) (u ∷ us))) ≡ false
behind_data_absent v d c u us f all g nb is =
    let m = behind_data c u is nb.0 in
    let fr = not_true (is_free_text u) (and_left (not (is_free_text u)) _ m) in
    let no_more = not_true (is_word_or_sign u || is_image u) (and_right (not (is_free_text u)) _ m) in
    absent_behind v d (Coded c) u us f all (or_second (is_word_or_sign u) (is_image u) no_more) fr
    (λ e same h. absurd (no_symbol_word e (ap is_word_or_sign (sym same) ∙ or_first (is_word_or_sign u) (is_image u) no_more) h)) g nb.1

behind_print_absent : (v : Text) (c : ℕ) (u : Token) (us : List Token) → is_foreign v ≡ true → below (no_word_but v 0) word.CODED ≡ true → AllGood (u ∷ us) → Neighbours (Coded c ∷ u ∷ us)
    → (c == word.PRINT) ≡ true → begins_with v (skip_blanks (source_behind (Coded c) (u ∷ us))) ≡ false
behind_print_absent v c u us f all g nb is =
    let m = behind_print c u is nb.0 in
    absent_behind v 0 (Coded c) u us f all (not_true (is_image u) (and_right (not (is_free_text u)) (not (is_image u)) m)) (not_true (is_free_text u) (and_left (not (is_free_text u)) (not (is_image u)) m))
    (λ e same h. word_not_zero e h) g nb.1

joins_listed : (c : ℕ) (ts : List Token) → AllGood ts → Neighbours (Coded c ∷ ts) → joins c (source_behind (Coded c) ts) ≡ false
unfolding source_behind
joins_listed c [] g nb = join_cases (c == word.DATA) (c == word.PRINT) false false false (λ h. refl) (λ h. refl) (λ h. refl)
joins_listed c (u ∷ us) g nb =
    join_cases (c == word.DATA) (c == word.PRINT)
    (begins_with (codes "SAVE") (skip_blanks (source_behind (Coded c) (u ∷ us))))
    (begins_with (codes "LOAD") (skip_blanks (source_behind (Coded c) (u ∷ us))))
    (begins_with (codes "USING") (skip_blanks (source_behind (Coded c) (u ∷ us))))
    (behind_data_absent (codes "SAVE") word.SAVE c u us refl only_save g nb)
    (behind_data_absent (codes "LOAD") word.LOAD c u us refl only_load g nb)
    (behind_print_absent (codes "USING") c u us refl never_using g nb)

-- words
source_ahead : (o : Origin) → is_source o ≡ true → (t : Text) (p : ℕ × Text) → typed_ahead t ≡ p → ahead o t ≡ p
source_ahead Program s t p h = h
source_ahead Immediate s t p h = h
source_ahead Atoms s t p h = cc

same_false : (a b : Bool) → a ≡ false → b ≡ false → a ≡ b
same_false a b h k = h ∙ sym k

not_open : (c : ℕ) → is_code c ≡ true → (c == 40) ≡ false
not_open c h = grind (arith, nat_tests)

not_close : (c : ℕ) → is_code c ≡ true → (c == 41) ≡ false
not_close c h = grind (arith, nat_tests)

not_null : (c : ℕ) → is_code c ≡ true → (c == 0) ≡ false
not_null c h = grind (arith, nat_tests)

longer : (w y : Text) → 0 < length w → length y < length (w ++ y)
longer w y h = omega (arith, length-append w y)

stops_behind : (c : ℕ) (ts : List Token) → lengthens_word c (upper (first (source_behind (Coded c) ts))) ≡ false
unfolding source_behind
stops_behind c ts = stops_listed (ends_wordy (Coded c)) (is_operand (Coded c)) ts

word_source : (o : Origin) → is_source o ≡ true → (apart : Bool) (c : ℕ) (ts : List Token) → is_word c ≡ true → good_token (Coded c) ≡ true → AllGood ts → Neighbours (Coded c ∷ ts)
    → Begins o (Coded c) ts (maybe_spaced apart (spelled (Coded c)) ++ source_behind (Coded c) ts) (source_behind (Coded c) ts)
word_source o s apart c ts is g gs nb =
    let code = good_word c g is in
    let f = coded_fronted c true is g in
    let is_ahead = word_fronts c code in
    let some = word_some c code in
    begins_coded o c ts (maybe_spaced apart (spelled (Coded c)) ++ source_behind (Coded c) ts) (word_text c ++ source_behind (Coded c) ts) (source_behind (Coded c) ts)
    (skip_spaced o s apart (spelled (Coded c)) (source_behind (Coded c) ts) f.blank f.some ∙ ap (λ (t : Text). t ++ source_behind (Coded c) ts) (spelled_word c is))
    (source_ahead o s (word_text c ++ source_behind (Coded c) ts) (c, source_behind (Coded c) ts) (typed_word c (source_behind (Coded c) ts) code (stops_behind c ts) (joins_listed c ts gs nb)))
    (longer (word_text c) (source_behind (Coded c) ts) some)
    (ap (λ (n : ℕ). n == 40) (first_more (word_text c) (source_behind (Coded c) ts) some) ∙ same_false (first (word_text c) == 40) (c == 40) is_ahead.opens (not_open c code))
    (ap (λ (n : ℕ). n == 41) (first_more (word_text c) (source_behind (Coded c) ts) some) ∙ same_false (first (word_text c) == 41) (c == 41) is_ahead.closes (not_close c code))
    (let_none o (word_text c ++ source_behind (Coded c) ts) (at_no_word (76 ∷ 69 ∷ 84 ∷ []) 0 c (source_behind (Coded c) ts) never_let code (not_null c code)))
    (beg_shown o source_behind (source_shown o) c ts gs nb)

-- short words
behind_short : (c : ℕ) (ts : List Token) → is_letter (upper (first (source_behind (Short c) ts))) ≡ false
unfolding source_behind
behind_short c ts = or_first (is_letter (upper (first (source_behind (Short c) ts)))) _ (stops_listed true false ts)

read_da : (o : Origin) → is_source o ≡ true → (y : Text) → is_letter (upper (first y)) ≡ false → short_stands o word.DA (68 ∷ 65 ∷ y) ≡ true
read_da Program s y stop = ap (λ (p : ℕ × Text). p.0 == 68 && begins_with (68 ∷ 65 ∷ []) (68 ∷ 65 ∷ y)) (typed_da y stop)
read_da Immediate s y stop = ap (λ (p : ℕ × Text). p.0 == 68 && begins_with (68 ∷ 65 ∷ []) (68 ∷ 65 ∷ y)) (typed_da y stop)
read_da Atoms s y stop = cc

read_ba : (o : Origin) → is_source o ≡ true → (y : Text) → is_letter (upper (first y)) ≡ false → short_stands o word.BA (66 ∷ 65 ∷ y) ≡ true
read_ba Program s y stop = ap (λ (p : ℕ × Text). p.0 == 66 && begins_with (66 ∷ 65 ∷ []) (66 ∷ 65 ∷ y)) (typed_ba y stop)
read_ba Immediate s y stop = ap (λ (p : ℕ × Text). p.0 == 66 && begins_with (66 ∷ 65 ∷ []) (66 ∷ 65 ∷ y)) (typed_ba y stop)
read_ba Atoms s y stop = cc

two_letters : (o : Origin) → is_source o ≡ true → (a b : ℕ) (y : Text) → drop (short_width o) (a ∷ b ∷ y) ≡ y
two_letters Program s a b y = refl
two_letters Immediate s a b y = refl
two_letters Atoms s a b y = cc

-- where a short word is spelled, it stands, and what follows it is left
abbrev Left : Origin → Text → ℕ → Type 0
Left o y c = (short_stands o c (short_text c ++ y) ≡ true) × (drop (short_width o) (short_text c ++ y) ≡ y)

short_left : (o : Origin) → is_source o ≡ true → (c : ℕ) (y : Text) → is_short c ≡ true → is_letter (upper (first y)) ≡ false → Left o y c
short_left o s c y h stop =
    of_short (λ d. Left o y d) (read_da o s y stop, two_letters o s 68 65 y) (read_ba o s y stop, two_letters o s 66 65 y) c h

short_source : (o : Origin) → is_source o ≡ true → (apart : Bool) (c : ℕ) (ts : List Token) → is_short c ≡ true
    → Begins o (Short c) ts (maybe_spaced apart (short_text c) ++ source_behind (Short c) ts) (source_behind (Short c) ts)
short_source o s apart c ts h =
    let f = short_fronted c h in
    let is = short_left o s c (source_behind (Short c) ts) h (behind_short c ts) in
    begins_short o c ts (maybe_spaced apart (short_text c) ++ source_behind (Short c) ts) (short_text c ++ source_behind (Short c) ts) (source_behind (Short c) ts)
    (skip_spaced o s apart (short_text c) (source_behind (Short c) ts) f.blank f.some) is.0 is.1 (longer (short_text c) (source_behind (Short c) ts) f.some)

-- signs and letters
letters_or_plain : every (λ c. is_letter c || is_plain_sign c) plain_signs ≡ true
letters_or_plain = refl

sign_ahead : (o : Origin) (c : ℕ) (ts : List Token) (b : Bool) → is_letter c ≡ b → (b || is_plain_sign c) ≡ true → AllGood ts → Neighbours (Coded c ∷ ts)
    → ahead o (c ∷ source_behind (Coded c) ts) ≡ (c, source_behind (Coded c) ts)
sign_ahead o c ts true is h gs nb = letter_ahead o source_behind (source_shown o) c ts is gs nb
sign_ahead o c ts false is h gs nb = ahead_plain o c (source_behind (Coded c) ts) h

sign_source : (o : Origin) → is_source o ≡ true → (apart : Bool) (c : ℕ) (ts : List Token) → is_word c ≡ false → good_token (Coded c) ≡ true → AllGood ts → Neighbours (Coded c ∷ ts)
    → Begins o (Coded c) ts (maybe_spaced apart (spelled (Coded c)) ++ source_behind (Coded c) ts) (source_behind (Coded c) ts)
sign_source o s apart c ts is g gs nb =
    let f = coded_fronted c false is g in
    let sign = good_sign c g is in
    begins_coded o c ts (maybe_spaced apart (spelled (Coded c)) ++ source_behind (Coded c) ts) (c ∷ source_behind (Coded c) ts) (source_behind (Coded c) ts)
    (skip_spaced o s apart (spelled (Coded c)) (source_behind (Coded c) ts) f.blank f.some ∙ ap (λ (t : Text). t ++ source_behind (Coded c) ts) (spelled_sign c is))
    (sign_ahead o c ts (is_letter c) refl (among_signs (λ c. is_letter c || is_plain_sign c) c plain_signs letters_or_plain sign) gs nb)
    (omega arith) refl refl
    (let_none o (c ∷ source_behind (Coded c) ts) (sign_absent (76 ∷ 69 ∷ 84 ∷ []) c (source_behind (Coded c) ts) refl sign))
    (beg_shown o source_behind (source_shown o) c ts gs nb)

coded_source : (o : Origin) → is_source o ≡ true → (apart : Bool) (c : ℕ) (ts : List Token) (b : Bool) → is_word c ≡ b → good_token (Coded c) ≡ true → AllGood ts → Neighbours (Coded c ∷ ts)
    → Begins o (Coded c) ts (maybe_spaced apart (spelled (Coded c)) ++ source_behind (Coded c) ts) (source_behind (Coded c) ts)
coded_source o s apart c ts true is g gs nb = word_source o s apart c ts is g gs nb
coded_source o s apart c ts false is g gs nb = sign_source o s apart c ts is g gs nb

-- what is typed by hand
kind_source : (o : Origin) → is_source o ≡ true → (apart : Bool) (k : Leaf) (w : Text) (ts : List Token) → is_text k ≡ false → is_whole k w ≡ true → AllGood ts → Neighbours (Plain k w ∷ ts)
    → Begins o (Plain k w) ts (maybe_spaced apart w ++ source_behind (Plain k w) ts) (source_behind (Plain k w) ts)
kind_source o s apart k [] ts n h gs nb = absurd (not_empty k h)
kind_source o s apart k (a ∷ w) ts n h gs nb =
    let f = plain_fronted k (a ∷ w) n h in
    begins_plain o k a w ts (maybe_spaced apart (a ∷ w) ++ source_behind (Plain k (a ∷ w)) ts) (source_behind (Plain k (a ∷ w)) ts)
    (skip_spaced o s apart (a ∷ w) (source_behind (Plain k (a ∷ w)) ts) f.blank f.some) (whole_width k a w n h)
    (leaf_ends o source_behind (source_shown o) k (a ∷ w) ts gs nb)

text_source : (o : Origin) (w : Text) (ts : List Token) → is_whole leaf.Text w ≡ true → Neighbours (Plain leaf.Text w ∷ ts)
    → Begins o (Plain leaf.Text w) ts (w ++ source_behind (Plain leaf.Text w) ts) (source_behind (Plain leaf.Text w) ts)
unfolding source_behind
text_source o [] ts h nb = cc
text_source o (a ∷ w) ts h nb =
    let last = text_last (a ∷ w) ts nb in
    let P : List Token → Type 0 = λ us. Begins o (Plain leaf.Text (a ∷ w)) ts (a ∷ (w ++ source_behind (Plain leaf.Text (a ∷ w)) us)) (source_behind (Plain leaf.Text (a ∷ w)) us) in
    let Q : Text → Type 0 = λ t. Begins o (Plain leaf.Text (a ∷ w)) ts t [] in
    subst P (sym last) (subst Q (sym (append-nil (a ∷ w))) (begins_text o a w ts (and_right (nat_lt 0 (length (a ∷ w))) (all_printable (a ∷ w)) h)))

plain_source : (o : Origin) → is_source o ≡ true → (apart : Bool) (k : Leaf) (w : Text) (ts : List Token) (b : Bool) → is_text k ≡ b → (b ≡ true → apart ≡ false)
    → is_whole k w ≡ true → AllGood ts → Neighbours (Plain k w ∷ ts)
    → Begins o (Plain k w) ts (maybe_spaced apart w ++ source_behind (Plain k w) ts) (source_behind (Plain k w) ts)
plain_source o s apart leaf.Text w ts b is near h gs nb =
    let P : Bool → Type 0 = λ x. Begins o (Plain leaf.Text w) ts (maybe_spaced x w ++ source_behind (Plain leaf.Text w) ts) (source_behind (Plain leaf.Text w) ts) in
    subst P (sym (near (sym is))) (text_source o w ts h nb)
plain_source o s apart k w ts true is near h gs nb = cc
plain_source o s apart k w ts false is near h gs nb = kind_source o s apart k w ts is h gs nb

-- line numbers
digit_line : (o : Origin) → is_source o ≡ true → (n : ℕ) → is_digit n ≡ true → is_line o n ≡ true
digit_line Program s n h = h
digit_line Immediate s n h = h
digit_line Atoms s n h = cc

typed_line : (o : Origin) → is_source o ≡ true → (high low : ℕ) (t y : Text) → ((code : ℕ) → typed_line_number o code t ≡ one (Lined high low) y) → (code : ℕ) → line_number_at o code t ≡ one (Lined high low) y
typed_line Program s high low t y h code = h code
typed_line Immediate s high low t y h code = h code
typed_line Atoms s high low t y h code = cc

shown_line : (o : Origin) → is_source o ≡ true → (w y : Text) → LineShown w → is_line o (ahead o (w ++ y)).0 ≡ true
shown_line o s w y sh =
    let P : Text → Type 0 = λ t. is_line o (ahead o (t ++ y)).0 ≡ true in
    subst P (sym sh.is)
    (ap (λ (p : ℕ × Text). is_line o p.0) (ahead_plain o sh.digit (sh.rest ++ y) (digit_plain sh.digit sh.good)) ∙ digit_line o s sh.digit sh.good)

line_source : (o : Origin) → is_source o ≡ true → (apart : Bool) (high low : ℕ) (ts : List Token) → good_token (Lined high low) ≡ true → AllGood ts → Neighbours (Lined high low ∷ ts)
    → Begins o (Lined high low) ts (maybe_spaced apart (spelled (Lined high low)) ++ source_behind (Lined high low) ts) (source_behind (Lined high low) ts)
line_source o s apart high low ts g gs nb =
    let sh = line_of high low g in
    let f = shown_fronted (spelled (Lined high low)) sh in
    begins_lined o high low ts (maybe_spaced apart (spelled (Lined high low)) ++ source_behind (Lined high low) ts) (spelled (Lined high low) ++ source_behind (Lined high low) ts)
    (source_behind (Lined high low) ts) (skip_spaced o s apart (spelled (Lined high low)) (source_behind (Lined high low) ts) f.blank f.some)
    (typed_line o s high low (spelled (Lined high low) ++ source_behind (Lined high low) ts) (source_behind (Lined high low) ts)
    (λ code. line_read o code high low (source_behind (Lined high low) ts) (and_left (is_decimal high) (is_decimal low) g) (and_right (is_decimal high) (is_decimal low) g)
    (line_ends o source_behind (source_shown o) high low ts gs nb)))
    (longer (spelled (Lined high low)) (source_behind (Lined high low) ts) f.some)
    (shown_line o s (spelled (Lined high low)) (source_behind (Lined high low) ts) sh)

-- free text stands after REM and `%`, which no blank follows
abbrev pub FreeFirst : Bool → Bool → List Token → Type 0
FreeFirst wordy operand [] = Unit {0}
FreeFirst wordy operand (u ∷ us) = is_free_text u ≡ true → (wordy ≡ false) × (operand ≡ false)

no_free_leaf : (k : Leaf) (w : Text) → may_follow_leaf k (Plain leaf.Text w) ≡ true → ⊥
no_free_leaf leaf.Number w h = cc
no_free_leaf leaf.SignedNumber w h = cc
no_free_leaf leaf.Name w h = cc
no_free_leaf leaf.LocalName w h = cc
no_free_leaf leaf.FunctionName w h = cc
no_free_leaf leaf.Slot w h = cc
no_free_leaf leaf.Small w h = cc
no_free_leaf leaf.Relation w h = cc
no_free_leaf leaf.Text w h = cc
no_free_leaf k w h = cc

abbrev NotApart : Token → Type 0
NotApart t = (ends_wordy t ≡ false) × (is_operand t ≡ false)

remark_or_image : (a b : Bool) (c : ℕ) → (c == word.REM) ≡ a → (c == 37) ≡ b → (a || b) ≡ true → NotApart (Coded c)
remark_or_image true b c ha hb h = subst (λ n. NotApart (Coded n)) (sym (equal c word.REM ha)) (refl, refl)
remark_or_image false true c ha hb h = subst (λ n. NotApart (Coded n)) (sym (equal c 37 hb)) (refl, refl)
remark_or_image false false c ha hb h = cc

free_code : (c : ℕ) (w : Text) (b : Bool) → (c == word.REM || c == 37) ≡ b → (if b then true else false) ≡ true → NotApart (Coded c)
free_code c w true is h = remark_or_image (c == word.REM) (c == 37) c refl refl is
free_code c w false is h = cc

free_behind : (t : Token) (w : Text) → may_follow t (Plain leaf.Text w) ≡ true → NotApart t
free_behind (Coded c) w h = free_code c w (c == word.REM || c == 37) refl h
free_behind (Short c) w h = cc
free_behind (Plain k v) w h = absurd (no_free_leaf k w h)
free_behind (Lined high low) w h = cc

free_kind : (t : Token) (k : Leaf) (w : Text) → may_follow t (Plain k w) ≡ true → is_free_text (Plain k w) ≡ true → NotApart t
free_kind t leaf.Text w h f = free_behind t w h
free_kind t k w h f = cc

free_after : (t u : Token) → may_follow t u ≡ true → is_free_text u ≡ true → NotApart t
free_after t (Coded c) h f = cc
free_after t (Short c) h f = cc
free_after t (Plain k w) h f = free_kind t k w h f
free_after t (Lined high low) h f = cc

free_next : (t : Token) (ts : List Token) → Neighbours (t ∷ ts) → FreeFirst (ends_wordy t) (is_operand t) ts
free_next t [] nb = tt
free_next t (u ∷ us) nb = λ f. free_after t u nb.0 f

free_text : (k : Leaf) (w : Text) → is_text k ≡ true → is_free_text (Plain k w) ≡ true
free_text leaf.Text w h = refl
free_text k w h = cc

joined_free : (wordy operand : Bool) (k : Leaf) (w : Text) → (wordy ≡ false) × (operand ≡ false) → is_apart wordy operand (Plain k w) ≡ false
joined_free wordy operand k w h = λ i. h.0 i && not (closes (Plain k w)) || (h.1 i && begins_wordy (Plain k w))

-- good tokens whose neighbours may stand side by side are spelled by what is listed
pub spells_source : (o : Origin) → is_source o ≡ true → (wordy operand : Bool) (ts : List Token) → AllGood ts → Neighbours ts → FreeFirst wordy operand ts → Spells o ts (listed wordy operand ts)
unfolding source_behind
spells_source o s wordy operand [] g nb f = refl
spells_source o s wordy operand (Coded c ∷ ts) g nb f = (
  source_behind (Coded c) ts,
  (
    coded_source o s (is_apart wordy operand (Coded c)) c ts (is_word c) refl g.0 g.1 nb,
    spells_source o s (ends_wordy (Coded c)) (is_operand (Coded c)) ts g.1 (later (Coded c) ts nb) (free_next (Coded c) ts nb),
  ),
)
spells_source o s wordy operand (Short c ∷ ts) g nb f = (
  source_behind (Short c) ts,
  (
    short_source o s (is_apart wordy operand (Short c)) c ts g.0,
    spells_source o s true false ts g.1 (later (Short c) ts nb) (free_next (Short c) ts nb),
  ),
)
spells_source o s wordy operand (Plain k w ∷ ts) g nb f = (
  source_behind (Plain k w) ts,
  (
    plain_source o s (is_apart wordy operand (Plain k w)) k w ts (is_text k) refl (λ h. joined_free wordy operand k w (f (free_text k w h))) g.0 g.1 nb,
    spells_source o s (ends_wordy (Plain k w)) (is_operand (Plain k w)) ts g.1 (later (Plain k w) ts nb) (free_next (Plain k w) ts nb),
  ),
)
spells_source o s wordy operand (Lined high low ∷ ts) g nb f = (
  source_behind (Lined high low) ts,
  (
    line_source o s (is_apart wordy operand (Lined high low)) high low ts g.0 g.1 nb,
    spells_source o s (ends_wordy (Lined high low)) (is_operand (Lined high low)) ts g.1 (later (Lined high low) ts nb) (free_next (Lined high low) ts nb),
  ),
)

at_front : (ts : List Token) → FreeFirst false false ts
at_front [] = tt
at_front (u ∷ us) = λ f. (refl, refl)

-- the canonical source of a line, as it is read for a program or at once
pub spells_listed : (ts : List Token) → AllGood ts → Neighbours ts → Spells Program ts (listed false false ts)
spells_listed ts g nb = spells_source Program refl false false ts g nb (at_front ts)

pub spells_immediate : (ts : List Token) → AllGood ts → Neighbours ts → Spells Immediate ts (listed false false ts)
spells_immediate ts g nb = spells_source Immediate refl false false ts g nb (at_front ts)
