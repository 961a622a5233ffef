-- What stands at a typed text: a word that nothing lengthens, or a byte where no word begins.
use Rattle.std.proofs.Common.{◌≡◌, ℕ, suc, ◌+◌, ◌-◌, ◌<◌, Bool, true, false, not, if◌then◌else◌, ◌==◌, ◌||◌, ◌&&◌, List, [], ◌∷◌, ◌++◌, length, drop, get_or, refl, sym, ap, ◌∙◌, arith, nat_le, nat_lt}
use Rattle.std.specs.Prelude.{codes}
use Rattle.std.proofs.Math.Seq.{drop-append_seam}
use Rattle.std.proofs.lemmas.Bool.Decides.{nat_tests}
use Rattle.b2_base.specs.Lexical.{first, is_letter, skip_blanks, upper}
use Rattle.b2_atom.specs.Words.{Text, begins_with, longest, better, all_words, word_text, word_at, typed_ahead, typed_by, longer_word}
use Rattle.b2_atom.specs.Tokens.{ends_wordy}
use Rattle.b2_atom.specs.Tokens.Token.{Coded}
use Rattle.b2_atom.specs.declared.words.TheConstants as word
use Rattle.b2_atom.proofs.Booleans.{and_left, and_right, false_true}
use Rattle.b2_atom.proofs.typed.Longest.{apart, every, Found, found, none, below, at_below, and_none, is_less, stopped}

-- a byte by which a word that ends in a letter may become another word
abbrev pub lengthens : ℕ → Bool
lengthens n = is_letter n || (n == 39 || n == 40)

-- a byte by which a word may become another
abbrev pub lengthens_word : ℕ → ℕ → Bool
lengthens_word c n = ends_wordy (Coded c) && lengthens n

-- a word of the table
abbrev pub is_code : ℕ → Bool
is_code c = nat_le 128 c && nat_le c word.LAST

all_found : below (λ i. Found (lengthens_word (i + 128)) all_words i) word.CODED ≡ true
all_found = refl

pub code_less : (c : ℕ) → is_code c ≡ true → c - 128 < word.CODED
code_less c h = grind (arith, nat_tests)

pub code_again : (c : ℕ) → is_code c ≡ true → c - 128 + 128 ≡ c
code_again c h = grind (arith, nat_tests)

-- the tests of the table after a word
word_test : ℕ → List Text → ℕ → Bool
word_test c ws i = Found (lengthens_word c) ws i

tested : (i : ℕ) → i < word.CODED → word_test (i + 128) all_words i ≡ true
unfolding word_test
tested i h = at_below (λ i. Found (lengthens_word (i + 128)) all_words i) word.CODED i all_found h

found_by : (c : ℕ) (ws : List Text) (i : ℕ) (x : Text) → lengthens_word c (upper (first x)) ≡ false → word_test c ws i ≡ true
    → longest ws (get_or ws i [] ++ x) (0, 0) 0 ≡ (length (get_or ws i []), i)
unfolding word_test
found_by c ws i x stop h = found (lengthens_word c) ws i x stop h

-- a word is the longest that begins where it is spelled
pub word_found : (c : ℕ) (x : Text) → is_code c ≡ true → lengthens_word c (upper (first x)) ≡ false
    → word_at (word_text c ++ x) ≡ (length (word_text c), c - 128)
unfolding word_at
word_found c x h stop =
    found_by c all_words (c - 128) x stop (ap (λ (d : ℕ). word_test d all_words (c - 128)) (sym (code_again c h)) ∙ tested (c - 128) (code_less c h))

-- whether blanks and a further word make another word of DATA or PRINT
abbrev pub joins : ℕ → Text → Bool
joins c x =
    (c == word.DATA && begins_with (codes "SAVE") (skip_blanks x))
    || ((c == word.DATA && begins_with (codes "LOAD") (skip_blanks x)) || (c == word.PRINT && begins_with (codes "USING") (skip_blanks x)))

none_joined : {A : Type 0} (a b c : Bool) (x y z w : A) → (a || (b || c)) ≡ false → (if a then x else (if b then y else (if c then z else w))) ≡ w
none_joined true b c x y z w h = cc
none_joined false true c x y z w h = cc
none_joined false false true x y z w h = cc
none_joined false false false x y z w h = refl

alone : (c : ℕ) (x : Text) → joins c x ≡ false → longer_word c x ≡ (c, x)
alone c x h =
    none_joined (c == word.DATA && begins_with (codes "SAVE") (skip_blanks x)) (c == word.DATA && begins_with (codes "LOAD") (skip_blanks x))
    (c == word.PRINT && begins_with (codes "USING") (skip_blanks x))
    (word.DATASAVE, drop 4 (skip_blanks x)) (word.DATALOAD, drop 4 (skip_blanks x)) (word.PRINTUSING, drop 5 (skip_blanks x)) (c, x) h

by_word : (n i c : ℕ) (w x : Text) → length w ≡ n → 0 < n → i < word.CODED → i + 128 ≡ c → joins c x ≡ false → typed_by (n, i) (w ++ x) ≡ (c, x)
by_word n i c w x long some less is stop =
    let one : (n == 0) ≡ false = grind (arith, nat_tests) in
    let two : nat_le word.CODED i ≡ false = grind (arith, nat_tests) in
    rw one (rw two (rw (← long) (rw (drop-append_seam w x) (rw is (alone c x stop)))))

some_word : below (λ i. nat_lt 0 (length (get_or all_words i []))) word.CODED ≡ true
some_word = refl

pub word_some : (c : ℕ) → is_code c ≡ true → 0 < length (word_text c)
word_some c h = is_less 0 (length (word_text c)) (at_below (λ i. nat_lt 0 (length (get_or all_words i []))) word.CODED (c - 128) some_word (code_less c h))

-- what stands where a word is spelled
pub typed_word : (c : ℕ) (x : Text) → is_code c ≡ true → lengthens_word c (upper (first x)) ≡ false → joins c x ≡ false
    → typed_ahead (word_text c ++ x) ≡ (c, x)
typed_word c x h stop single =
    ap (λ (best : ℕ × ℕ). typed_by best (word_text c ++ x)) (word_found c x h stop)
    ∙ by_word (length (word_text c)) (c - 128) c (word_text c) x refl (word_some c h) (code_less c h) (code_again c h) single

-- what a byte at which no word begins is read as
typed_byte : (b : ℕ) (x : Text) → word_at (b ∷ x) ≡ (0, 0) → typed_ahead (b ∷ x) ≡ (upper b, x)
typed_byte b x h = ap (λ (best : ℕ × ℕ). typed_by best (b ∷ x)) h

-- each word begins with a letter, `$`, `#` or `@`, and goes on with a letter; after `@` with two
abbrev pub begins_word : ℕ → Bool
begins_word b = is_letter b || (b == 36 || (b == 35 || b == 64))

abbrev shaped : Text → Bool
shaped v = begins_word (first v) && (is_letter (get_or v 1 0) && (not (first v == 64) || is_letter (get_or v 2 0)))

all_shaped : every shaped all_words ≡ true
all_shaped = refl

not_here : (v t : Text) (at : ℕ) → begins_with v t ≡ false → better (0, 0) v t at ≡ (0, 0)
not_here v t at h = rw h (rw (and_none (nat_lt 0 (length v))) refl)

no_words : (ws : List Text) (t : Text) (at : ℕ) → every shaped ws ≡ true → ((v : Text) → shaped v ≡ true → begins_with v t ≡ false) → longest ws t (0, 0) at ≡ (0, 0)
no_words [] t at h never = refl
no_words (v ∷ ws) t at h never =
    ap (λ (b : ℕ × ℕ). longest ws t b (suc at)) (not_here v t at (never v (and_left (shaped v) _ h)))
    ∙ no_words ws t (suc at) (and_right (shaped v) _ h) never

no_word : (t : Text) → ((v : Text) → shaped v ≡ true → begins_with v t ≡ false) → word_at t ≡ (0, 0)
unfolding word_at
no_word t never = no_words all_words t 0 all_shaped never

no_first : (b : ℕ) (x v : Text) → begins_word (upper b) ≡ false → shaped v ≡ true → begins_with v (b ∷ x) ≡ false
no_first b x [] h k = cc
no_first b x (c ∷ v) h k = stopped begins_word c (upper b) (c == upper b) (begins_with v x) refl h (and_left (begins_word c) _ k)

pub letter_stops : (c : ℕ) (v x : Text) → is_letter c ≡ true → is_letter (upper (first x)) ≡ false → begins_with (c ∷ v) x ≡ false
letter_stops c v [] k h = refl
letter_stops c v (b ∷ x) k h = stopped is_letter c (upper b) (c == upper b) (begins_with v x) refl h k

pub and_false : (a b : Bool) → b ≡ false → (a && b) ≡ false
and_false true b h = h
and_false false b h = refl

no_second : (b : ℕ) (x v : Text) → is_letter (upper (first x)) ≡ false → shaped v ≡ true → begins_with v (b ∷ x) ≡ false
no_second b x [] h k = cc
no_second b x (c ∷ []) h k = absurd (false_true (and_right (begins_word c) false k))
no_second b x (c ∷ d ∷ v) h k =
    and_false (c == upper b) (begins_with (d ∷ v) x)
    (letter_stops d v x (and_left (is_letter d) _ (and_right (begins_word c) _ k)) h)

third_letter : (c e : ℕ) (v : Text) → (c == 64) ≡ true → (not (c == 64) || is_letter e) ≡ true → is_letter e ≡ true
third_letter c e v is h = rw is at h

no_third_of : (c d : ℕ) (v : Text) (y : ℕ) (x : Text) (at : Bool) → (c == 64) ≡ at → is_letter (upper (first x)) ≡ false
    → (not at || is_letter (get_or v 0 0)) ≡ true → (at && (d == upper y && begins_with v x)) ≡ false
no_third_of c d v y x false is h k = refl
no_third_of c d [] y x true is h k = cc
no_third_of c d (e ∷ v) y x true is h k = and_false (d == upper y) (begins_with (e ∷ v) x) (letter_stops e v x k h)

no_third : (y : ℕ) (x v : Text) → is_letter (upper (first x)) ≡ false → shaped v ≡ true → begins_with v (64 ∷ y ∷ x) ≡ false
no_third y x [] h k = cc
no_third y x (c ∷ []) h k = absurd (false_true (and_right (begins_word c) false k))
no_third y x (c ∷ d ∷ v) h k = no_third_of c d v y x (c == 64) refl h (and_right (is_letter d) _ (and_right (begins_word c) _ k))

-- a byte that begins no word
pub typed_sign : (b : ℕ) (x : Text) → begins_word (upper b) ≡ false → typed_ahead (b ∷ x) ≡ (upper b, x)
typed_sign b x h = typed_byte b x (no_word (b ∷ x) (λ v k. no_first b x v h k))

-- a byte before what is no letter
pub typed_letter : (b : ℕ) (x : Text) → is_letter (upper (first x)) ≡ false → typed_ahead (b ∷ x) ≡ (upper b, x)
typed_letter b x h = typed_byte b x (no_word (b ∷ x) (λ v k. no_second b x v h k))

-- `@` and a byte before what is no letter
pub typed_global : (y : ℕ) (x : Text) → is_letter (upper (first x)) ≡ false → typed_ahead (64 ∷ y ∷ x) ≡ (64, y ∷ x)
typed_global y x h = typed_byte 64 (y ∷ x) (no_word (64 ∷ y ∷ x) (λ v k. no_third y x v h k))

-- nothing stands at the end
pub typed_end : typed_ahead [] ≡ (0, [])
unfolding word_at
typed_end = refl

-- two bytes with which no word begins
no_pair : (a b : ℕ) (x : Text) → every (λ v. apart (λ n. false) v (a ∷ b ∷ [])) all_words ≡ true → word_at (a ∷ b ∷ x) ≡ (0, 0)
unfolding word_at
no_pair a b x h = none (λ n. false) all_words (a ∷ b ∷ []) x (0, 0) 0 refl h

-- two bytes with which no word begins, where no letter follows them
pair_alone : (a b : ℕ) (x : Text) → is_letter (upper (first x)) ≡ false → every (λ v. apart is_letter v (a ∷ b ∷ [])) all_words ≡ true → word_at (a ∷ b ∷ x) ≡ (0, 0)
unfolding word_at
pair_alone a b x stop h = none is_letter all_words (a ∷ b ∷ []) x (0, 0) 0 stop h

-- the letters of the short words
pub typed_da : (x : Text) → is_letter (upper (first x)) ≡ false → typed_ahead (68 ∷ 65 ∷ x) ≡ (68, 65 ∷ x)
typed_da x stop = typed_byte 68 (65 ∷ x) (pair_alone 68 65 x stop refl)

pub typed_ba : (x : Text) → is_letter (upper (first x)) ≡ false → typed_ahead (66 ∷ 65 ∷ x) ≡ (66, 65 ∷ x)
typed_ba x stop = typed_byte 66 (65 ∷ x) (pair_alone 66 65 x stop refl)

-- the letters of BEG
pub typed_b : (x : Text) → typed_ahead (66 ∷ 69 ∷ x) ≡ (66, 69 ∷ x)
typed_b x = typed_byte 66 (69 ∷ x) (no_pair 66 69 x refl)

pub typed_e : (x : Text) → typed_ahead (69 ∷ 71 ∷ x) ≡ (69, 71 ∷ x)
typed_e x = typed_byte 69 (71 ∷ x) (no_pair 69 71 x refl)
