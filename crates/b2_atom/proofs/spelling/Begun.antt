-- A text that begins with a token that is typed by hand, a word, a sign or a line number.
use Rattle.std.proofs.Common.{◌≡◌, ℕ, suc, ◌+◌, ◌-◌, ◌<◌, Bool, true, false, not, if◌then◌else◌, ◌==◌, ◌&&◌, List, [], ◌∷◌, ◌++◌, length, get_or, drop, refl, sym, ap, subst, ◌∙◌, arith, nat_le, nat_lt, length-append, inl, inr, ◌⊎◌, Err}
use Rattle.std.proofs.Math.Seq.{drop-append_seam}
use Rattle.std.proofs.lemmas.Bool.Decides.{nat_tests}
use Rattle.b2_base.specs.Lexical.{capped_value, digits_width, first, is_digit, is_hex_digit, is_letter, upper}
use Rattle.b2_atom.specs.Words.{Text, kept_byte, ahead, skipped, begins_with, short_stands, short_width}
use Rattle.b2_atom.specs.Tokens.{Token}
use Rattle.b2_atom.specs.Tokens.Token.{Coded, Short, Plain, Lined}
use Rattle.b2_atom.specs.Tree.{one}
use Rattle.b2_atom.specs.Leaves.{name_width, is_alpha_name, leaf_width, refused}
use Rattle.b2_atom.specs.Grammar.{read_leaf, short_word, short_word_at, plain, line_number_at, begins_let, spelled_after, is_line}
use Rattle.b2_atom.specs.Spelling.{Begins, is_classed, is_beg, here, Named, ShowsName, ShowsHex}
use Rattle.b2_atom.specs.declared.words.Origin.{Origin}
use Rattle.b2_atom.specs.declared.words.Origin.TheVariants.{Program, Immediate, Atoms}
use Rattle.b2_atom.specs.declared.forms.Leaf.{Leaf}
use Rattle.b2_atom.specs.declared.forms.Leaf.TheVariants as leaf
use Rattle.b2_atom.proofs.Booleans.{and_left, and_right, false_true, not_true}
use Rattle.b2_atom.proofs.typed.WordsRead.{begins_word, and_false}
use Rattle.b2_atom.proofs.typed.Keywords.{is_keyword, not_before_sign, not_at_sign}
use Rattle.b2_atom.proofs.typed.Names.{NameShape, numeric_shape, numeric_read, local_shape, alpha_shape, alpha_read, ahead_sign, ahead_letter, digit_upper}
use Rattle.b2_atom.proofs.typed.Characters.{hex_kept, function_of, is_function_name, function_ahead}
use Rattle.b2_atom.proofs.typed.LeavesRead.{ends, leaf_read, name_digit, name_letter, name_dollar, dollar_before, dollar_long}
use Rattle.b2_atom.proofs.typed.LeafStarts.{front, leaf_front, width_yes}
use Rattle.b2_atom.proofs.typed.CleanLeaves.{whole_upper}
use Rattle.b2_atom.proofs.typed.Widths.{get_first}

-- a byte that is no letter, or one after it that is none
abbrev pub Quiet : ℕ → Text → Type 0
Quiet a z = (is_letter (upper a) ≡ false) ⊎ (is_letter (upper (first z)) ≡ false)

-- signs and digits that begin no word
abbrev pub is_plain_sign : ℕ → Bool
is_plain_sign a = not (is_letter (upper a)) && (not (begins_word a) && upper a == a)

sign_quiet : (a : ℕ) → is_plain_sign a ≡ true → is_letter (upper a) ≡ false
sign_quiet a h = grind (arith, nat_tests)

sign_word : (a : ℕ) → is_plain_sign a ≡ true → begins_word a ≡ false
sign_word a h = grind (arith, nat_tests)

sign_upper : (a : ℕ) → is_plain_sign a ≡ true → upper a ≡ a
sign_upper a h = grind (arith, nat_tests)

number_sign : (a : ℕ) → front leaf.Number a ≡ true → is_plain_sign a ≡ true
number_sign a h = grind (arith, nat_tests)

signed_sign : (a : ℕ) → front leaf.SignedNumber a ≡ true → is_plain_sign a ≡ true
signed_sign a h = grind (arith, nat_tests)

literal_sign : (a : ℕ) → front leaf.Literal a ≡ true → is_plain_sign a ≡ true
literal_sign a h = grind (arith, nat_tests)

small_sign : (a : ℕ) → front leaf.Small a ≡ true → is_plain_sign a ≡ true
small_sign a h = grind (arith, nat_tests)

relation_sign : (a : ℕ) → front leaf.Relation a ≡ true → is_plain_sign a ≡ true
relation_sign a h = grind (arith, nat_tests)

pub ahead_plain : (o : Origin) (a : ℕ) (z : Text) → is_plain_sign a ≡ true → ahead o (a ∷ z) ≡ (a, z)
ahead_plain o a z h = ahead_sign o a z (sign_upper a h) (sign_word a h)

global_quiet : (a : ℕ) → a ≡ 64 → is_letter (upper a) ≡ false
global_quiet a h = ap (λ (n : ℕ). is_letter (upper n)) h

name_quiet : (a : ℕ) (w y : Text) → NameShape (a ∷ w) → is_letter (upper (first y)) ≡ false → Quiet a (w ++ y)
name_quiet a [] y h stop = inr stop
name_quiet a (b ∷ []) y (inl h) stop = inr (digit_upper b h.1)
name_quiet a (b ∷ []) y (inr h) stop = inl (global_quiet a h.0)
name_quiet a (b ∷ c ∷ []) y h stop = inl (global_quiet a h.0)
name_quiet a (b ∷ c ∷ d ∷ w) y h stop = absurd h

-- digits after `#`
some_digit : (d : Bool) (n : ℕ) → nat_lt 0 (if d then n else 0) ≡ true → d ≡ true
some_digit true n h = refl
some_digit false n h = cc

slot_digit : (a : ℕ) (w y : Text) → leaf_width Atoms leaf.Slot (a ∷ w) ≡ suc (length w) → is_letter (upper (first (w ++ y))) ≡ false
slot_digit a [] y h = absurd (false_true (and_right (a == 35) false (width_yes (a == 35 && false) 1 0 h).0))
slot_digit a (b ∷ w) y h =
    let is = (width_yes (a == 35 && (nat_lt 0 (digits_width (b ∷ w)) && nat_le (capped_value 999 0 (b ∷ w)) 15)) (digits_width (b ∷ w) + 1) (suc (length w)) h).0 in
    let some = and_left (nat_lt 0 (digits_width (b ∷ w))) _ (and_right (a == 35) _ is) in
    digit_upper b (some_digit (is_digit b) (suc (digits_width w)) some)

function_quiet : (a : ℕ) (w y : Text) → leaf_width Atoms leaf.FunctionName (a ∷ w) ≡ suc (length w) → is_letter (upper (first y)) ≡ false → is_letter (upper (first (w ++ y))) ≡ false
function_quiet a [] y h stop = stop
function_quiet a (b ∷ w) y h stop = let is = (function_of (is_function_name a) (suc (length w)) h).1 in absurd (omega arith)

slot_sign : (a : ℕ) → (a == 35) ≡ true → is_letter (upper a) ≡ false
slot_sign a h = grind (arith, nat_tests)

slot_upper : (a : ℕ) → (a == 35) ≡ true → upper a ≡ a
slot_upper a h = grind (arith, nat_tests)

pub leaf_quiet : (k : Leaf) (a : ℕ) (w y : Text) → is_classed k ≡ true → leaf_width Atoms k (a ∷ w) ≡ suc (length w) → ends k (first y) ≡ true → Quiet a (w ++ y)
leaf_quiet leaf.Number a w y c h stop = inl (sign_quiet a (number_sign a (leaf_front leaf.Number a w h)))
leaf_quiet leaf.SignedNumber a w y c h stop = inl (sign_quiet a (signed_sign a (leaf_front leaf.SignedNumber a w h)))
leaf_quiet leaf.Name a w y c h stop = name_quiet a w y (numeric_shape a w h) (name_letter (first y) stop)
leaf_quiet leaf.AlphaName a w y c h stop =
    let s = alpha_shape a w h in
    let P : Text → Type 0 = λ t. Quiet (first t) (drop 1 t) in
    subst P (sym (dollar_before a w s.head s.rest y s.is)) (name_quiet s.head s.rest (36 ∷ y) s.shape refl)
leaf_quiet leaf.LocalName a w y c h stop = name_quiet a w y (local_shape a w h).1 (name_letter (first y) stop)
leaf_quiet leaf.FunctionName a w y c h stop = inr (function_quiet a w y h (not_true (is_letter (upper (first y))) stop))
leaf_quiet leaf.Literal a w y c h stop = inl (sign_quiet a (literal_sign a (leaf_front leaf.Literal a w h)))
leaf_quiet leaf.LineNumber a w y c h stop = cc
leaf_quiet leaf.HexPair a w y c h stop = cc
leaf_quiet leaf.HexDigit a w y c h stop = cc
leaf_quiet leaf.Address a w y c h stop = cc
leaf_quiet leaf.Slot a w y c h stop = inl (slot_sign a (leaf_front leaf.Slot a w h))
leaf_quiet leaf.Small a w y c h stop = inl (sign_quiet a (small_sign a (leaf_front leaf.Small a w h)))
leaf_quiet leaf.Image a w y c h stop = cc
leaf_quiet leaf.Text a w y c h stop = cc
leaf_quiet leaf.Relation a w y c h stop = inl (sign_quiet a (relation_sign a (leaf_front leaf.Relation a w h)))

pub leaf_ahead : (o : Origin) (k : Leaf) (a : ℕ) (w y : Text) → is_classed k ≡ true → leaf_width Atoms k (a ∷ w) ≡ suc (length w) → ends k (first y) ≡ true
    → ahead o (a ∷ (w ++ y)) ≡ (a, w ++ y)
leaf_ahead o leaf.Number a w y c h stop = ahead_plain o a (w ++ y) (number_sign a (leaf_front leaf.Number a w h))
leaf_ahead o leaf.SignedNumber a w y c h stop = ahead_plain o a (w ++ y) (signed_sign a (leaf_front leaf.SignedNumber a w h))
leaf_ahead o leaf.Name a w y c h stop = (numeric_read o a w y (numeric_shape a w h) (name_digit (first y) stop) (name_letter (first y) stop) (name_dollar (first y) stop)).whole
leaf_ahead o leaf.AlphaName a w y c h stop =
    let s = alpha_shape a w h in
    let P : Text → Type 0 = λ t. ahead o t ≡ (first t, drop 1 t) in
    subst P (sym (dollar_before a w s.head s.rest y s.is)) (alpha_read o s.head s.rest y s.shape).whole
leaf_ahead o leaf.LocalName a w y c h stop =
    (numeric_read o a w y (local_shape a w h).1 (name_digit (first y) stop) (name_letter (first y) stop) (name_dollar (first y) stop)).whole
leaf_ahead o leaf.FunctionName a w y c h stop =
    function_ahead o a (w ++ y) (leaf_front leaf.FunctionName a w h) (function_quiet a w y h (not_true (is_letter (upper (first y))) stop))
leaf_ahead o leaf.Literal a w y c h stop = ahead_plain o a (w ++ y) (literal_sign a (leaf_front leaf.Literal a w h))
leaf_ahead o leaf.LineNumber a w y c h stop = cc
leaf_ahead o leaf.HexPair a w y c h stop = cc
leaf_ahead o leaf.HexDigit a w y c h stop = cc
leaf_ahead o leaf.Address a w y c h stop = cc
leaf_ahead o leaf.Slot a w y c h stop = ahead_letter o a (w ++ y) (slot_upper a (leaf_front leaf.Slot a w h)) (slot_digit a w y h)
leaf_ahead o leaf.Small a w y c h stop = ahead_plain o a (w ++ y) (small_sign a (leaf_front leaf.Small a w h))
leaf_ahead o leaf.Image a w y c h stop = cc
leaf_ahead o leaf.Text a w y c h stop = cc
leaf_ahead o leaf.Relation a w y c h stop = ahead_plain o a (w ++ y) (relation_sign a (leaf_front leaf.Relation a w h))

-- no blank and no parenthesis stands at the front of what is typed by hand, but for images
pub front_no_blank : (k : Leaf) (a : ℕ) → front k a ≡ true → (a == 32) ≡ false
front_no_blank leaf.Number a h = grind (arith, nat_tests)
front_no_blank leaf.SignedNumber a h = grind (arith, nat_tests)
front_no_blank leaf.Name a h = grind (arith, nat_tests)
front_no_blank leaf.AlphaName a h = grind (arith, nat_tests)
front_no_blank leaf.LocalName a h = grind (arith, nat_tests)
front_no_blank leaf.FunctionName a h = grind (arith, nat_tests)
front_no_blank leaf.Literal a h = grind (arith, nat_tests)
front_no_blank leaf.LineNumber a h = cc
front_no_blank leaf.HexPair a h = grind (arith, nat_tests)
front_no_blank leaf.HexDigit a h = grind (arith, nat_tests)
front_no_blank leaf.Address a h = grind (arith, nat_tests)
front_no_blank leaf.Slot a h = grind (arith, nat_tests)
front_no_blank leaf.Small a h = grind (arith, nat_tests)
front_no_blank leaf.Image a h = grind (arith, nat_tests)
front_no_blank leaf.Text a h = cc
front_no_blank leaf.Relation a h = grind (arith, nat_tests)

front_opens : (k : Leaf) (a : ℕ) → is_classed k ≡ true → front k a ≡ true → (a == 40) ≡ false
front_opens leaf.Number a c h = grind (arith, nat_tests)
front_opens leaf.SignedNumber a c h = grind (arith, nat_tests)
front_opens leaf.Name a c h = grind (arith, nat_tests)
front_opens leaf.AlphaName a c h = grind (arith, nat_tests)
front_opens leaf.LocalName a c h = grind (arith, nat_tests)
front_opens leaf.FunctionName a c h = grind (arith, nat_tests)
front_opens leaf.Literal a c h = grind (arith, nat_tests)
front_opens leaf.LineNumber a c h = cc
front_opens leaf.HexPair a c h = cc
front_opens leaf.HexDigit a c h = cc
front_opens leaf.Address a c h = cc
front_opens leaf.Slot a c h = grind (arith, nat_tests)
front_opens leaf.Small a c h = grind (arith, nat_tests)
front_opens leaf.Image a c h = cc
front_opens leaf.Text a c h = cc
front_opens leaf.Relation a c h = grind (arith, nat_tests)

front_closes : (k : Leaf) (a : ℕ) → is_classed k ≡ true → front k a ≡ true → (a == 41) ≡ false
front_closes leaf.Number a c h = grind (arith, nat_tests)
front_closes leaf.SignedNumber a c h = grind (arith, nat_tests)
front_closes leaf.Name a c h = grind (arith, nat_tests)
front_closes leaf.AlphaName a c h = grind (arith, nat_tests)
front_closes leaf.LocalName a c h = grind (arith, nat_tests)
front_closes leaf.FunctionName a c h = grind (arith, nat_tests)
front_closes leaf.Literal a c h = grind (arith, nat_tests)
front_closes leaf.LineNumber a c h = cc
front_closes leaf.HexPair a c h = cc
front_closes leaf.HexDigit a c h = cc
front_closes leaf.Address a c h = cc
front_closes leaf.Slot a c h = grind (arith, nat_tests)
front_closes leaf.Small a c h = grind (arith, nat_tests)
front_closes leaf.Image a c h = cc
front_closes leaf.Text a c h = cc
front_closes leaf.Relation a c h = grind (arith, nat_tests)

-- what isn't kept in a source: LET
pub quiet_keyword : (v : Text) (a : ℕ) (z : Text) → is_keyword v ≡ true → Quiet a z → begins_with v (a ∷ z) ≡ false
quiet_keyword v a z k (inl h) = not_at_sign v (a ∷ z) k h
quiet_keyword v a z k (inr h) = not_before_sign v a z k h

pub let_none : (o : Origin) (t : Text) → begins_with (76 ∷ 69 ∷ 84 ∷ []) t ≡ false → begins_let o t ≡ false
let_none Program t h = h
let_none Immediate t h = h
let_none Atoms t h = refl

pub quiet_let : (o : Origin) (a : ℕ) (z : Text) → Quiet a z → begins_let o (a ∷ z) ≡ false
quiet_let o a z q = let_none o (a ∷ z) (quiet_keyword (76 ∷ 69 ∷ 84 ∷ []) a z refl q)

-- no letter E, in either case
pub no_e : (o : Origin) (n : ℕ) → is_letter (upper n) ≡ false → (kept_byte o n == 69) ≡ false
no_e Program n h = grind (arith, nat_tests)
no_e Immediate n h = grind (arith, nat_tests)
no_e Atoms n h = grind (arith, nat_tests)

no_b : (a : ℕ) → is_letter (upper a) ≡ false → (a == 66) ≡ false
no_b a h = grind (arith, nat_tests)

pub quiet_beg : (o : Origin) (a : ℕ) (z : Text) → Quiet a z → (a == 66 && spelled_after o z 69 71) ≡ false
quiet_beg o a z (inl h) = ap (λ (b : Bool). b && spelled_after o z 69 71) (no_b a h)
quiet_beg o a z (inr h) =
    let e : (kept_byte o (get_or z 0 0) == 69) ≡ false = ap (λ (n : ℕ). kept_byte o n == 69) (get_first z) ∙ no_e o (first z) h in
    and_false (a == 66) (spelled_after o z 69 71) (ap (λ (b : Bool). b && kept_byte o (get_or z 1 0) == 71) e)

-- what the reader shows of a whole leaf
read_whole : (o : Origin) (k : Leaf) (code a : ℕ) (w s y : Text) → skipped o s ≡ a ∷ (w ++ y) → leaf_width Atoms k (a ∷ w) ≡ suc (length w) → ends k (first y) ≡ true
    → plain o k code (skipped o s) ≡ one (Plain k (a ∷ w)) y
read_whole o k code a w s y e h stop = ap (plain o k code) e ∙ leaf_read o k code a w y h (whole_upper k a w h) stop

long_enough : (a : ℕ) (w y : Text) → length y < length (a ∷ (w ++ y))
long_enough a w y = omega (arith, length-append w y)

shorter_by : (t y : Text) (a : ℕ) (w : Text) → t ≡ a ∷ (w ++ y) → length y < length t
shorter_by t y a w e = let P : Text → Type 0 = λ u. length y < length u in subst P (sym e) (long_enough a w y)

behind_by : (t y : Text) (a : ℕ) (w : Text) → t ≡ a ∷ (w ++ y) → drop (length (a ∷ w)) t ≡ y
behind_by t y a w e = ap (drop (length (a ∷ w))) e ∙ drop-append_seam (a ∷ w) y

numeric_named : (o : Origin) (a : ℕ) (w s y : Text) → skipped o s ≡ a ∷ (w ++ y) → NameShape (a ∷ w) → ends leaf.Name (first y) ≡ true
    → Named o false (length (a ∷ w)) (a ∷ w) (skipped o s) y
numeric_named o a w s y e shape stop =
    let is = numeric_read o a w y shape (name_digit (first y) stop) (name_letter (first y) stop) (name_dollar (first y) stop) in
    record { alpha = ap (is_alpha_name o) e ∙ is.alpha; width_is = ap (name_width o) e ∙ is.name; behind = behind_by (skipped o s) y a w e }

less_one : (n m : ℕ) → suc n + 1 ≡ suc m → suc n ≡ suc m - 1
less_one n m h = omega arith

alpha_named : (o : Origin) (a : ℕ) (w s y : Text) → skipped o s ≡ a ∷ (w ++ y) → leaf_width Atoms leaf.AlphaName (a ∷ w) ≡ suc (length w)
    → Named o true (length (a ∷ w) - 1) (a ∷ w) (skipped o s) y
alpha_named o a w s y e h =
    let p = alpha_shape a w h in
    let is = alpha_read o p.head p.rest y p.shape in
    let t = e ∙ dollar_before a w p.head p.rest y p.is in
    record {
      alpha = ap (is_alpha_name o) t ∙ is.alpha;
      width_is = ap (name_width o) t ∙ is.name ∙ less_one (length p.rest) (length w) (dollar_long a w p.head p.rest p.is);
      behind = behind_by (skipped o s) y a w e;
    }

hex_shown : (o : Origin) (a : ℕ) (w s y : Text) → skipped o s ≡ a ∷ (w ++ y) → is_hex_digit a ≡ true → is_hex_digit (kept_byte o (first (skipped o s))) ≡ true
hex_shown o a w s y e h = ap (λ (t : Text). is_hex_digit (kept_byte o (first t))) e ∙ ap is_hex_digit (hex_kept o a h) ∙ h

reads_by_kind : (o : Origin) (k : Leaf) (a : ℕ) (w s y : Text) → skipped o s ≡ a ∷ (w ++ y) → leaf_width Atoms k (a ∷ w) ≡ suc (length w) → ends k (first y) ≡ true
    → (code : ℕ) → read_leaf o k code s ≡ one (Plain k (a ∷ w)) y
unfolding read_leaf
reads_by_kind o leaf.Number a w s y e h stop code = read_whole o leaf.Number code a w s y e h stop
reads_by_kind o leaf.SignedNumber a w s y e h stop code = read_whole o leaf.SignedNumber code a w s y e h stop
reads_by_kind o leaf.Name a w s y e h stop code = read_whole o leaf.Name code a w s y e h stop
reads_by_kind o leaf.AlphaName a w s y e h stop code = read_whole o leaf.AlphaName code a w s y e h stop
reads_by_kind o leaf.LocalName a w s y e h stop code = read_whole o leaf.LocalName code a w s y e h stop
reads_by_kind o leaf.FunctionName a w s y e h stop code = read_whole o leaf.FunctionName code a w s y e h stop
reads_by_kind o leaf.Literal a w s y e h stop code = read_whole o leaf.Literal code a w s y e h stop
reads_by_kind o leaf.LineNumber a w s y e h stop code = cc
reads_by_kind o leaf.HexPair a w s y e h stop code = read_whole o leaf.HexPair code a w s y e h stop
reads_by_kind o leaf.HexDigit a w s y e h stop code = read_whole o leaf.HexDigit code a w s y e h stop
reads_by_kind o leaf.Address a w s y e h stop code = read_whole o leaf.Address code a w s y e h stop
reads_by_kind o leaf.Slot a w s y e h stop code = read_whole o leaf.Slot code a w s y e h stop
reads_by_kind o leaf.Small a w s y e h stop code = read_whole o leaf.Small code a w s y e h stop
reads_by_kind o leaf.Image a w s y e h stop code = read_whole o leaf.Image code a w s y e h stop
reads_by_kind o leaf.Text a w s y e h stop code = cc
reads_by_kind o leaf.Relation a w s y e h stop code = read_whole o leaf.Relation code a w s y e h stop

shorter_by_kind : (o : Origin) (k : Leaf) (a : ℕ) (w s y : Text) → skipped o s ≡ a ∷ (w ++ y) → leaf_width Atoms k (a ∷ w) ≡ suc (length w)
    → length y < length (here o (Plain k (a ∷ w)) s)
shorter_by_kind o leaf.Number a w s y e h = shorter_by (skipped o s) y a w e
shorter_by_kind o leaf.SignedNumber a w s y e h = shorter_by (skipped o s) y a w e
shorter_by_kind o leaf.Name a w s y e h = shorter_by (skipped o s) y a w e
shorter_by_kind o leaf.AlphaName a w s y e h = shorter_by (skipped o s) y a w e
shorter_by_kind o leaf.LocalName a w s y e h = shorter_by (skipped o s) y a w e
shorter_by_kind o leaf.FunctionName a w s y e h = shorter_by (skipped o s) y a w e
shorter_by_kind o leaf.Literal a w s y e h = shorter_by (skipped o s) y a w e
shorter_by_kind o leaf.LineNumber a w s y e h = shorter_by (skipped o s) y a w e
shorter_by_kind o leaf.HexPair a w s y e h = shorter_by (skipped o s) y a w e
shorter_by_kind o leaf.HexDigit a w s y e h = shorter_by (skipped o s) y a w e
shorter_by_kind o leaf.Address a w s y e h = shorter_by (skipped o s) y a w e
shorter_by_kind o leaf.Slot a w s y e h = shorter_by (skipped o s) y a w e
shorter_by_kind o leaf.Small a w s y e h = shorter_by (skipped o s) y a w e
shorter_by_kind o leaf.Image a w s y e h = shorter_by (skipped o s) y a w e
shorter_by_kind o leaf.Text a w s y e h = cc
shorter_by_kind o leaf.Relation a w s y e h = shorter_by (skipped o s) y a w e

name_by_kind : (o : Origin) (k : Leaf) (a : ℕ) (w s y : Text) → skipped o s ≡ a ∷ (w ++ y) → leaf_width Atoms k (a ∷ w) ≡ suc (length w) → ends k (first y) ≡ true
    → ShowsName o (Plain k (a ∷ w)) s y
name_by_kind o leaf.Number a w s y e h stop = tt
name_by_kind o leaf.SignedNumber a w s y e h stop = tt
name_by_kind o leaf.Name a w s y e h stop = numeric_named o a w s y e (numeric_shape a w h) stop
name_by_kind o leaf.AlphaName a w s y e h stop = alpha_named o a w s y e h
name_by_kind o leaf.LocalName a w s y e h stop = numeric_named o a w s y e (local_shape a w h).1 stop
name_by_kind o leaf.FunctionName a w s y e h stop = tt
name_by_kind o leaf.Literal a w s y e h stop = tt
name_by_kind o leaf.LineNumber a w s y e h stop = tt
name_by_kind o leaf.HexPair a w s y e h stop = tt
name_by_kind o leaf.HexDigit a w s y e h stop = tt
name_by_kind o leaf.Address a w s y e h stop = tt
name_by_kind o leaf.Slot a w s y e h stop = tt
name_by_kind o leaf.Small a w s y e h stop = tt
name_by_kind o leaf.Image a w s y e h stop = tt
name_by_kind o leaf.Text a w s y e h stop = tt
name_by_kind o leaf.Relation a w s y e h stop = tt

hex_by_kind : (o : Origin) (k : Leaf) (a : ℕ) (w s y : Text) → skipped o s ≡ a ∷ (w ++ y) → leaf_width Atoms k (a ∷ w) ≡ suc (length w) → ShowsHex o (Plain k (a ∷ w)) s
hex_by_kind o leaf.Number a w s y e h = tt
hex_by_kind o leaf.SignedNumber a w s y e h = tt
hex_by_kind o leaf.Name a w s y e h = tt
hex_by_kind o leaf.AlphaName a w s y e h = tt
hex_by_kind o leaf.LocalName a w s y e h = tt
hex_by_kind o leaf.FunctionName a w s y e h = tt
hex_by_kind o leaf.Literal a w s y e h = tt
hex_by_kind o leaf.LineNumber a w s y e h = tt
hex_by_kind o leaf.HexPair a w s y e h = hex_shown o a w s y e (leaf_front leaf.HexPair a w h)
hex_by_kind o leaf.HexDigit a w s y e h = tt
hex_by_kind o leaf.Address a w s y e h = tt
hex_by_kind o leaf.Slot a w s y e h = tt
hex_by_kind o leaf.Small a w s y e h = tt
hex_by_kind o leaf.Image a w s y e h = tt
hex_by_kind o leaf.Text a w s y e h = tt
hex_by_kind o leaf.Relation a w s y e h = tt

-- a whole leaf, and after it what doesn't run on
pub begins_plain : (o : Origin) (k : Leaf) (a : ℕ) (w : Text) (behind : List Token) (s y : Text) → skipped o s ≡ a ∷ (w ++ y)
    → leaf_width Atoms k (a ∷ w) ≡ suc (length w) → ends k (first y) ≡ true → Begins o (Plain k (a ∷ w)) behind s y
begins_plain o k a w behind s y e h stop = record {
  reads = reads_by_kind o k a w s y e h stop;
  shorter = shorter_by_kind o k a w s y e h;
  class = λ c. ap (λ (t : Text). (ahead o t).0) e ∙ ap (λ (p : ℕ × Text). p.0) (leaf_ahead o k a w y c h stop);
  opens = λ c. ap (λ (t : Text). first t == 40) e ∙ front_opens k a c (leaf_front k a w h);
  closes = λ c. ap (λ (t : Text). first t == 41) e ∙ front_closes k a c (leaf_front k a w h);
  lets = λ c. ap (begins_let o) e ∙ quiet_let o a (w ++ y) (leaf_quiet k a w y c h stop);
  begs = λ c. ap (λ (t : Text). (ahead o t).0 == 66 && spelled_after o (ahead o t).1 69 71) e
      ∙ ap (λ (p : ℕ × Text). p.0 == 66 && spelled_after o p.1 69 71) (leaf_ahead o k a w y c h stop)
      ∙ quiet_beg o a (w ++ y) (leaf_quiet k a w y c h stop);
  name = name_by_kind o k a w s y e h stop;
  hex = hex_by_kind o k a w s y e h;
  line = tt;
}

-- a word or a sign
pub begins_coded : (o : Origin) (c : ℕ) (behind : List Token) (s u y : Text) → skipped o s ≡ u → ahead o u ≡ (c, y) → length y < length u
    → (first u == 40) ≡ (c == 40) → (first u == 41) ≡ (c == 41) → begins_let o u ≡ false → (c == 66 && spelled_after o y 69 71) ≡ is_beg (Coded c) behind
    → Begins o (Coded c) behind s y
begins_coded o c behind s u y e is less open_ close_ lets begs = record {
  reads = ap (ahead o) e ∙ is;
  shorter = (let P : Text → Type 0 = λ t. length y < length t in subst P (sym e) less);
  class = λ h. ap (λ (t : Text). (ahead o t).0) e ∙ ap (λ (p : ℕ × Text). p.0) is;
  opens = λ h. ap (λ (t : Text). first t == 40) e ∙ open_;
  closes = λ h. ap (λ (t : Text). first t == 41) e ∙ close_;
  lets = λ h. ap (begins_let o) e ∙ lets;
  begs = λ h. ap (λ (t : Text). (ahead o t).0 == 66 && spelled_after o (ahead o t).1 69 71) e
      ∙ ap (λ (p : ℕ × Text). p.0 == 66 && spelled_after o p.1 69 71) is ∙ begs;
  name = tt;
  hex = tt;
  line = tt;
}

-- a short word
read_short : (o : Origin) (c : ℕ) (u y : Text) → short_stands o c u ≡ true → drop (short_width o) u ≡ y → short_word_at o c u ≡ one (Short c) y
read_short o c u y h e = ap (λ (b : Bool). if b then one (Short c) (drop (short_width o) u) else Err (refused o 22 u)) h ∙ ap (λ (t : Text). one (Short c) t) e

pub begins_short : (o : Origin) (c : ℕ) (behind : List Token) (s u y : Text) → skipped o s ≡ u → short_stands o c u ≡ true → drop (short_width o) u ≡ y → length y < length u
    → Begins o (Short c) behind s y
unfolding short_word
begins_short o c behind s u y e is rest less = record {
  reads = ap (short_word_at o c) e ∙ read_short o c u y is rest;
  shorter = (let P : Text → Type 0 = λ t. length y < length t in subst P (sym e) less);
  class = λ h. cc;
  opens = λ h. cc;
  closes = λ h. cc;
  lets = λ h. cc;
  begs = λ h. cc;
  name = tt;
  hex = tt;
  line = tt;
}

-- a line number
pub begins_lined : (o : Origin) (high low : ℕ) (behind : List Token) (s u y : Text) → skipped o s ≡ u → ((code : ℕ) → line_number_at o code u ≡ one (Lined high low) y)
    → length y < length u → is_line o (ahead o u).0 ≡ true → Begins o (Lined high low) behind s y
unfolding read_leaf
begins_lined o high low behind s u y e is less line = record {
  reads = λ code. ap (line_number_at o code) e ∙ is code;
  shorter = (let P : Text → Type 0 = λ t. length y < length t in subst P (sym e) less);
  class = λ h. cc;
  opens = λ h. cc;
  closes = λ h. cc;
  lets = λ h. cc;
  begs = λ h. cc;
  name = tt;
  hex = tt;
  line = ap (λ (t : Text). is_line o (ahead o t).0) e ∙ line;
}
