-- The choices that look further than the next token: an array, a scratched file, and B E G.
use Rattle.std.proofs.Common.{◌≡◌, ℕ, zero, suc, ◌+◌, ◌-◌, ◌<◌, ◌==◌, ◌&&◌, ◌||◌, not, nat_lt, Bool, true, false, if◌then◌else◌, List, [], ◌∷◌, ◌++◌, length, drop, refl, sym, ap, subst, ◌∙◌, arith, append_assoc, inl, inr}
use Rattle.std.proofs.lemmas.Bool.Decides.{nat_tests}
use Rattle.b2_base.specs.Lexical.{first}
use Rattle.b2_atom.specs.Words.{Text, skipped, ahead, word_at}
use Rattle.b2_atom.specs.Tokens.{Token}
use Rattle.b2_atom.specs.Tokens.Token.{Coded, Short, Plain, Lined}
use Rattle.b2_atom.specs.Tree.{Trees, tokens}
use Rattle.b2_atom.specs.Tree.Trees.{Done, Put, In}
use Rattle.b2_atom.specs.Leaves.{is_alpha_name, name_width, any_name_width, alpha_name_width}
use Rattle.b2_atom.specs.Grammar.{row_items, starts, class_at, is_among, alpha_begins, array_of}
use Rattle.b2_atom.specs.Spelling.{Spells, Named, ShowsName, is_whole, has_class, is_classed, is_code, is_beg}
use Rattle.b2_atom.specs.Fitting.{Fits, fits_token, leaf_number}
use Rattle.b2_atom.specs.declared.rows.TheConstants as row
use Rattle.b2_atom.specs.declared.words.Origin.{Origin}
use Rattle.b2_atom.specs.declared.words.Origin.TheVariants as origin
use Rattle.b2_atom.specs.declared.forms.Leaf.{Leaf}
use Rattle.b2_atom.specs.declared.forms.Leaf.TheVariants as leaf
use Rattle.b2_atom.specs.declared.forms.Start.{Start}
use Rattle.b2_atom.specs.declared.forms.Start.TheVariants as start
use Rattle.b2_atom.specs.declared.forms.Item.{Item}
use Rattle.b2_atom.specs.declared.forms.Item.TheVariants.{Sign, Typed, Nest}
use Rattle.b2_atom.proofs.Booleans.{and_left, and_right, or_one, or_other, or_cases, or_false, never, not_true, equal, both, either_way, span_of}
use Rattle.b2_atom.proofs.settled.Lookaheads.{Span, spans, apart, every, some, Lookahead, is_ahead, sure, alpha, is_named, is_numeric_name, name_spans, alpha_spans, number_lookahead, class_lookahead, before_number, is_expression, not_open, not_b, named_or_not, ends_open, asks_open, some_tail, is_spanned, Tail, of, is_far, besides, Known}
use Rattle.b2_atom.proofs.settled.Lookaheads.Lookahead.{Any, None, Spanned, ShortOf, Hand, Numbered}
use Rattle.b2_atom.proofs.settled.Lookaheads.Tail.{Asked}
use Rattle.b2_atom.proofs.settled.LookaheadAnswers.{some_lookahead, class_says, says_alpha, same_leaf, not_named, not_alpha}
use Rattle.b2_atom.proofs.settled.Heads.{known, Refused, RefusedBy, leads, led_known, fills}
use Rattle.b2_atom.proofs.settled.Pairs.{TwoTokens, Tells, Chain, Follows, chained, lookahead_last, before_lookaheads}
use Rattle.b2_atom.proofs.settled.FarComputed.{row_within, operand_ends, receiver_ends, element_ends, sum_heads, alpha_heads, operand_full, element_full}

-- the lookahead of a token by itself
abbrev pub lookahead_of : Token → Lookahead
lookahead_of (Coded c) = Spanned c c
lookahead_of (Short c) = ShortOf c
lookahead_of (Plain k w) = Hand k
lookahead_of (Lined x y) = Numbered

abbrev pub number_token : Token → Bool
number_token u = is_ahead (lookahead_of u) (u ∷ []) && (alpha (lookahead_of u) false && (has_class u && not (is_code 41 u)))

abbrev pub named_token : Token → Bool
named_token (Plain k w) = is_named k
named_token t = false

abbrev pub opens_well : TwoTokens
opens_well t u = (not (is_code 40 t) || number_token u) && (not (named_token t) || has_class u)

-- narrower spans are as far apart
apart_one : (x y a b c : ℕ) → (nat_lt y a || nat_lt b x) ≡ true → is_among a b c ≡ true → (nat_lt y c || nat_lt c x) ≡ true
apart_one x y a b c h m = grind (arith, nat_tests)

apart_code : (ss : List Span) (a b c : ℕ) → apart ss (a, b) ≡ true → is_among a b c ≡ true → apart ss (c, c) ≡ true
apart_code [] a b c h m = refl
apart_code (s ∷ ss) a b c h m =
    both (nat_lt s.1 c || nat_lt c s.0) _ (apart_one s.0 s.1 a b c (and_left _ _ h) m) (apart_code ss a b c (and_right (nat_lt s.1 a || nat_lt b s.0) _ h) m)

among_itself : (c : ℕ) → is_among c c c ≡ true
among_itself c = grind (arith, nat_tests)

same_number : (n : ℕ) → (n == n) ≡ true
same_number n = grind (arith, nat_tests)

close_code : (a b c : ℕ) → (nat_lt b 41 || nat_lt 41 a) ≡ true → is_among a b c ≡ true → not (c == 41) ≡ true
close_code a b c h m = grind (arith, nat_tests)

open_code : (a b c : ℕ) → (nat_lt b 40 || nat_lt 40 a) ≡ true → is_among a b c ≡ true → not (c == 40) ≡ true
open_code a b c h m = grind (arith, nat_tests)

number_coded : (a b c : ℕ) → number_lookahead (Spanned a b) ≡ true → is_among a b c ≡ true → number_token (Coded c) ≡ true
number_coded a b c h m =
    let sure_ = and_left (apart (name_spans ++ alpha_spans) (a, b)) _ (and_left _ _ h) in
    both (is_among c c c) _ (among_itself c)
    (both (alpha (Spanned c c) false) _ (both (apart (name_spans ++ alpha_spans) (c, c)) true (apart_code (name_spans ++ alpha_spans) a b c sure_ m) refl)
    (close_code a b c (and_right (alpha (Spanned a b) false) _ h) m))

number_hand : (k j : Leaf) (w : Text) → number_lookahead (Hand k) ≡ true → is_ahead (Hand k) (Plain j w ∷ []) ≡ true → number_token (Plain j w) ≡ true
number_hand k j w h m =
    let same = same_leaf k j (and_left _ _ m) in
    both (leaf_number j == leaf_number j && is_whole j w) _ (both (leaf_number j == leaf_number j) _ (same_number (leaf_number j)) (and_right (leaf_number j == leaf_number k) _ m))
    (both (alpha (Hand j) false) _ (ap (λ (l : Leaf). alpha (Hand l) false) same ∙ and_left _ _ h)
    (both (is_classed j) true (ap is_classed same ∙ and_left (is_classed k) true (and_right (alpha (Hand k) false) _ h)) refl))

tells_number : (g : Lookahead) (u : Token) → number_lookahead g ≡ true → is_ahead g (u ∷ []) ≡ true → number_token u ≡ true
tells_number (Spanned a b) (Coded c) h m = number_coded a b c h m
tells_number (Spanned a b) (Plain j w) h m = cc
tells_number (Spanned a b) (Lined x y) h m = cc
tells_number (Spanned a b) (Short c) h m = cc
tells_number (ShortOf c) u h m = cc
tells_number (Hand k) (Plain j w) h m = number_hand k j w h m
tells_number (Hand k) (Coded c) h m = cc
tells_number (Hand k) (Lined x y) h m = cc
tells_number (Hand k) (Short c) h m = cc
tells_number Any u h m = cc
tells_number None u h m = cc
tells_number Numbered u h m = cc

tells_class : (g : Lookahead) (u : Token) → class_lookahead g ≡ true → is_ahead g (u ∷ []) ≡ true → has_class u ≡ true
tells_class (Spanned a b) (Coded c) h m = refl
tells_class (Spanned a b) (Plain j w) h m = cc
tells_class (Spanned a b) (Lined x y) h m = cc
tells_class (Spanned a b) (Short c) h m = cc
tells_class (ShortOf c) u h m = cc
tells_class (Hand k) (Plain j w) h m = ap is_classed (same_leaf k j (and_left _ _ m)) ∙ h
tells_class (Hand k) (Coded c) h m = cc
tells_class (Hand k) (Lined x y) h m = cc
tells_class (Hand k) (Short c) h m = cc
tells_class Any u h m = cc
tells_class None u h m = cc
tells_class Numbered u h m = cc

tells_open : (f g : Lookahead) (t u : Token) → before_number f g ≡ true → is_ahead f (t ∷ []) ≡ true → is_ahead g (u ∷ []) ≡ true → opens_well t u ≡ true
tells_open (Spanned a b) g (Coded c) u h m n = elim (or_cases (nat_lt b 40 || nat_lt 40 a) (number_lookahead g) h) [
  | inl e ↦ both _ true (or_one _ _ (open_code a b c e m)) refl
  | inr e ↦ both _ true (or_other (not (c == 40)) _ (tells_number g u e n)) refl
]
tells_open (Spanned a b) g (Plain j w) u h m n = cc
tells_open (Spanned a b) g (Lined x y) u h m n = cc
tells_open (Spanned a b) g (Short c) u h m n = cc
tells_open (ShortOf c) g t u h m n = cc
tells_open (Hand k) g (Plain j w) u h m n = elim (or_cases (not (is_named k)) (class_lookahead g) h) [
  | inl e ↦ or_one _ _ (ap (λ (l : Leaf). not (is_named l)) (same_leaf k j (and_left _ _ m)) ∙ e)
  | inr e ↦ or_other (not (is_named j)) _ (tells_class g u e n)
]
tells_open (Hand k) g (Coded c) u h m n = cc
tells_open (Hand k) g (Lined x y) u h m n = cc
tells_open (Hand k) g (Short c) u h m n = cc
tells_open Numbered g (Lined x y) u h m n = refl
tells_open Numbered g (Coded c) u h m n = cc
tells_open Numbered g (Plain j w) u h m n = cc
tells_open Numbered g (Short c) u h m n = cc
tells_open Any g t u h m n = cc
tells_open None g t u h m n = cc

tells_well : Tells before_number opens_well
tells_well f g t u us h k m = tells_open f g t u h k (sym (lookahead_last g u us) ∙ m)

no_line : is_expression row.LINE ≡ true → (n : ℕ) → is_expression n ≡ true
no_line h n = cc

-- the tokens of an expression before a `)`
well : (o : Origin) (most room k : ℕ) (inner : Trees) → is_expression k ≡ true → besides before_number (of k).ends (Spanned 41 41 ∷ []) ≡ true → Fits o most room (row_items k) inner
    → Chain opens_well (tokens inner ++ (Coded 41 ∷ []))
well o most room k inner h test fits =
    chained is_expression before_number opens_well tells_well row_within no_line inner o most room (row_items k) fits (row_within k h) (Coded 41 ∷ [])
    (let P : List Lookahead → Type 0 = λ l. Follows opens_well l (Coded 41 ∷ []) in subst P (ap (λ (x : Known). x.ends) (sym (known k))) (before_lookaheads before_number opens_well tells_well (of k).ends (Spanned 41 41 ∷ []) (Coded 41 ∷ []) test refl))
    (tt, tt)

and_none : (a b : Bool) → a ≡ false → (a && b) ≡ false
and_none true b h = cc
and_none false b h = refl

and_last : (a b : Bool) → b ≡ false → (a && b) ≡ false
and_last true b h = h
and_last false b h = refl

one_code : (a c : ℕ) (b : Bool) → spans ((a, a) ∷ []) c ≡ b → (c == a) ≡ b
one_code a c b h = span_of a c ∙ sym (or_false _) ∙ h

-- what the first of two tokens leaves
inside_seen : (o : Origin) (c : ℕ) (ts : List Token) (s : Text) → (spelled : Spells o (Coded c ∷ ts) s) → starts o start.AlphaInside s ≡ (c == 40 && alpha_begins o (skipped o spelled.0))
unfolding starts
inside_seen o c ts s spelled =
    let there : ahead o (skipped o s) ≡ (c, spelled.0) = spelled.1.0.reads in
    ap (λ (x : ℕ × Text). x.0 == 40 && alpha_begins o (skipped o x.1)) there

inside_closed : (o : Origin) (s : Text) → (class_at o s == 40) ≡ false → starts o start.AlphaInside s ≡ false
unfolding starts
inside_closed o s h = and_none _ _ h

lookahead_here : (u : Token) (us : List Token) → is_ahead (lookahead_of u) (u ∷ []) ≡ true → is_ahead (lookahead_of u) (u ∷ us) ≡ true
lookahead_here u us h = lookahead_last (lookahead_of u) u us ∙ h

-- what follows a `(` begins no alpha operand
not_inside : (o : Origin) (u : Token) (us : List Token) (s : Text) → number_token u ≡ true → Spells o (u ∷ us) s → alpha_begins o (skipped o s) ≡ false
not_inside o u us s h spelled = says_alpha o (lookahead_of u) false (u ∷ us) s (and_left _ _ (and_right (is_ahead (lookahead_of u) (u ∷ [])) _ h)) (lookahead_here u us (and_left _ _ h)) spelled

yes_or : (a b : Bool) → (not a || b) ≡ true → a ≡ true → b ≡ true
yes_or true b h k = h
yes_or false b h k = cc

inside_first : (o : Origin) (c : ℕ) (xs more : List Token) (s : Text) → Chain opens_well ((Coded c ∷ xs) ++ (Coded 41 ∷ [])) → Spells o (Coded c ∷ (xs ++ more)) s → starts o start.AlphaInside s ≡ false
inside_first o c [] more s chain spelled = elim (either_way (c == 40)) [
  | inl e ↦ never (number_token (Coded 41)) (yes_or (c == 40) _ (and_left _ _ chain.0) e) refl
  | inr e ↦ inside_seen o c more s spelled ∙ and_none _ _ e
]
inside_first o c (u ∷ us) more s chain spelled = elim (either_way (c == 40)) [
  | inl e ↦ inside_seen o c (u ∷ (us ++ more)) s spelled ∙ and_last (c == 40) _ (not_inside o u (us ++ more) spelled.0 (yes_or (c == 40) _ (and_left _ _ chain.0) e) spelled.1.1)
  | inr e ↦ inside_seen o c (u ∷ (us ++ more)) s spelled ∙ and_none _ _ e
]

spanned_plain : (f : Lookahead) (j : Leaf) (w : Text) (ts : List Token) → is_spanned f ≡ true → is_ahead f (Plain j w ∷ ts) ≡ false
spanned_plain (Spanned a b) j w ts h = refl
spanned_plain f j w ts h = cc

spanned_lined : (f : Lookahead) (x y : ℕ) (ts : List Token) → is_spanned f ≡ true → is_ahead f (Lined x y ∷ ts) ≡ false
spanned_lined (Spanned a b) x y ts h = refl
spanned_lined f x y ts h = cc

spanned_short : (f : Lookahead) (c : ℕ) (ts : List Token) → is_spanned f ≡ true → is_ahead f (Short c ∷ ts) ≡ false
spanned_short (Spanned a b) c ts h = refl
spanned_short f c ts h = cc

inside_by : (o : Origin) (xs more : List Token) (s : Text) → (f : Lookahead) → not_open f ≡ true → is_ahead f (xs ++ more) ≡ true → 0 < length xs → Chain opens_well (xs ++ (Coded 41 ∷ [])) → Spells o (xs ++ more) s
    → starts o start.AlphaInside s ≡ false
inside_by o [] more s f h m full chain spelled = absurd (omega (arith, full))
inside_by o (Coded c ∷ xs) more s f h m full chain spelled = inside_first o c xs more s chain spelled
inside_by o (Plain j w ∷ xs) more s f h m full chain spelled = elim (or_cases (is_spanned f) (sure ((40, 40) ∷ []) f false) h) [
  | inl e ↦ never (is_ahead f (Plain j w ∷ (xs ++ more))) m (spanned_plain f j w (xs ++ more) e)
  | inr e ↦ inside_closed o s (one_code 40 (class_at o s) false (class_says ((40, 40) ∷ []) o f false (Plain j w ∷ (xs ++ more)) s e m spelled))
]
inside_by o (Lined x y ∷ xs) more s f h m full chain spelled = elim (or_cases (is_spanned f) (sure ((40, 40) ∷ []) f false) h) [
  | inl e ↦ never (is_ahead f (Lined x y ∷ (xs ++ more))) m (spanned_lined f x y (xs ++ more) e)
  | inr e ↦ inside_closed o s (one_code 40 (class_at o s) false (class_says ((40, 40) ∷ []) o f false (Lined x y ∷ (xs ++ more)) s e m spelled))
]
inside_by o (Short c ∷ xs) more s f h m full chain spelled = elim (or_cases (is_spanned f) (sure ((40, 40) ∷ []) f false) h) [
  | inl e ↦ never (is_ahead f (Short c ∷ (xs ++ more))) m (spanned_short f c (xs ++ more) e)
  | inr e ↦ inside_closed o s (one_code 40 (class_at o s) false (class_says ((40, 40) ∷ []) o f false (Short c ∷ (xs ++ more)) s e m spelled))
]

row_begun : (inner : Trees) (o : Origin) (most room n : ℕ) → Fits o most room (row_items n) inner → not (of n).empty ≡ true → (more : List Token) → some (λ (f : Lookahead). is_ahead f (tokens inner ++ more)) (of n).heads ≡ true
row_begun inner o most room n fits full more = elim (led_known n (tokens inner) more (leads inner o most room (row_items n) fits more)) [
  | inl g ↦ never (of n).empty g.1 (not_true _ full)
  | inr g ↦ g
]

row_full : (inner : Trees) (o : Origin) (most room n : ℕ) → Fits o most room (row_items n) inner → not (of n).empty ≡ true → 0 < length (tokens inner)
row_full inner o most room n fits full = fills inner o most room (row_items n) fits (ap (λ (k : Known). k.empty) (known n) ∙ not_true _ full)

-- a sum is no scratched file
inside_second : (o : Origin) (most room : ℕ) (inner : Trees) (more : List Token) (s : Text) → Fits o most room (row_items row.SUM) inner → Spells o (tokens inner ++ more) s → starts o start.AlphaInside s ≡ false
inside_second o most room inner more s fits spelled =
    let rest = and_right (every not_open (of row.SUM).heads) _ sum_heads in
    let ends_ = and_right (every not_b (of row.SUM).heads) _ rest in
    let full = and_right (besides before_number (of row.SUM).ends (Spanned 41 41 ∷ [])) _ ends_ in
    let one = some_lookahead not_open (of row.SUM).heads (tokens inner ++ more) (and_left _ _ sum_heads) (row_begun inner o most room row.SUM fits full more) in
    inside_by o (tokens inner) more s one.0 one.1.0 one.1.1 (row_full inner o most room row.SUM fits full) (well o most room row.SUM inner refl (and_left _ _ ends_) fits) spelled

-- B E G
letters_seen : (o : Origin) (t : Token) (ts : List Token) (s : Text) → has_class t ≡ true → Spells o (t ∷ ts) s → starts o (start.Letters 66 69 71) s ≡ is_beg t ts
unfolding starts
letters_seen o t ts s h spelled = spelled.1.0.begs h

letters_none : (o : Origin) (s : Text) → (class_at o s == 66) ≡ false → starts o (start.Letters 66 69 71) s ≡ false
unfolding starts
letters_none o s h = and_none _ _ h

numeric_class : (f : Lookahead) (j : Leaf) (w : Text) (ts : List Token) → is_numeric_name f ≡ true → is_ahead f (Plain j w ∷ ts) ≡ true → is_classed j ≡ true
numeric_class (Hand leaf.Name) j w ts h m = ap is_classed (same_leaf leaf.Name j (and_left _ _ m))
numeric_class (Hand leaf.LocalName) j w ts h m = ap is_classed (same_leaf leaf.LocalName j (and_left _ _ m))
numeric_class (Hand k) j w ts h m = cc
numeric_class Any j w ts h m = cc
numeric_class None j w ts h m = cc
numeric_class (Spanned a b) j w ts h m = cc
numeric_class (ShortOf c) j w ts h m = cc
numeric_class Numbered j w ts h m = cc

abbrev is_plain_first : List Token → Bool
is_plain_first [] = false
is_plain_first (Coded c ∷ ts) = false
is_plain_first (Short c ∷ ts) = false
is_plain_first (Plain j w ∷ ts) = true
is_plain_first (Lined x y ∷ ts) = false

numeric_lookahead : (f : Lookahead) (ts : List Token) → is_numeric_name f ≡ true → is_plain_first ts ≡ false → is_ahead f ts ≡ false
numeric_lookahead (Hand k) [] h m = refl
numeric_lookahead (Hand k) (Coded c ∷ ts) h m = refl
numeric_lookahead (Hand k) (Short c ∷ ts) h m = refl
numeric_lookahead (Hand k) (Plain j w ∷ ts) h m = cc
numeric_lookahead (Hand k) (Lined x y ∷ ts) h m = refl
numeric_lookahead Any ts h m = cc
numeric_lookahead None ts h m = cc
numeric_lookahead (Spanned a b) ts h m = cc
numeric_lookahead (ShortOf c) ts h m = cc
numeric_lookahead Numbered ts h m = cc

letters_by : (o : Origin) (f : Lookahead) (ts : List Token) (s : Text) → is_numeric_name f ≡ true → is_ahead f ts ≡ true → Spells o ts s → starts o (start.Letters 66 69 71) s ≡ false
letters_by o f (Plain j w ∷ ts) s h m spelled = letters_seen o (Plain j w) ts s (numeric_class f j w ts h m) spelled
letters_by o f [] s h m spelled = never (is_ahead f []) m (numeric_lookahead f [] h refl)
letters_by o f (Coded c ∷ ts) s h m spelled = never (is_ahead f (Coded c ∷ ts)) m (numeric_lookahead f (Coded c ∷ ts) h refl)
letters_by o f (Lined x y ∷ ts) s h m spelled = never (is_ahead f (Lined x y ∷ ts)) m (numeric_lookahead f (Lined x y ∷ ts) h refl)
letters_by o f (Short c ∷ ts) s h m spelled = never (is_ahead f (Short c ∷ ts)) m (numeric_lookahead f (Short c ∷ ts) h refl)

letters_second : (o : Origin) (most room : ℕ) (inner : Trees) (more : List Token) (s : Text) → Fits o most room (row_items row.SUM) inner → Spells o (tokens inner ++ more) s → starts o (start.Letters 66 69 71) s ≡ false
letters_second o most room inner more s fits spelled =
    let rest = and_right (every not_open (of row.SUM).heads) _ sum_heads in
    let ends_ = and_right (every not_b (of row.SUM).heads) _ rest in
    let full = and_right (besides before_number (of row.SUM).ends (Spanned 41 41 ∷ [])) _ ends_ in
    let one = some_lookahead not_b (of row.SUM).heads (tokens inner ++ more) (and_left _ _ rest) (row_begun inner o most room row.SUM fits full more) in
    elim (or_cases (sure ((66, 66) ∷ []) one.0 false) (is_numeric_name one.0) one.1.0) [
      | inl e ↦ letters_none o s (one_code 66 (class_at o s) false (class_says ((66, 66) ∷ []) o one.0 false (tokens inner ++ more) s e one.1.1 spelled))
      | inr e ↦ letters_by o one.0 (tokens inner ++ more) s e one.1.1 spelled
    ]

-- no word begins with `(`
open_first : (o : Origin) (bs : Text) → ahead o (40 ∷ bs) ≡ (40, bs)
unfolding word_at
open_first origin.Program bs = refl
open_first origin.Immediate bs = refl
open_first origin.Atoms bs = refl

open_ahead : (o : Origin) (v : Text) → (first v == 40) ≡ true → ahead o v ≡ (40, drop 1 v)
open_ahead o [] h = cc
open_ahead o (b ∷ bs) h = ap (λ (n : ℕ). ahead o (n ∷ bs)) (equal b 40 h) ∙ open_first o bs

code_seen : (o : Origin) (s : Text) → starts o (start.Code 40) s ≡ false → (class_at o s == 40) ≡ false
unfolding starts
code_seen o s h = h

not_open_there : (o : Origin) (r : Text) → (class_at o r == 40) ≡ false → (first (skipped o r) == 40) ≡ false
not_open_there o r h = elim (either_way (first (skipped o r) == 40)) [
  | inl e ↦ never (class_at o r == 40) (ap (λ (x : ℕ × Text). x.0 == 40) (open_ahead o (skipped o r) e)) h
  | inr e ↦ e
]

abbrev OpenAndClosed : Origin → Text → Bool
OpenAndClosed o r = first (skipped o r) == 40 && first (skipped o (drop 1 (skipped o r))) == 41

close_there : (o : Origin) (d : ℕ) (ts : List Token) (x : Token) (r : Text) → (first (skipped o r) == 40) ≡ true → number_token x ≡ true → Spells o (Coded d ∷ x ∷ ts) r
    → (first (skipped o (drop 1 (skipped o r))) == 41) ≡ false
close_there o d ts x r open_ num spelled =
    let same : drop 1 (skipped o r) ≡ spelled.0 = ap (λ (y : ℕ × Text). y.1) (sym (open_ahead o (skipped o r) open_) ∙ spelled.1.0.reads) in
    let rest = and_right (alpha (lookahead_of x) false) _ (and_right (is_ahead (lookahead_of x) (x ∷ [])) _ num) in
    ap (λ (u : Text). first (skipped o u) == 41) same ∙ spelled.1.1.1.0.closes (and_left _ _ rest) ∙ not_true (is_code 41 x) (and_right (has_class x) _ rest)

no_array_code : (o : Origin) (d : ℕ) (us more : List Token) (r : Text) → Chain opens_well ((Coded d ∷ us) ++ (Coded 41 ∷ [])) → Spells o (Coded d ∷ (us ++ more)) r → OpenAndClosed o r ≡ false
no_array_code o d [] more r chain spelled = elim (either_way (d == 40)) [
  | inl e ↦ never (number_token (Coded 41)) (yes_or (d == 40) _ (and_left _ _ chain.0) e) refl
  | inr e ↦ and_none _ _ (spelled.1.0.opens refl ∙ e)
]
no_array_code o d (x ∷ us) more r chain spelled = elim (either_way (d == 40)) [
  | inl e ↦ and_last (first (skipped o r) == 40) _ (close_there o d (us ++ more) x r (spelled.1.0.opens refl ∙ e) (yes_or (d == 40) _ (and_left _ _ chain.0) e) spelled)
  | inr e ↦ and_none _ _ (spelled.1.0.opens refl ∙ e)
]

-- after a name of an expression no `(` `)` stands
no_array : (o : Origin) (t : Token) (xs more : List Token) (r : Text) → named_token t ≡ true → Chain opens_well ((t ∷ xs) ++ (Coded 41 ∷ [])) → ((s : Text) → Spells o more s → starts o (start.Code 40) s ≡ false)
    → Spells o (xs ++ more) r → OpenAndClosed o r ≡ false
no_array o t [] more r named chain refused spelled = and_none _ _ (not_open_there o r (code_seen o r (refused r spelled)))
no_array o t (Coded d ∷ us) more r named chain refused spelled = no_array_code o d us more r chain.1 spelled
no_array o t (Plain j w ∷ us) more r named chain refused spelled =
    and_none _ _ (spelled.1.0.opens (yes_or (named_token t) _ (and_right (not (is_code 40 t) || number_token (Plain j w)) _ chain.0) named))
no_array o t (Lined x y ∷ us) more r named chain refused spelled = never false (yes_or (named_token t) _ (and_right (not (is_code 40 t) || number_token (Lined x y)) _ chain.0) named) refl
no_array o t (Short c ∷ us) more r named chain refused spelled = never false (yes_or (named_token t) _ (and_right (not (is_code 40 t) || number_token (Short c)) _ chain.0) named) refl

-- what a name shows
array_is : (o : Origin) (n : ℕ) (v r : Text) → any_name_width o v ≡ n → drop n v ≡ r → array_of o (any_name_width o v) v ≡ (nat_lt 0 n && OpenAndClosed o r)
array_is o n v r h k = ap (λ (m : ℕ). array_of o m v) h ∙ ap (λ (x : Text). nat_lt 0 n && OpenAndClosed o x) k

numeric_width : (o : Origin) (v : Text) (n : ℕ) → is_alpha_name o v ≡ false → name_width o v ≡ n → any_name_width o v ≡ n
numeric_width o v n h k = ap (λ (b : Bool). if b then alpha_name_width o v else name_width o v) h ∙ k

alpha_width : (o : Origin) (v : Text) (n : ℕ) → is_alpha_name o v ≡ true → name_width o v ≡ n → any_name_width o v ≡ n + 1
alpha_width o v n h k = ap (λ (b : Bool). if b then (if b then name_width o v + 1 else 0) else name_width o v) h ∙ ap (λ (m : ℕ). m + 1) k

less_one : (n : ℕ) → nat_lt 0 n ≡ true → n - 1 + 1 ≡ n
less_one n h = grind (arith, nat_tests)

named_width : (o : Origin) (k j : Leaf) (w s r : Text) → is_named k ≡ true → j ≡ k → is_whole j w ≡ true → ShowsName o (Plain j w) s r → (any_name_width o (skipped o s) ≡ length w) × (drop (length w) (skipped o s) ≡ r)
named_width o leaf.Name j w s r h same whole shown =
    let P : Leaf → Type 0 = λ l. ShowsName o (Plain l w) s r in
    let n : Named o false (length w) w (skipped o s) r = subst P same shown in
    (numeric_width o (skipped o s) (length w) n.alpha n.width_is, n.behind)
named_width o leaf.AlphaName j w s r h same whole shown =
    let P : Leaf → Type 0 = λ l. ShowsName o (Plain l w) s r in
    let W : Leaf → Type 0 = λ l. is_whole l w ≡ true in
    let n : Named o true (length w - 1) w (skipped o s) r = subst P same shown in
    (alpha_width o (skipped o s) (length w - 1) n.alpha n.width_is ∙ less_one (length w) (and_left _ _ (subst W same whole)), n.behind)
named_width o k j w s r h same whole shown = cc

array_none : (o : Origin) (s : Text) → spans name_spans (class_at o s) ≡ false → starts o start.Array s ≡ false
unfolding starts
array_none o s h =
    let none = not_named o (skipped o s) h in
    ap (λ (m : ℕ). array_of o m (skipped o s)) (numeric_width o (skipped o s) 0 (not_alpha o (skipped o s) none) none)

array_seen : (o : Origin) (k j : Leaf) (w : Text) (ts : List Token) (s : Text) → is_named k ≡ true → j ≡ k → is_whole j w ≡ true → (spelled : Spells o (Plain j w ∷ ts) s)
    → starts o start.Array s ≡ (nat_lt 0 (length w) && OpenAndClosed o spelled.0)
unfolding starts
array_seen o k j w ts s h same whole spelled =
    let n = named_width o k j w s spelled.0 h same whole spelled.1.0.name in array_is o (length w) (skipped o s) spelled.0 n.0 n.1

code_open : (o : Origin) (c : ℕ) (more : List Token) → (c == 40) ≡ true → RefusedBy o (Asked (start.Code c)) more → (s : Text) → Spells o more s → starts o (start.Code 40) s ≡ false
code_open o c more h r s spelled = ap (λ (n : ℕ). starts o (start.Code n) s) (sym (equal c 40 h)) ∙ r s spelled

tail_open : (o : Origin) (t : Tail) (more : List Token) → asks_open t ≡ true → RefusedBy o t more → (s : Text) → Spells o more s → starts o (start.Code 40) s ≡ false
tail_open o (Asked (start.Code c)) more h r s spelled = code_open o c more h r s spelled
tail_open o t more h r s spelled = cc

refused_open : (o : Origin) (ts : List Tail) (more : List Token) → some_tail asks_open ts ≡ true → Refused o ts more → (s : Text) → Spells o more s → starts o (start.Code 40) s ≡ false
refused_open o [] more h r s spelled = cc
refused_open o (t ∷ ts) more h r s spelled = elim (or_cases (asks_open t) (some_tail asks_open ts) h) [
  | inl e ↦ tail_open o t more e r.0 s spelled
  | inr e ↦ refused_open o ts more e r.1 s spelled
]

array_by : (o : Origin) (f : Lookahead) (xs more : List Token) (s : Text) → named_or_not f ≡ true → is_ahead f (xs ++ more) ≡ true → 0 < length xs → Chain opens_well (xs ++ (Coded 41 ∷ []))
    → ((u : Text) → Spells o more u → starts o (start.Code 40) u ≡ false) → Spells o (xs ++ more) s → starts o start.Array s ≡ false
array_by o (Hand k) [] more s h m full chain refused spelled = absurd (omega (arith, full))
array_by o (Hand k) (Plain j w ∷ xs) more s h m full chain refused spelled = elim (or_cases (is_named k) (sure name_spans (Hand k) false) h) [
  | inl e ↦ (let same = same_leaf k j (and_left _ _ m) in
      array_seen o k j w (xs ++ more) s e same (and_right (leaf_number j == leaf_number k) _ m) spelled
      ∙ and_last (nat_lt 0 (length w)) _ (no_array o (Plain j w) xs more spelled.0 (ap is_named same ∙ e) chain refused spelled.1.1))
  | inr e ↦ array_none o s (class_says name_spans o (Hand k) false (Plain j w ∷ (xs ++ more)) s e m spelled)
]
array_by o (Hand k) (Coded c ∷ xs) more s h m full chain refused spelled = cc
array_by o (Hand k) (Lined x y ∷ xs) more s h m full chain refused spelled = cc
array_by o (Hand k) (Short c ∷ xs) more s h m full chain refused spelled = cc
array_by o (ShortOf c) xs more s h m full chain refused spelled = cc
array_by o Any xs more s h m full chain refused spelled = cc
array_by o None xs more s h m full chain refused spelled = array_none o s (class_says name_spans o None false (xs ++ more) s h m spelled)
array_by o (Spanned a b) xs more s h m full chain refused spelled = array_none o s (class_says name_spans o (Spanned a b) false (xs ++ more) s h m spelled)
array_by o Numbered xs more s h m full chain refused spelled = array_none o s (class_says name_spans o Numbered false (xs ++ more) s h m spelled)

array_second : (o : Origin) (most room k : ℕ) (inner : Trees) (more : List Token) (s : Text) → is_expression k ≡ true → ends_open k ≡ true → not (of k).empty ≡ true → Fits o most room (row_items k) inner
    → Refused o (of k).tails more → Spells o (tokens inner ++ more) s → starts o start.Array s ≡ false
array_second o most room k inner more s within ends_ full fits refused spelled =
    let rest = and_right (some_tail asks_open (of k).tails) _ ends_ in
    let one = some_lookahead named_or_not (of k).heads (tokens inner ++ more) (and_right (besides before_number (of k).ends (Spanned 41 41 ∷ [])) _ rest) (row_begun inner o most room k fits full more) in
    array_by o one.0 (tokens inner) more s one.1.0 one.1.1 (row_full inner o most room k fits full) (well o most room k inner within (and_left _ _ rest) fits)
    (refused_open o (of k).tails more (and_left _ _ ends_) refused) spelled

-- the first token of a tree
abbrev Step : Origin → ℕ → ℕ → Item → List Item → Trees → Type 0
Step o most room i is a = (t : Token) × ((ts : Trees) × ((fits_token o i t ≡ true) × (Fits o most room is ts × (a ≡ Put t ts))))

sign_step : (o : Origin) (most room c code : ℕ) (is : List Item) (a : Trees) → Fits o most room (Sign c code ∷ is) a → Step o most room (Sign c code) is a
sign_step o most room c code is Done h = cc
sign_step o most room c code is (Put t ts) h = (t, (ts, (h.0, (h.1, refl))))
sign_step o most room c code is (In m inner ts) h = absurd h

named_step : (o : Origin) (most room : ℕ) (k : Leaf) (code : ℕ) (is : List Item) (a : Trees) → is_named k ≡ true → Fits o most room (Typed k code ∷ is) a → Step o most room (Typed k code) is a
named_step o most room leaf.Name code is Done n h = cc
named_step o most room leaf.AlphaName code is Done n h = cc
named_step o most room k code is Done n h = cc
named_step o most room k code is (Put t ts) n h = (t, (ts, (h.0, (h.1, refl))))
named_step o most room k code is (In m inner ts) n h = absurd h

array_tokens : (o : Origin) (k j : Leaf) (w : Text) (d e : ℕ) (ts : List Token) (s : Text) → is_named k ≡ true → j ≡ k → is_whole j w ≡ true → nat_lt 0 (length w) ≡ true → (d == 40) ≡ true → (e == 41) ≡ true
    → Spells o (Plain j w ∷ Coded d ∷ Coded e ∷ ts) s → starts o start.Array s ≡ true
array_tokens o k j w d e ts s named same whole full open_ close spelled =
    let r = spelled.0 in
    let there = spelled.1.1 in
    let first_open : (first (skipped o r) == 40) ≡ true = there.1.0.opens refl ∙ open_ in
    let next : drop 1 (skipped o r) ≡ there.0 = ap (λ (y : ℕ × Text). y.1) (sym (open_ahead o (skipped o r) first_open) ∙ there.1.0.reads) in
    array_seen o k j w (Coded d ∷ Coded e ∷ ts) s named same whole spelled
    ∙ both (nat_lt 0 (length w)) _ full (both (first (skipped o r) == 40) _ first_open (ap (λ (u : Text). first (skipped o u) == 41) next ∙ there.1.1.1.0.closes refl ∙ close))

named_full : (k j : Leaf) (w : Text) → is_named k ≡ true → j ≡ k → is_whole j w ≡ true → nat_lt 0 (length w) ≡ true
named_full leaf.Name j w n same whole = let W : Leaf → Type 0 = λ l. is_whole l w ≡ true in and_left _ _ (subst W same whole)
named_full leaf.AlphaName j w n same whole = let W : Leaf → Type 0 = λ l. is_whole l w ≡ true in and_left _ _ (subst W same whole)
named_full k j w n same whole = cc

not_lined : (k : Leaf) (x : Bool) → is_named k ≡ true → (leaf_number k == 7 && x) ≡ true → ⊥
not_lined leaf.Name x n h = cc
not_lined leaf.AlphaName x n h = cc
not_lined k x n h = cc

array_put : (o : Origin) (k : Leaf) (c1 c2 c3 : ℕ) (t u v : Token) (ts : List Token) (s : Text) → is_named k ≡ true → fits_token o (Typed k c1) t ≡ true → fits_token o (Sign 40 c2) u ≡ true
    → fits_token o (Sign 41 c3) v ≡ true → Spells o (t ∷ u ∷ v ∷ ts) s → starts o start.Array s ≡ true
array_put o k c1 c2 c3 (Plain j w) (Coded d) (Coded e) ts s named h i l spelled =
    let same = same_leaf k j (and_left _ _ h) in
    let whole = and_right (leaf_number j == leaf_number k) _ h in
    array_tokens o k j w d e ts s named same whole (named_full k j w named same whole) i l spelled
array_put o k c1 c2 c3 (Coded c) u v ts s named h i l spelled = cc
array_put o k c1 c2 c3 (Short c) u v ts s named h i l spelled = cc
array_put o k c1 c2 c3 (Lined x y) u v ts s named h i l spelled = absurd (not_lined k _ named h)
array_put o k c1 c2 c3 (Plain j w) (Plain x y) v ts s named h i l spelled = cc
array_put o k c1 c2 c3 (Plain j w) (Lined x y) v ts s named h i l spelled = cc
array_put o k c1 c2 c3 (Plain j w) (Short d) v ts s named h i l spelled = cc
array_put o k c1 c2 c3 (Plain j w) (Coded d) (Plain x y) ts s named h i l spelled = cc
array_put o k c1 c2 c3 (Plain j w) (Coded d) (Lined x y) ts s named h i l spelled = cc
array_put o k c1 c2 c3 (Plain j w) (Coded d) (Short e) ts s named h i l spelled = cc

array_row : (o : Origin) (most room : ℕ) (k : Leaf) (c1 c2 c3 : ℕ) (a : Trees) (more : List Token) (s : Text) → is_named k ≡ true → Fits o most room (Typed k c1 ∷ Sign 40 c2 ∷ Sign 41 c3 ∷ []) a
    → Spells o (tokens a ++ more) s → starts o start.Array s ≡ true
array_row o most room k c1 c2 c3 a more s named fits spelled =
    let one = named_step o most room k c1 (Sign 40 c2 ∷ Sign 41 c3 ∷ []) a named fits in
    let two_ = sign_step o most room 40 c2 (Sign 41 c3 ∷ []) one.1.0 one.1.1.1.0 in
    let three = sign_step o most room 41 c3 [] two_.1.0 two_.1.1.1.0 in
    let same : tokens a ≡ one.0 ∷ two_.0 ∷ three.0 ∷ tokens three.1.0 =
    ap tokens one.1.1.1.1 ∙ ap (λ (b : Trees). one.0 ∷ tokens b) two_.1.1.1.1 ∙ ap (λ (b : Trees). one.0 ∷ two_.0 ∷ tokens b) three.1.1.1.1 in
    let P : List Token → Type 0 = λ l. Spells o (l ++ more) s in
    array_put o k c1 c2 c3 one.0 two_.0 three.0 (tokens three.1.0 ++ more) s named one.1.1.0 two_.1.1.0 three.1.1.0 (subst P same spelled)

apart_tokens : (o : Origin) (xs ys more : List Token) (s : Text) → Spells o ((xs ++ ys) ++ more) s → Spells o (xs ++ (ys ++ more)) s
apart_tokens o xs ys more s h = let P : List Token → Type 0 = λ l. Spells o l s in subst P (append_assoc xs ys more) h

array_first : (o : Origin) (most room : ℕ) (inner : Trees) (more : List Token) (s : Text) → Fits o most room (row_items row.WHOLE_ARRAY) inner → Spells o (tokens inner ++ more) s → starts o start.Array s ≡ true
unfolding row_items
array_first o most room Done more s h spelled = cc
array_first o most room (Put (Coded c) ts) more s h spelled = never false h.0 refl
array_first o most room (Put (Short c) ts) more s h spelled = never false h.0 refl
array_first o most room (Put (Plain j w) ts) more s h spelled = never false h.0 refl
array_first o most room (Put (Lined x y) ts) more s h spelled = never false h.0 refl
array_first o most room (In zero a ts) more s h spelled = array_row o most room leaf.Name 20 10 11 a (tokens ts ++ more) s refl h.0 (apart_tokens o (tokens a) (tokens ts) more s spelled)
array_first o most room (In (suc zero) a ts) more s h spelled = array_row o most room leaf.AlphaName 20 10 11 a (tokens ts ++ more) s refl h.0 (apart_tokens o (tokens a) (tokens ts) more s spelled)
array_first o most room (In (suc (suc m)) a ts) more s h spelled = absurd h

alpha_array_first : (o : Origin) (most room : ℕ) (inner : Trees) (more : List Token) (s : Text) → Fits o most room (row_items row.ALPHA_ARRAY) inner → Spells o (tokens inner ++ more) s → starts o start.Array s ≡ true
unfolding row_items
alpha_array_first o most room inner more s fits spelled = array_row o most room leaf.AlphaName 20 10 11 inner more s refl fits spelled

-- a scratched file
alpha_row : (o : Origin) (most room : ℕ) (b : Trees) (more : List Token) (s : Text) → Fits o most room (row_items row.ALPHA) b → Spells o (tokens b ++ more) s → alpha_begins o (skipped o s) ≡ true
alpha_row o most room b more s fits spelled =
    let one = some_lookahead (λ (f : Lookahead). alpha f true) (of row.ALPHA).heads (tokens b ++ more) (and_left _ _ alpha_heads)
    (row_begun b o most room row.ALPHA fits (and_right (every (λ (f : Lookahead). alpha f true) (of row.ALPHA).heads) _ alpha_heads) more) in
    says_alpha o one.0 true (tokens b ++ more) s one.1.0 one.1.1 spelled

nest_alpha : (o : Origin) (most room : ℕ) (is : List Item) (a : Trees) (more : List Token) (s : Text) → Fits o most room (Nest row.ALPHA ∷ is) a → Spells o (tokens a ++ more) s → alpha_begins o (skipped o s) ≡ true
nest_alpha o most room is Done more s h spelled = cc
nest_alpha o most room is (Put (Coded c) ts) more s h spelled = never false h.0 refl
nest_alpha o most room is (Put (Short c) ts) more s h spelled = never false h.0 refl
nest_alpha o most room is (Put (Plain j w) ts) more s h spelled = never false h.0 refl
nest_alpha o most room is (Put (Lined x y) ts) more s h spelled = never false h.0 refl
nest_alpha o most zero is (In m b ts) more s h spelled = absurd h
nest_alpha o most (suc room) is (In m b ts) more s h spelled = alpha_row o most room b (tokens ts ++ more) s h.1.0 (apart_tokens o (tokens b) (tokens ts) more s spelled)

inside_put : (o : Origin) (most room code : ℕ) (is : List Item) (t : Token) (ts : Trees) (more : List Token) (s : Text) → fits_token o (Sign 40 code) t ≡ true → Fits o most room (Nest row.ALPHA ∷ is) ts
    → Spells o (t ∷ (tokens ts ++ more)) s → starts o start.AlphaInside s ≡ true
inside_put o most room code is (Coded c) ts more s h fits spelled =
    inside_seen o c (tokens ts ++ more) s spelled ∙ both (c == 40) _ h (nest_alpha o most room is ts more spelled.0 fits spelled.1.1)
inside_put o most room code is (Plain j w) ts more s h fits spelled = cc
inside_put o most room code is (Short c) ts more s h fits spelled = cc
inside_put o most room code is (Lined x y) ts more s h fits spelled = cc

inside_row : (o : Origin) (most room code : ℕ) (is : List Item) (a : Trees) (more : List Token) (s : Text) → Fits o most room (Sign 40 code ∷ Nest row.ALPHA ∷ is) a → Spells o (tokens a ++ more) s
    → starts o start.AlphaInside s ≡ true
inside_row o most room code is a more s fits spelled =
    let one = sign_step o most room 40 code (Nest row.ALPHA ∷ is) a fits in
    let P : List Token → Type 0 = λ l. Spells o (l ++ more) s in
    inside_put o most room code is one.0 one.1.0 more s one.1.1.0 one.1.1.1.0 (subst P (ap tokens one.1.1.1.1) spelled)

inside_first_row : (o : Origin) (most room : ℕ) (inner : Trees) (more : List Token) (s : Text) → Fits o most room (row_items row.SCRATCHED_FILE) inner → Spells o (tokens inner ++ more) s → starts o start.AlphaInside s ≡ true
unfolding row_items
inside_first_row o most room inner more s fits spelled = inside_row o most room 10 (Sign 41 11 ∷ []) inner more s fits spelled

-- B E G
three_codes : (o : Origin) (c d e : ℕ) (ts : List Token) (s : Text) → (c == 66) ≡ true → (d == 69) ≡ true → (e == 71) ≡ true → Spells o (Coded c ∷ Coded d ∷ Coded e ∷ ts) s
    → starts o (start.Letters 66 69 71) s ≡ true
three_codes o c d e ts s h i l spelled = letters_seen o (Coded c) (Coded d ∷ Coded e ∷ ts) s refl spelled ∙ both (c == 66) _ h (both (d == 69) _ i l)

beg_put : (o : Origin) (c1 c2 c3 : ℕ) (t u v : Token) (ts : List Token) (s : Text) → fits_token o (Sign 66 c1) t ≡ true → fits_token o (Sign 69 c2) u ≡ true
    → fits_token o (Sign 71 c3) v ≡ true → Spells o (t ∷ u ∷ v ∷ ts) s → starts o (start.Letters 66 69 71) s ≡ true
beg_put o c1 c2 c3 (Coded c) (Coded d) (Coded e) ts s h i l spelled = three_codes o c d e ts s h i l spelled
beg_put o c1 c2 c3 (Plain j w) u v ts s h i l spelled = cc
beg_put o c1 c2 c3 (Short c) u v ts s h i l spelled = cc
beg_put o c1 c2 c3 (Lined x y) u v ts s h i l spelled = cc
beg_put o c1 c2 c3 (Coded c) (Plain x y) v ts s h i l spelled = cc
beg_put o c1 c2 c3 (Coded c) (Short d) v ts s h i l spelled = cc
beg_put o c1 c2 c3 (Coded c) (Lined x y) v ts s h i l spelled = cc
beg_put o c1 c2 c3 (Coded c) (Coded d) (Plain x y) ts s h i l spelled = cc
beg_put o c1 c2 c3 (Coded c) (Coded d) (Short e) ts s h i l spelled = cc
beg_put o c1 c2 c3 (Coded c) (Coded d) (Lined x y) ts s h i l spelled = cc

beg_row : (o : Origin) (most room c1 c2 c3 : ℕ) (a : Trees) (more : List Token) (s : Text) → Fits o most room (Sign 66 c1 ∷ Sign 69 c2 ∷ Sign 71 c3 ∷ []) a
    → Spells o (tokens a ++ more) s → starts o (start.Letters 66 69 71) s ≡ true
beg_row o most room c1 c2 c3 a more s fits spelled =
    let one = sign_step o most room 66 c1 (Sign 69 c2 ∷ Sign 71 c3 ∷ []) a fits in
    let two_ = sign_step o most room 69 c2 (Sign 71 c3 ∷ []) one.1.0 one.1.1.1.0 in
    let three = sign_step o most room 71 c3 [] two_.1.0 two_.1.1.1.0 in
    let same : tokens a ≡ one.0 ∷ two_.0 ∷ three.0 ∷ tokens three.1.0 =
    ap tokens one.1.1.1.1 ∙ ap (λ (b : Trees). one.0 ∷ tokens b) two_.1.1.1.1 ∙ ap (λ (b : Trees). one.0 ∷ two_.0 ∷ tokens b) three.1.1.1.1 in
    let P : List Token → Type 0 = λ l. Spells o (l ++ more) s in
    beg_put o c1 c2 c3 one.0 two_.0 three.0 (tokens three.1.0 ++ more) s one.1.1.0 two_.1.1.0 three.1.1.0 (subst P same spelled)

beg_first : (o : Origin) (most room : ℕ) (inner : Trees) (more : List Token) (s : Text) → Fits o most room (row_items row.BEG) inner → Spells o (tokens inner ++ more) s → starts o (start.Letters 66 69 71) s ≡ true
unfolding row_items
beg_first o most room inner more s fits spelled = beg_row o most room 22 22 22 inner more s fits spelled

-- all of them
fits_same : (o : Origin) (most room n m : ℕ) (inner : Trees) → (n == m) ≡ true → Fits o most room (row_items n) inner → Fits o most room (row_items m) inner
fits_same o most room n m inner h fits = let P : ℕ → Type 0 = λ k. Fits o most room (row_items k) inner in subst P (equal n m h) fits

letters_same : (o : Origin) (a b c : ℕ) (s : Text) (x : Bool) → (a == 66) ≡ true → (b == 69) ≡ true → (c == 71) ≡ true → starts o (start.Letters 66 69 71) s ≡ x → starts o (start.Letters a b c) s ≡ x
letters_same o a b c s x h i l is = (λ j. starts o (start.Letters (equal a 66 h j) (equal b 69 i j) (equal c 71 l j)) s) ∙ is

pub far_first : (o : Origin) (st : Start) (n k most room : ℕ) (inner : Trees) (more : List Token) (s : Text) → is_far st n k ≡ true → Fits o most room (row_items n) inner
    → Spells o (tokens inner ++ more) s → starts o st s ≡ true
far_first o start.Array n k most room inner more s h fits spelled =
    elim (or_cases (n == row.WHOLE_ARRAY && (k == row.OPERAND_OF_ANY_KIND || k == row.RECEIVER)) (n == row.ALPHA_ARRAY && k == row.ALPHA_RECEIVER_VARIABLE) h) [
      | inl e ↦ array_first o most room inner more s (fits_same o most room n row.WHOLE_ARRAY inner (and_left _ _ e) fits) spelled
      | inr e ↦ alpha_array_first o most room inner more s (fits_same o most room n row.ALPHA_ARRAY inner (and_left _ _ e) fits) spelled
    ]
far_first o start.AlphaInside n k most room inner more s h fits spelled = inside_first_row o most room inner more s (fits_same o most room n row.SCRATCHED_FILE inner (and_left _ _ h) fits) spelled
far_first o (start.Letters a b c) n k most room inner more s h fits spelled =
    let rest = and_right (a == 66) _ h in
    let letters = and_left (b == 69 && c == 71) _ rest in
    letters_same o a b c s true (and_left _ _ h) (and_left _ _ letters) (and_right (b == 69) _ letters)
    (beg_first o most room inner more s (fits_same o most room n row.BEG inner (and_left _ _ (and_right (b == 69 && c == 71) _ rest)) fits) spelled)
far_first o st n k most room inner more s h fits spelled = cc

array_other : (o : Origin) (k most room : ℕ) (inner : Trees) (more : List Token) (s : Text) → (k == row.OPERAND_OF_ANY_KIND || k == row.RECEIVER) ≡ true → Fits o most room (row_items k) inner
    → Refused o (of k).tails more → Spells o (tokens inner ++ more) s → starts o start.Array s ≡ false
array_other o k most room inner more s h fits refused spelled = elim (or_cases (k == row.OPERAND_OF_ANY_KIND) (k == row.RECEIVER) h) [
  | inl e ↦ (let P : ℕ → Type 0 = λ n. Refused o (of n).tails more in
      array_second o most room row.OPERAND_OF_ANY_KIND inner more s refl operand_ends (and_left _ _ operand_full) (fits_same o most room k row.OPERAND_OF_ANY_KIND inner e fits) (subst P (equal k row.OPERAND_OF_ANY_KIND e) refused) spelled)
  | inr e ↦ (let P : ℕ → Type 0 = λ n. Refused o (of n).tails more in
      array_second o most room row.RECEIVER inner more s refl receiver_ends (and_right (not (of row.OPERAND_OF_ANY_KIND).empty) _ operand_full) (fits_same o most room k row.RECEIVER inner e fits) (subst P (equal k row.RECEIVER e) refused) spelled)
]

no_element : (o : Origin) (k most room : ℕ) (inner : Trees) (more : List Token) (s : Text) → (k == row.ALPHA_RECEIVER_VARIABLE) ≡ true → Fits o most room (row_items k) inner
    → Refused o (of k).tails more → Spells o (tokens inner ++ more) s → starts o start.Array s ≡ false
no_element o k most room inner more s h fits refused spelled =
    let P : ℕ → Type 0 = λ n. Refused o (of n).tails more in
    array_second o most room row.ALPHA_RECEIVER_VARIABLE inner more s refl element_ends element_full (fits_same o most room k row.ALPHA_RECEIVER_VARIABLE inner h fits) (subst P (equal k row.ALPHA_RECEIVER_VARIABLE h) refused) spelled

pub far_second : (o : Origin) (st : Start) (n k most room : ℕ) (inner : Trees) (more : List Token) (s : Text) → is_far st n k ≡ true → Fits o most room (row_items k) inner
    → Refused o (of k).tails more → Spells o (tokens inner ++ more) s → starts o st s ≡ false
far_second o start.Array n k most room inner more s h fits refused spelled =
    elim (or_cases (n == row.WHOLE_ARRAY && (k == row.OPERAND_OF_ANY_KIND || k == row.RECEIVER)) (n == row.ALPHA_ARRAY && k == row.ALPHA_RECEIVER_VARIABLE) h) [
      | inl e ↦ array_other o k most room inner more s (and_right (n == row.WHOLE_ARRAY) _ e) fits refused spelled
      | inr e ↦ no_element o k most room inner more s (and_right (n == row.ALPHA_ARRAY) _ e) fits refused spelled
    ]
far_second o start.AlphaInside n k most room inner more s h fits refused spelled = inside_second o most room inner more s (fits_same o most room k row.SUM inner (and_right (n == row.SCRATCHED_FILE) _ h) fits) spelled
far_second o (start.Letters a b c) n k most room inner more s h fits refused spelled =
    let rest = and_right (a == 66) _ h in
    let letters = and_left (b == 69 && c == 71) _ rest in
    letters_same o a b c s false (and_left _ _ h) (and_left _ _ letters) (and_right (b == 69) _ letters)
    (letters_second o most room inner more s (fits_same o most room k row.SUM inner (and_right (n == row.BEG) _ (and_right (b == 69 && c == 71) _ rest)) fits) spelled)
far_second o st n k most room inner more s h fits refused spelled = cc
