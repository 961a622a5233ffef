-- The tokens of a line's tree may stand side by side, and each is a good token.
use Rattle.std.proofs.Common.{◌≡◌, ℕ, zero, suc, ◌+◌, ◌-◌, get_or, ◌==◌, ◌&&◌, ◌||◌, not, nat_le, nat_lt, Bool, true, false, if◌then◌else◌, List, [], ◌∷◌, ◌++◌, refl, sym, ap, subst, ◌∙◌, arith, append-nil, inl, inr, ◌⊎◌}
use Rattle.std.proofs.lemmas.Bool.Decides.{nat_tests}
use Rattle.b2_base.specs.Lexical.{first, is_letter}
use Rattle.b2_atom.specs.Words.{Text, all_words, word_text}
use Rattle.b2_atom.specs.Tokens.{Token, is_word}
use Rattle.b2_atom.specs.Tokens.Token.{Coded, Short, Plain, Lined}
use Rattle.b2_atom.specs.Tree.{Trees, tokens}
use Rattle.b2_atom.specs.Grammar.{row_items, is_among}
use Rattle.b2_atom.specs.Spelling.{is_word_or_sign, is_literal, is_free_text, is_image, is_dollar, is_unrelated, is_lettered, may_follow, may_follow_leaf, Neighbours, AllGood, good_token, is_in, plain_signs}
use Rattle.b2_atom.specs.Fitting.{leaf_number, is_remark, is_rest, RemarksEnd, LineTreeWithin}
use Rattle.b2_atom.specs.declared.rows.TheConstants as row
use Rattle.b2_atom.specs.declared.words.Origin.{Origin}
use Rattle.b2_atom.specs.declared.words.TheConstants as word
use Rattle.b2_atom.specs.declared.forms.Leaf.{Leaf}
use Rattle.b2_atom.specs.declared.forms.Leaf.TheVariants as leaf
use Rattle.b2_atom.proofs.Booleans.{and_left, and_right, or_left, or_right, or_none, or_one, or_other, or_cases, never, not_true, equal, both, either_way}
use Rattle.b2_atom.proofs.settled.Lookaheads.{Span, apart, when, dollar_spans, every, some, of, of_items, covered, statement_heads, good_lookahead, before_good, Lookahead, is_ahead, symbols, is_kind, is_one, not_free, not_image, no_dollar, unrelated, lettered, is_data, beside_code, beside_leaf, is_calm, beside}
use Rattle.b2_atom.proofs.settled.Lookaheads.Lookahead.{Any, None, Spanned, ShortOf, Hand, Numbered}
use Rattle.b2_atom.proofs.settled.LookaheadAnswers.{same_leaf, some_lookahead}
use Rattle.b2_atom.proofs.settled.Computed.{row_paired, row_good, line_heads}
use Rattle.b2_atom.proofs.settled.Heads.{leads, led_known, covered_all}
use Rattle.b2_atom.proofs.settled.Choice.{opens_statement, opening}
use Rattle.b2_atom.proofs.settled.Pairs.{TwoTokens, Tells, lookahead_last, Chain, Follows, chained}

-- after a remark any token may stand here, since nothing does
abbrev pub may_stand : TwoTokens
may_stand t u = is_remark t || is_free_text t || may_follow t u

turn_not : (b : Bool) → b ≡ false → not b ≡ true
turn_not true h = cc
turn_not false h = refl

kind_of : (n : ℕ) (j : Leaf) (g : Lookahead) (w : Text) → is_kind n g ≡ false → is_ahead g (Plain j w ∷ []) ≡ true → is_one g ≡ true → (leaf_number j == n) ≡ false
kind_of n j (Hand k) w h m one = let same : leaf_number j ≡ leaf_number k = equal (leaf_number j) (leaf_number k) (and_left _ _ m) in ap (λ (x : ℕ). x == n) same ∙ h
kind_of n j Any w h m one = cc
kind_of n j None w h m one = cc
kind_of n j (Spanned a b) w h m one = cc
kind_of n j (ShortOf c) w h m one = cc
kind_of n j Numbered w h m one = cc

free_kind : (j : Leaf) (w : Text) → (leaf_number j == 14) ≡ false → is_free_text (Plain j w) ≡ false
free_kind leaf.Text w h = cc
free_kind j w h = refl

image_kind : (j : Leaf) (w : Text) → (leaf_number j == 13) ≡ false → is_image (Plain j w) ≡ false
image_kind leaf.Image w h = cc
image_kind j w h = refl

tells_free : (g : Lookahead) (u : Token) → not_free g ≡ true → is_ahead g (u ∷ []) ≡ true → is_free_text u ≡ false
tells_free g (Coded c) h m = refl
tells_free g (Short c) h m = refl
tells_free g (Lined x y) h m = refl
tells_free g (Plain j w) h m = free_kind j w (kind_of 14 j g w (not_true _ (and_right (is_one g) _ h)) m (and_left _ _ h))

tells_image : (g : Lookahead) (u : Token) → not_image g ≡ true → is_ahead g (u ∷ []) ≡ true → is_image u ≡ false
tells_image g (Coded c) h m = refl
tells_image g (Short c) h m = refl
tells_image g (Lined x y) h m = refl
tells_image g (Plain j w) h m = image_kind j w (kind_of 13 j g w (not_true _ (and_right (is_one g) _ h)) m (and_left _ _ h))

code_symbol : (a b c : ℕ) → (nat_lt b 65 || nat_lt 90 a) ≡ true → is_among a b c ≡ true → not (is_letter c) ≡ true
code_symbol a b c h m = grind (arith, nat_tests)

hand_relation : (j : Leaf) (w : Text) → j ≡ leaf.Relation → is_word_or_sign (Plain j w) ≡ true
hand_relation j w h = ap (λ (l : Leaf). is_word_or_sign (Plain l w)) h

hand_symbol : (k j : Leaf) (w : Text) → symbols (Hand k) ≡ true → j ≡ k → is_word_or_sign (Plain j w) ≡ true
hand_symbol leaf.Relation j w h same = hand_relation j w same
hand_symbol k j w h same = cc

tells_symbol : (g : Lookahead) (u : Token) → symbols g ≡ true → is_ahead g (u ∷ []) ≡ true → is_word_or_sign u ≡ true
tells_symbol (Spanned a b) (Coded c) h m = code_symbol a b c h m
tells_symbol (Spanned a b) (Plain j w) h m = cc
tells_symbol (Spanned a b) (Lined x y) h m = cc
tells_symbol (Spanned a b) (Short c) h m = cc
tells_symbol (ShortOf c) u h m = cc
tells_symbol (Hand k) (Plain j w) h m = hand_symbol k j w h (same_leaf k j (and_left _ _ m))
tells_symbol (Hand k) (Coded c) h m = cc
tells_symbol (Hand k) (Lined x y) h m = cc
tells_symbol (Hand k) (Short c) h m = cc
tells_symbol Any u h m = cc
tells_symbol None u h m = cc
tells_symbol Numbered u h m = cc

outside : (a b k : ℕ) → (nat_lt k a || nat_lt b k) ≡ true → is_among a b k ≡ true → ⊥
outside a b k h m = grind (arith, nat_tests)

no_dollar_here : (e : Bool) (a b k : ℕ) (ss : List Span) → apart (when e ((k, k) ∷ []) ++ ss) (a, b) ≡ true → is_among a b k ≡ true → e ≡ false
no_dollar_here true a b k ss h m = absurd (outside a b k (and_left _ _ h) m)
no_dollar_here false a b k ss h m = refl

apart_behind : (e : Bool) (a b k : ℕ) (ss : List Span) → apart (when e ((k, k) ∷ []) ++ ss) (a, b) ≡ true → apart ss (a, b) ≡ true
apart_behind true a b k ss h = and_right _ _ h
apart_behind false a b k ss h = h

no_dollar_at : (ws : List Text) (i a b k : ℕ) → apart (dollar_spans ws k) (a, b) ≡ true → is_among a b (i + k) ≡ true → (first (get_or ws i []) == 36) ≡ false
no_dollar_at [] i a b k h m = refl
no_dollar_at (w ∷ ws) zero a b k h m = let same : k ≡ 0 + k = omega arith in no_dollar_here (first w == 36) a b k (dollar_spans ws (suc k)) h (ap (is_among a b) same ∙ m)
no_dollar_at (w ∷ ws) (suc i) a b k h m =
    let same : suc i + k ≡ i + suc k = omega arith in
    no_dollar_at ws i a b (suc k) (apart_behind (first w == 36) a b k (dollar_spans ws (suc k)) h) (ap (is_among a b) (sym same) ∙ m)

high_apart : (x y : Bool) → (x || y) ≡ true → x ≡ false → y ≡ true
high_apart true y h k = cc
high_apart false y h k = h

dollar_by : (a b c : ℕ) (e : Bool) → is_word c ≡ e → no_dollar (Spanned a b) ≡ true → is_among a b c ≡ true → (e && first (word_text c) == 36) ≡ false
dollar_by a b c false is h m = refl
dollar_by a b c true is h m =
    let high : nat_lt b 128 ≡ false = grind (arith, nat_tests) in
    let again : c - 128 + 128 ≡ c = grind (arith, nat_tests) in
    no_dollar_at all_words (c - 128) a b 128 (high_apart (nat_lt b 128) _ h high) (ap (is_among a b) again ∙ m)

dollar_code : (a b c : ℕ) → no_dollar (Spanned a b) ≡ true → is_among a b c ≡ true → is_dollar (Coded c) ≡ false
dollar_code a b c h m = dollar_by a b c (is_word c) refl h m

tells_dollar : (g : Lookahead) (u : Token) → no_dollar g ≡ true → is_ahead g (u ∷ []) ≡ true → is_dollar u ≡ false
tells_dollar (Spanned a b) (Coded c) h m = dollar_code a b c h m
tells_dollar (Spanned a b) (Plain j w) h m = refl
tells_dollar (Spanned a b) (Lined x y) h m = refl
tells_dollar (Spanned a b) (Short c) h m = refl
tells_dollar (ShortOf c) (Coded d) h m = cc
tells_dollar (ShortOf c) (Short d) h m = refl
tells_dollar (ShortOf c) (Plain j w) h m = refl
tells_dollar (ShortOf c) (Lined x y) h m = refl
tells_dollar (Hand k) (Coded c) h m = cc
tells_dollar (Hand k) (Plain j w) h m = refl
tells_dollar (Hand k) (Lined x y) h m = refl
tells_dollar (Hand k) (Short c) h m = refl
tells_dollar Numbered (Coded c) h m = cc
tells_dollar Numbered (Plain j w) h m = refl
tells_dollar Numbered (Lined x y) h m = refl
tells_dollar Numbered (Short c) h m = refl
tells_dollar Any u h m = cc
tells_dollar None u h m = cc

unrelated_code : (a b c : ℕ) → (nat_lt b 61 || nat_lt 61 a) ≡ true → is_among a b c ≡ true → not (c == 61) ≡ true
unrelated_code a b c h m = grind (arith, nat_tests)

relation_kind : (j : Leaf) (w : Text) → (leaf_number j == 15) ≡ false → is_unrelated (Plain j w) ≡ true
relation_kind leaf.Relation w h = cc
relation_kind j w h = refl

tells_unrelated : (g : Lookahead) (u : Token) → unrelated g ≡ true → is_ahead g (u ∷ []) ≡ true → is_unrelated u ≡ true
tells_unrelated (Spanned a b) (Coded c) h m = unrelated_code a b c h m
tells_unrelated (Spanned a b) (Plain j w) h m = cc
tells_unrelated (Spanned a b) (Lined x y) h m = cc
tells_unrelated (Spanned a b) (Short c) h m = cc
tells_unrelated (ShortOf c) (Coded d) h m = cc
tells_unrelated (ShortOf c) (Short d) h m = refl
tells_unrelated (ShortOf c) (Plain j w) h m = cc
tells_unrelated (ShortOf c) (Lined x y) h m = refl
tells_unrelated (Hand k) (Coded c) h m = cc
tells_unrelated (Hand k) (Plain j w) h m = relation_kind j w (kind_of 15 j (Hand k) w (not_true _ h) m refl)
tells_unrelated (Hand k) (Lined x y) h m = refl
tells_unrelated (Hand k) (Short c) h m = refl
tells_unrelated Numbered (Coded c) h m = cc
tells_unrelated Numbered (Plain j w) h m = cc
tells_unrelated Numbered (Lined x y) h m = refl
tells_unrelated Numbered (Short c) h m = refl
tells_unrelated Any u h m = cc
tells_unrelated None u h m = cc

lettered_code : (c a b d : ℕ) → lettered c (Spanned a b) ≡ true → is_among a b d ≡ true → is_lettered c (Coded d) ≡ true
lettered_code c a b d h m = grind (arith, nat_tests)

tells_lettered : (c : ℕ) (g : Lookahead) (u : Token) → lettered c g ≡ true → is_ahead g (u ∷ []) ≡ true → is_lettered c u ≡ true
tells_lettered c (Spanned a b) (Coded d) h m = lettered_code c a b d h m
tells_lettered c (Spanned a b) (Plain j w) h m = cc
tells_lettered c (Spanned a b) (Lined x y) h m = cc
tells_lettered c (Spanned a b) (Short d) h m = cc
tells_lettered c (ShortOf d) u h m = cc
tells_lettered c (Hand k) u h m = cc
tells_lettered c Numbered (Coded d) h m = cc
tells_lettered c Numbered (Plain j w) h m = cc
tells_lettered c Numbered (Short d) h m = cc
tells_lettered c Numbered (Lined x y) h m = refl
tells_lettered c Any u h m = cc
tells_lettered c None u h m = cc

data_kind : (j : Leaf) (w : Text) → (leaf_number j == 13) ≡ false → (leaf_number j == 15) ≡ false → (is_word_or_sign (Plain j w) || is_image (Plain j w)) ≡ false
data_kind leaf.Image w h k = cc
data_kind leaf.Relation w h k = cc
data_kind j w h k = refl

tells_data : (g : Lookahead) (u : Token) → is_data g ≡ true → is_ahead g (u ∷ []) ≡ true → (is_word_or_sign u || is_image u) ≡ false
tells_data (Hand k) (Plain j w) h m =
    let none = not_true (is_kind 13 (Hand k) || is_kind 15 (Hand k)) h in
    data_kind j w (kind_of 13 j (Hand k) w (or_left _ _ none) m refl) (kind_of 15 j (Hand k) w (or_right (is_kind 13 (Hand k)) _ none) m refl)
tells_data (Hand k) (Coded c) h m = cc
tells_data (Hand k) (Lined x y) h m = cc
tells_data (Hand k) (Short c) h m = cc
tells_data (Spanned a b) u h m = cc
tells_data (ShortOf c) u h m = cc
tells_data Numbered u h m = cc
tells_data Any u h m = cc
tells_data None u h m = cc

turn_true : (a b : Bool) → a ≡ false → b ≡ true → (not a && b) ≡ true
turn_true true b h k = cc
turn_true false b h k = k

code_by : (r l d p nf lt da im free lett bad img : Bool) → (if r then true else (nf && (if l then lt else (if d then da else (if p then im else true))))) ≡ true
    → (nf ≡ true → free ≡ false) → (lt ≡ true → lett ≡ true) → (da ≡ true → bad ≡ false) → (im ≡ true → img ≡ false)
    → ((r || false) || (if r then free else (not free && (if l then lett else (if d then not bad else (if p then not img else true)))))) ≡ true
code_by true l d p nf lt da im free lett bad img h a b c e = refl
code_by false true d p nf lt da im free lett bad img h a b c e = turn_true free lett (a (and_left _ _ h)) (b (and_right nf _ h))
code_by false false true p nf lt da im free lett bad img h a b c e = turn_true free (not bad) (a (and_left _ _ h)) (turn_not bad (c (and_right nf _ h)))
code_by false false false true nf lt da im free lett bad img h a b c e = turn_true free (not img) (a (and_left _ _ h)) (turn_not img (e (and_right nf _ h)))
code_by false false false false nf lt da im free lett bad img h a b c e = turn_true free true (a (and_left _ _ h)) refl

tells_code : (c : ℕ) (g : Lookahead) (u : Token) → beside_code c g ≡ true → is_ahead g (u ∷ []) ≡ true → may_stand (Coded c) u ≡ true
tells_code c g u h m =
    code_by (c == word.REM || c == 37) (is_letter c) (c == word.DATA) (c == word.PRINT) (not_free g) (lettered c g) (is_data g) (not_image g)
    (is_free_text u) (is_lettered c u) (is_word_or_sign u || is_image u) (is_image u) h
    (λ k. tells_free g u k m) (λ k. tells_lettered c g u k m) (λ k. tells_data g u k m) (λ k. tells_image g u k m)

calm_remark : (a b c : ℕ) → is_calm a b ≡ true → is_among a b c ≡ true → (c == word.REM || c == 37) ≡ false
calm_remark a b c h m = grind (arith, nat_tests)

calm_letter : (a b c : ℕ) → is_calm a b ≡ true → is_among a b c ≡ true → is_letter c ≡ false
calm_letter a b c h m = grind (arith, nat_tests)

calm_data : (a b c : ℕ) → is_calm a b ≡ true → is_among a b c ≡ true → (c == word.DATA) ≡ false
calm_data a b c h m = grind (arith, nat_tests)

calm_print : (a b c : ℕ) → is_calm a b ≡ true → is_among a b c ≡ true → (c == word.PRINT) ≡ false
calm_print a b c h m = grind (arith, nat_tests)

calm_by : (r l d p free lett bad img : Bool) → r ≡ false → l ≡ false → d ≡ false → p ≡ false → free ≡ false
    → ((r || false) || (if r then free else (not free && (if l then lett else (if d then not bad else (if p then not img else true)))))) ≡ true
calm_by true l d p free lett bad img a b c e f = cc
calm_by false true d p free lett bad img a b c e f = cc
calm_by false false true p free lett bad img a b c e f = cc
calm_by false false false true free lett bad img a b c e f = cc
calm_by false false false false free lett bad img a b c e f = turn_true free true f refl

calm_stands : (a b c : ℕ) (u : Token) → is_calm a b ≡ true → is_among a b c ≡ true → is_free_text u ≡ false → may_stand (Coded c) u ≡ true
calm_stands a b c u h m f =
    calm_by (c == word.REM || c == 37) (is_letter c) (c == word.DATA) (c == word.PRINT) (is_free_text u) (is_lettered c u) (is_word_or_sign u || is_image u) (is_image u)
    (calm_remark a b c h m) (calm_letter a b c h m) (calm_data a b c h m) (calm_print a b c h m) f

literal_kind : (j : Leaf) (w : Text) → j ≡ leaf.Literal → is_literal (Plain j w) ≡ true
literal_kind j w h = ap (λ (l : Leaf). is_literal (Plain l w)) h

hand_literal : (k j : Leaf) (w : Text) → (leaf_number k == 6) ≡ true → j ≡ k → is_literal (Plain j w) ≡ true
hand_literal leaf.Literal j w h same = literal_kind j w same
hand_literal k j w h same = cc

tells_literal : (g : Lookahead) (u : Token) → is_kind 6 g ≡ true → is_ahead g (u ∷ []) ≡ true → is_literal u ≡ true
tells_literal (Hand k) (Plain j w) h m = hand_literal k j w h (same_leaf k j (and_left _ _ m))
tells_literal (Hand k) (Coded c) h m = cc
tells_literal (Hand k) (Lined x y) h m = cc
tells_literal (Hand k) (Short c) h m = cc
tells_literal (Spanned a b) u h m = cc
tells_literal (ShortOf c) u h m = cc
tells_literal Numbered u h m = cc
tells_literal Any u h m = cc
tells_literal None u h m = cc

tells_leaf : (k : Leaf) (w : Text) (g : Lookahead) (u : Token) → beside_leaf k g ≡ true → is_ahead g (u ∷ []) ≡ true → may_stand (Plain k w) u ≡ true
tells_leaf leaf.Number w g u h m = tells_symbol g u h m
tells_leaf leaf.SignedNumber w g u h m = tells_symbol g u h m
tells_leaf leaf.Name w g u h m = both (is_word_or_sign u) _ (tells_symbol g u (and_left _ _ h) m) (turn_not _ (tells_dollar g u (and_right (symbols g) _ h) m))
tells_leaf leaf.LocalName w g u h m = both (is_word_or_sign u) _ (tells_symbol g u (and_left _ _ h) m) (turn_not _ (tells_dollar g u (and_right (symbols g) _ h) m))
tells_leaf leaf.FunctionName w g u h m = tells_symbol g u h m
tells_leaf leaf.Slot w g u h m = tells_symbol g u h m
tells_leaf leaf.Small w g u h m = elim (or_cases (symbols g) (is_kind 6 g) h) [
  | inl e ↦ or_one _ _ (tells_symbol g u e m)
  | inr e ↦ or_other (is_word_or_sign u) _ (tells_literal g u e m)
]
tells_leaf leaf.Relation w g u h m =
    let rest = and_right (unrelated g) _ h in
    both (is_unrelated u) _ (tells_unrelated g u (and_left _ _ h) m)
    (turn_not _ (or_none _ _ (tells_free g u (and_left _ _ rest) m) (tells_image g u (and_right (not_free g) _ rest) m)))
tells_leaf leaf.Text w g u h m = refl
tells_leaf k w g u h m = turn_not _ (tells_free g u h m)

tells_hand : (k j : Leaf) (w : Text) (g : Lookahead) (u : Token) → j ≡ k → beside_leaf k g ≡ true → is_ahead g (u ∷ []) ≡ true → may_stand (Plain j w) u ≡ true
tells_hand k j w g u same h m = ap (λ (l : Leaf). may_stand (Plain l w) u) same ∙ tells_leaf k w g u h m

if_calm : (e : Bool) (x y : Bool) → (if e then x else y) ≡ true → ((e ≡ true) × (x ≡ true)) ⊎ (y ≡ true)
if_calm true x y h = inl (refl, h)
if_calm false x y h = inr h

single : (a b c : ℕ) → (a == b) ≡ true → is_among a b c ≡ true → c ≡ a
single a b c h m = grind (arith, nat_tests)

tells_spanned : (a b c : ℕ) (g : Lookahead) (u : Token) → beside (Spanned a b) g ≡ true → is_among a b c ≡ true → is_ahead g (u ∷ []) ≡ true → may_stand (Coded c) u ≡ true
tells_spanned a b c g u h k m = elim (if_calm (a == b) (beside_code a g) (is_calm a b && not_free g) h) [
  | inl e ↦ tells_code c g u (ap (λ (n : ℕ). beside_code n g) (single a b c e.0 k) ∙ e.1) m
  | inr e ↦ calm_stands a b c u (and_left _ _ e) k (tells_free g u (and_right (is_calm a b) _ e) m)
]

-- what the lookaheads tell
pub tells : Tells beside may_stand
tells (Spanned a b) g (Coded c) u us h k m = tells_spanned a b c g u h k (sym (lookahead_last g u us) ∙ m)
tells (Spanned a b) g (Plain j w) u us h k m = cc
tells (Spanned a b) g (Lined x y) u us h k m = cc
tells (Spanned a b) g (Short c) u us h k m = cc
tells (ShortOf c) g (Short d) u us h k m = turn_not _ (tells_free g u h (sym (lookahead_last g u us) ∙ m))
tells (ShortOf c) g (Coded d) u us h k m = cc
tells (ShortOf c) g (Plain j w) u us h k m = cc
tells (ShortOf c) g (Lined x y) u us h k m = cc
tells (Hand l) g (Plain j w) u us h k m = tells_hand l j w g u (same_leaf l j (and_left _ _ k)) h (sym (lookahead_last g u us) ∙ m)
tells (Hand l) g (Coded c) u us h k m = cc
tells (Hand l) g (Lined x y) u us h k m = cc
tells (Hand l) g (Short c) u us h k m = cc
tells Numbered g (Lined x y) u us h k m = tells_symbol g u h (sym (lookahead_last g u us) ∙ m)
tells Numbered g (Coded c) u us h k m = cc
tells Numbered g (Plain j w) u us h k m = cc
tells Numbered g (Short c) u us h k m = cc
tells Any g t u us h k m = cc
tells None g t u us h k m = cc

-- good tokens
good_span : (a b c : ℕ) → (nat_le word.REM a && nat_le b word.LAST) ≡ true → is_among a b c ≡ true → is_among word.REM word.LAST c ≡ true
good_span a b c h m = grind (arith, nat_tests)

good_code : (a b c : ℕ) → good_lookahead (Spanned a b) ≡ true → is_among a b c ≡ true → good_token (Coded c) ≡ true
good_code a b c h m = elim (or_cases (nat_le word.REM a && nat_le b word.LAST) (a == b && is_in a plain_signs) h) [
  | inl e ↦ or_one _ _ (good_span a b c e m)
  | inr e ↦ or_other (is_among word.REM word.LAST c) _ (ap (λ (n : ℕ). is_in n plain_signs) (single a b c (and_left _ _ e) m) ∙ and_right (a == b) _ e)
]

lookahead_good : (g : Lookahead) (u : Token) (us : List Token) → good_lookahead g ≡ true → is_ahead g (u ∷ us) ≡ true → good_token u ≡ true
lookahead_good (Spanned a b) (Coded c) us h m = good_code a b c h m
lookahead_good (Spanned a b) (Plain j w) us h m = cc
lookahead_good (Spanned a b) (Lined x y) us h m = cc
lookahead_good (Spanned a b) (Short c) us h m = cc
lookahead_good (ShortOf c) (Short d) us h m = and_right (d == c) _ m
lookahead_good (ShortOf c) (Coded d) us h m = cc
lookahead_good (ShortOf c) (Plain j w) us h m = cc
lookahead_good (ShortOf c) (Lined x y) us h m = cc
lookahead_good (Hand k) (Plain j w) us h m = and_right (leaf_number j == leaf_number k) _ m
lookahead_good (Hand k) (Coded c) us h m = cc
lookahead_good (Hand k) (Lined x y) us h m = cc
lookahead_good (Hand k) (Short c) us h m = cc
lookahead_good Numbered (Lined x y) us h m = m
lookahead_good Numbered (Coded c) us h m = cc
lookahead_good Numbered (Plain j w) us h m = cc
lookahead_good Numbered (Short c) us h m = cc
lookahead_good Any u us h m = cc
lookahead_good None u us h m = cc

abbrev pub then_good : TwoTokens
then_good t u = good_token u

tells_good : Tells before_good then_good
tells_good f g t u us h k m = lookahead_good g u us h m

all_good : (t : Token) (ts : List Token) → good_token t ≡ true → Chain then_good (t ∷ ts) → AllGood (t ∷ ts)
all_good t [] h c = (h, tt)
all_good t (u ∷ us) h c = (h, all_good u us c.0 c.1)

-- free text stands after a remark alone
unfree_symbol : (u : Token) → is_word_or_sign u ≡ true → is_free_text u ≡ false
unfree_symbol (Coded c) h = refl
unfree_symbol (Short c) h = refl
unfree_symbol (Plain leaf.Text w) h = cc
unfree_symbol (Plain k w) h = refl
unfree_symbol (Lined x y) h = refl

unfree_literal : (u : Token) → is_literal u ≡ true → is_free_text u ≡ false
unfree_literal (Coded c) h = refl
unfree_literal (Short c) h = refl
unfree_literal (Plain leaf.Text w) h = cc
unfree_literal (Plain k w) h = refl
unfree_literal (Lined x y) h = refl

unfree_leaf : (k : Leaf) (u : Token) → may_follow_leaf k u ≡ true → is_free_text u ≡ false
unfree_leaf leaf.Number u h = unfree_symbol u h
unfree_leaf leaf.SignedNumber u h = unfree_symbol u h
unfree_leaf leaf.Name u h = unfree_symbol u (and_left _ _ h)
unfree_leaf leaf.LocalName u h = unfree_symbol u (and_left _ _ h)
unfree_leaf leaf.FunctionName u h = unfree_symbol u h
unfree_leaf leaf.Slot u h = unfree_symbol u h
unfree_leaf leaf.Small u h = elim (or_cases (is_word_or_sign u) (is_literal u) h) [
  | inl e ↦ unfree_symbol u e
  | inr e ↦ unfree_literal u e
]
unfree_leaf leaf.Relation u h = or_left _ _ (not_true _ (and_right (is_unrelated u) _ h))
unfree_leaf leaf.Text u h = cc
unfree_leaf k u h = not_true _ h

unfree_by : (r free : Bool) (x : Bool) → r ≡ false → (if r then free else (not free && x)) ≡ true → free ≡ false
unfree_by true free x h k = cc
unfree_by false free x h k = not_true _ (and_left _ _ k)

unfree : (t u : Token) → is_remark t ≡ false → may_follow t u ≡ true → is_free_text u ≡ false
unfree (Coded c) u r h = unfree_by (c == word.REM || c == 37) (is_free_text u) _ r h
unfree (Plain k w) u r h = unfree_leaf k u h
unfree (Short c) u r h = not_true _ h
unfree (Lined x y) u r h = unfree_symbol u h

stands_follow : (r f m : Bool) → r ≡ false → f ≡ false → ((r || f) || m) ≡ true → m ≡ true
stands_follow true f m a b h = cc
stands_follow false true m a b h = cc
stands_follow false false m a b h = h

remark_free : (t u : Token) → is_remark t ≡ true → is_free_text u ≡ true → may_follow t u ≡ true
remark_free (Coded c) u r h = ap (λ (b : Bool). if b then is_free_text u else (not (is_free_text u) && (if is_letter c then is_lettered c u
    else (if c == word.DATA then not (is_word_or_sign u || is_image u) else (if c == word.PRINT then not (is_image u) else true))))) r ∙ h
remark_free (Plain k w) u r h = cc
remark_free (Short c) u r h = cc
remark_free (Lined x y) u r h = cc

after_remark : (t u : Token) (us : List Token) → is_remark t ≡ true → is_rest (u ∷ us) ≡ true → Neighbours (t ∷ u ∷ us)
after_remark t u [] r h = (remark_free t u r h, tt)
after_remark t u (v ∷ us) r h = cc

opens_unfree : (t : Token) → opens_statement t ≡ true → is_free_text t ≡ false
opens_unfree (Coded c) h = refl
opens_unfree (Plain leaf.Name w) h = refl
opens_unfree (Plain leaf.AlphaName w) h = refl
opens_unfree t h = cc

side_by_side : (t : Token) (ts : List Token) → is_free_text t ≡ false → Chain may_stand (t ∷ ts) → RemarksEnd (t ∷ ts) → Neighbours (t ∷ ts)
side_by_side t [] f c r = tt
side_by_side t (u ∷ us) f c r = elim (either_way (is_remark t)) [
  | inl e ↦ after_remark t u us e (r.0 e)
  | inr e ↦ (let m = stands_follow (is_remark t) (is_free_text t) (may_follow t u) e f c.0 in (m, side_by_side u us (unfree t u e m) c.1 r.1))
]

-- the tokens of a line's tree are good, and may stand side by side
good_line : (o : Origin) (ts : List Token) → some (λ (f : Lookahead). is_ahead f ts) (of row.LINE).heads ≡ true → Chain may_stand ts → Chain then_good ts → RemarksEnd ts → AllGood ts × Neighbours ts
good_line o [] begun a b r = (tt, tt)
good_line o (t ∷ ts) begun a b r =
    let one = some_lookahead good_lookahead (of row.LINE).heads (t ∷ ts) (and_left _ _ (and_right (covered statement_heads (of row.LINE).heads) _ line_heads)) begun in
    let opens = opening t ts (covered_all statement_heads (of row.LINE).heads (t ∷ ts) (and_left _ _ line_heads) begun) in
    (all_good t ts (lookahead_good one.0 t ts one.1.0 one.1.1) b, side_by_side t ts (opens_unfree t opens) a r)

none_follows : (q : TwoTokens) (fs : List Lookahead) → Follows q fs []
none_follows q fs = λ t k. tt

pub good_tree : (most : ℕ) (o : Origin) (t : Trees) → LineTreeWithin most o t → AllGood (tokens t) × Neighbours (tokens t)
good_tree most o t h =
    let led = led_known row.LINE (tokens t) [] (leads t o most most (row_items row.LINE) h.fits []) in
    let begun : some (λ (f : Lookahead). is_ahead f (tokens t ++ [])) (of row.LINE).heads ≡ true = elim led [
      | inl g ↦ never (of row.LINE).empty g.1 (not_true _ (and_right (every good_lookahead (of row.LINE).heads) _ (and_right (covered statement_heads (of row.LINE).heads) _ line_heads)))
      | inr g ↦ g
    ] in
    let P : List Token → Type 0 = λ l. Chain may_stand l in
    let Q : List Token → Type 0 = λ l. Chain then_good l in
    let same = append-nil (tokens t) in
    good_line o (tokens t) (ap (λ (l : List Token). some (λ (f : Lookahead). is_ahead f l) (of row.LINE).heads) (sym same) ∙ begun)
    (subst P same (chained (λ n. true) beside may_stand tells (λ n k. row_paired n) (λ k n. refl) t o most most (row_items row.LINE) h.fits (row_paired row.LINE) [] (none_follows may_stand ((of_items of (row_items row.LINE)).ends)) tt))
    (subst Q same (chained (λ n. true) before_good then_good tells_good (λ n k. row_good n) (λ k n. refl) t o most most (row_items row.LINE) h.fits (row_good row.LINE) [] (none_follows then_good ((of_items of (row_items row.LINE)).ends)) tt))
    h.remarks
