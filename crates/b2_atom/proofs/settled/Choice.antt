-- A statement's row is chosen by its first two tokens.
use Rattle.std.proofs.Common.{◌≡◌, ℕ, ◌-◌, ◌<◌, ◌==◌, ◌&&◌, ◌||◌, not, Bool, true, false, if◌then◌else◌, List, [], ◌∷◌, ◌++◌, length, drop, refl, sym, ap, subst, ◌∙◌, arith, inl, inr, ◌⊎◌, Result, Ok, Err}
use Rattle.std.proofs.lemmas.Bool.Decides.{nat_tests}
use Rattle.b2_base.specs.Lexical.{first, is_letter, skip_blanks}
use Rattle.b2_atom.specs.Words.{Text, skipped, ahead, begins_with, is_short, short_text, letters_stand, short_stands, short_width}
use Rattle.b2_atom.specs.Tokens.{Token}
use Rattle.b2_atom.specs.Tokens.Token.{Coded, Short, Plain, Lined}
use Rattle.b2_atom.specs.Tree.{Trees, tokens}
use Rattle.b2_atom.specs.Tree.Trees.{Done, Put, In}
use Rattle.b2_atom.specs.Grammar.{row_items, starts, class_at, is_among, row_at, allowed, from, statement_row, short_word, begins_let, variable_begins, read_leaf, plain, spelled_after, barred_following, barred_line, barred_position}
use Rattle.b2_atom.specs.Leaves.{refused}
use Rattle.b2_atom.specs.Spelling.{Begins, Spells, Named, has_class, is_whole}
use Rattle.b2_atom.specs.Fitting.{Fits, FitsPut, FitsIn, FitsBranch, giving, may_end, leaf_number, is_statement, is_allowed}
use Rattle.b2_atom.specs.Table.{forms}
use Rattle.b2_atom.specs.declared.words.TheConstants as word
use Rattle.b2_atom.specs.declared.rows.TheConstants as row
use Rattle.b2_atom.specs.declared.words.Origin.{Origin}
use Rattle.b2_atom.specs.declared.words.Origin.TheVariants as origin
use Rattle.b2_atom.specs.declared.forms.Leaf.{Leaf}
use Rattle.b2_atom.specs.declared.forms.Leaf.TheVariants as leaf
use Rattle.b2_atom.specs.declared.forms.Start.{Start}
use Rattle.b2_atom.specs.declared.forms.Start.TheVariants as start
use Rattle.b2_atom.specs.declared.forms.Position.{Position}
use Rattle.b2_atom.specs.declared.forms.Form.{Form}
use Rattle.b2_atom.specs.declared.forms.Item.{Item}
use Rattle.b2_atom.specs.declared.forms.Item.TheVariants.{Word, Sign, Among}
use Rattle.b2_atom.specs.declared.output.Stop.{Stop}
use Rattle.b2_atom.specs.declared.output.Stop.TheVariants.{At}
use Rattle.b2_atom.proofs.Booleans.{and_left, and_right, or_left, or_right, or_one, or_other, or_false, or_cases, never, not_true, equal, span_of, either_way}
use Rattle.b2_atom.proofs.settled.Lookaheads.{every, some, Lookahead, is_ahead, spans, sure, is_spanned, is_short_of, short_spans, not_short_of, pair_surely, variable_spans, lacks, choose, closing_heads, seconds, symbol_choice, chosen_row, when, of_item, of_items, of, statement_heads, is_symbol_item, leading}
use Rattle.b2_atom.proofs.settled.Lookaheads.Lookahead.{Any, None, Spanned, ShortOf, Hand, Numbered}
use Rattle.b2_atom.proofs.settled.LookaheadAnswers.{says, some_lookahead, class_says, same_leaf}
use Rattle.b2_atom.proofs.settled.Computed.{statement_good, statement_chosen}
use Rattle.b2_atom.proofs.settled.Heads.{is_closing, Led, leads, led_known, covered_all, token_leads}

-- blanks are skipped once
skip_more : (b : ℕ) (bs : Text) (c : Bool) → (b == 32) ≡ c → skip_blanks (skip_blanks bs) ≡ skip_blanks bs
    → skip_blanks (if c then skip_blanks bs else b ∷ bs) ≡ (if c then skip_blanks bs else b ∷ bs)
skip_more b bs true is h = h
skip_more b bs false is h = ap (λ (x : Bool). if x then skip_blanks bs else b ∷ bs) is

skip_twice : (s : Text) → skip_blanks (skip_blanks s) ≡ skip_blanks s
skip_twice [] = refl
skip_twice (b ∷ bs) = skip_more b bs (b == 32) refl (skip_twice bs)

pub skipped_twice : (o : Origin) (s : Text) → skipped o (skipped o s) ≡ skipped o s
skipped_twice origin.Program s = skip_twice s
skipped_twice origin.Immediate s = skip_twice s
skipped_twice origin.Atoms s = refl

-- tokens that a statement may begin with
abbrev pub opens_statement : Token → Bool
opens_statement (Coded c) = true
opens_statement (Plain leaf.Name w) = true
opens_statement (Plain leaf.AlphaName w) = true
opens_statement t = false

respelled : (o : Origin) (t : Token) (ts : List Token) (s rest : Text) → opens_statement t ≡ true → Begins o t ts s rest → Begins o t ts (skipped o s) rest
unfolding read_leaf
respelled o (Coded c) ts s rest h b =
    let e = skipped_twice o s in
    record {
      reads = ap (ahead o) e ∙ b.reads;
      shorter = (let P : Text → Type 0 = λ u. length rest < length u in subst P (sym e) b.shorter);
      class = λ k. ap (λ (u : Text). (ahead o u).0) e ∙ b.class k;
      opens = λ k. ap (λ (u : Text). first u == 40) e ∙ b.opens k;
      closes = λ k. ap (λ (u : Text). first u == 41) e ∙ b.closes k;
      lets = λ k. ap (begins_let o) e ∙ b.lets k;
      begs = λ k. ap (λ (u : Text). (ahead o u).0 == 66 && spelled_after o (ahead o u).1 69 71) e ∙ b.begs k;
      name = tt;
      hex = tt;
      line = tt;
    }
respelled o (Plain leaf.Name w) ts s rest h b =
    let e = skipped_twice o s in
    record {
      reads = λ code. ap (plain o leaf.Name code) e ∙ b.reads code;
      shorter = (let P : Text → Type 0 = λ u. length rest < length u in subst P (sym e) b.shorter);
      class = λ k. ap (λ (u : Text). (ahead o u).0) e ∙ b.class k;
      opens = λ k. ap (λ (u : Text). first u == 40) e ∙ b.opens k;
      closes = λ k. ap (λ (u : Text). first u == 41) e ∙ b.closes k;
      lets = λ k. ap (begins_let o) e ∙ b.lets k;
      begs = λ k. ap (λ (u : Text). (ahead o u).0 == 66 && spelled_after o (ahead o u).1 69 71) e ∙ b.begs k;
      name = (let P : Text → Type 0 = λ u. Named o false (length w) w u rest in subst P (sym e) b.name);
      hex = tt;
      line = tt;
    }
respelled o (Plain leaf.AlphaName w) ts s rest h b =
    let e = skipped_twice o s in
    record {
      reads = λ code. ap (plain o leaf.AlphaName code) e ∙ b.reads code;
      shorter = (let P : Text → Type 0 = λ u. length rest < length u in subst P (sym e) b.shorter);
      class = λ k. ap (λ (u : Text). (ahead o u).0) e ∙ b.class k;
      opens = λ k. ap (λ (u : Text). first u == 40) e ∙ b.opens k;
      closes = λ k. ap (λ (u : Text). first u == 41) e ∙ b.closes k;
      lets = λ k. ap (begins_let o) e ∙ b.lets k;
      begs = λ k. ap (λ (u : Text). (ahead o u).0 == 66 && spelled_after o (ahead o u).1 69 71) e ∙ b.begs k;
      name = (let P : Text → Type 0 = λ u. Named o true (length w - 1) w u rest in subst P (sym e) b.name);
      hex = tt;
      line = tt;
    }
respelled o t ts s rest h b = cc

-- a statement begins with such a token
hand_opens : (k j : Leaf) (w : Text) → j ≡ k → opens_statement (Plain k w) ≡ true → opens_statement (Plain j w) ≡ true
hand_opens k j w same h = ap (λ (l : Leaf). opens_statement (Plain l w)) same ∙ h

pub opening : (t : Token) (ts : List Token) → some (λ (f : Lookahead). is_ahead f (t ∷ ts)) statement_heads ≡ true → opens_statement t ≡ true
opening (Coded c) ts h = refl
opening (Plain j w) ts h = elim (or_cases (leaf_number j == 2 && is_whole j w) ((leaf_number j == 3 && is_whole j w) || false) h) [
  | inl g ↦ hand_opens leaf.Name j w (same_leaf leaf.Name j (and_left _ _ g)) refl
  | inr g ↦ elim (or_cases (leaf_number j == 3 && is_whole j w) false g) [
    | inl e ↦ hand_opens leaf.AlphaName j w (same_leaf leaf.AlphaName j (and_left _ _ e)) refl
    | inr e ↦ cc
  ]
]
opening (Lined x y) ts h = cc
opening (Short c) ts h = cc

opens_class : (t : Token) → opens_statement t ≡ true → has_class t ≡ true
opens_class (Coded c) h = refl
opens_class (Plain leaf.Name w) h = refl
opens_class (Plain leaf.AlphaName w) h = refl
opens_class t h = cc

-- what two lookaheads settle
one_code : (a c : ℕ) (b : Bool) → spans ((a, a) ∷ []) c ≡ b → (c == a) ≡ b
one_code a c b h = span_of a c ∙ sym (or_false _) ∙ h

and_first : (a b : Bool) → a ≡ false → (a && b) ≡ false
and_first true b h = cc
and_first false b h = refl

and_second : (a b : Bool) → b ≡ false → (a && b) ≡ false
and_second true b h = h
and_second false b h = refl

and_yes : (a b : Bool) → a ≡ true → b ≡ true → (a && b) ≡ true
and_yes true b h k = k
and_yes false b h k = cc

pair_seen : (o : Origin) (a c d : ℕ) (ts : List Token) (u : Text) → (spelled : Spells o (Coded d ∷ ts) u) → starts o (start.Pair a c) u ≡ (d == a && class_at o spelled.0 == c)
unfolding starts
pair_seen o a c d ts u spelled =
    let there : ahead o (skipped o u) ≡ (d, spelled.0) = spelled.1.0.reads in
    ap (λ (x : ℕ × Text). x.0 == a && class_at o x.1 == c) there

pair_first : (o : Origin) (a c : ℕ) (u : Text) → (class_at o u == a) ≡ false → starts o (start.Pair a c) u ≡ false
unfolding starts
pair_first o a c u h = and_first _ _ h

code_lookahead : (a b d : ℕ) (ss : ℕ) (x : Bool) → sure ((ss, ss) ∷ []) (Spanned a b) x ≡ true → is_among a b d ≡ true → (d == ss) ≡ x
code_lookahead a b d ss true h k = grind (arith, nat_tests)
code_lookahead a b d ss false h k = grind (arith, nat_tests)

pair_true : (o : Origin) (a c : ℕ) (f g : Lookahead) (t : Token) (ts : List Token) (u : Text) → is_spanned f ≡ true → sure ((a, a) ∷ []) f true ≡ true → sure ((c, c) ∷ []) g true ≡ true
    → is_ahead f (t ∷ ts) ≡ true → is_ahead g ts ≡ true → Spells o (t ∷ ts) u → starts o (start.Pair a c) u ≡ true
pair_true o a c (Spanned x y) g (Coded d) ts u h i j k l spelled =
    pair_seen o a c d ts u spelled
    ∙ and_yes _ _ (code_lookahead x y d a true i k) (one_code c (class_at o spelled.0) true (class_says ((c, c) ∷ []) o g true ts spelled.0 j l spelled.1.1))
pair_true o a c (Spanned x y) g (Plain w z) ts u h i j k l spelled = cc
pair_true o a c (Spanned x y) g (Lined w z) ts u h i j k l spelled = cc
pair_true o a c (Spanned x y) g (Short d) ts u h i j k l spelled = cc
pair_true o a c f g t ts u h i j k l spelled = cc

pair_false : (o : Origin) (a c : ℕ) (f g : Lookahead) (t : Token) (ts : List Token) (u : Text) → is_spanned f ≡ true → sure ((c, c) ∷ []) g false ≡ true
    → is_ahead f (t ∷ ts) ≡ true → is_ahead g ts ≡ true → Spells o (t ∷ ts) u → starts o (start.Pair a c) u ≡ false
pair_false o a c (Spanned x y) g (Coded d) ts u h j k l spelled =
    pair_seen o a c d ts u spelled
    ∙ and_second _ _ (one_code c (class_at o spelled.0) false (class_says ((c, c) ∷ []) o g false ts spelled.0 j l spelled.1.1))
pair_false o a c (Spanned x y) g (Plain w z) ts u h j k l spelled = cc
pair_false o a c (Spanned x y) g (Lined w z) ts u h j k l spelled = cc
pair_false o a c (Spanned x y) g (Short d) ts u h j k l spelled = cc
pair_false o a c f g t ts u h j k l spelled = cc

-- a short word after a word
short_seen : (o : Origin) (a c d : ℕ) (ts : List Token) (u : Text) → (spelled : Spells o (Coded d ∷ ts) u) → starts o (start.ShortAfter a c) u ≡ (d == a && short_stands o c (skipped o spelled.0))
unfolding starts
short_seen o a c d ts u spelled =
    let there : ahead o (skipped o u) ≡ (d, spelled.0) = spelled.1.0.reads in
    ap (λ (x : ℕ × Text). x.0 == a && short_stands o c (skipped o x.1)) there

short_first : (o : Origin) (a c : ℕ) (u : Text) → (class_at o u == a) ≡ false → starts o (start.ShortAfter a c) u ≡ false
unfolding starts
short_first o a c u h = and_first _ _ h

read_of : (b : Bool) (t : Token) (rest : Text) (e : Stop) (r : Trees × Text) → (if b then Ok (Put t Done, rest) else Err e) ≡ Ok r → b ≡ true
read_of true t rest e r h = refl
read_of false t rest e r h = cc

-- where a short word is spelled, it stands
short_there : (o : Origin) (c : ℕ) (ts : List Token) (s : Text) → Spells o (Short c ∷ ts) s → short_stands o c (skipped o s) ≡ true
unfolding short_word
short_there o c ts s spelled = read_of (short_stands o c (skipped o s)) (Short c) (drop (short_width o) (skipped o s)) (refused o 22 (skipped o s)) (Put (Short c) Done, spelled.0) spelled.1.0.reads

-- and no other does
short_two : (c : ℕ) → is_short c ≡ true → (c ≡ word.DA) ⊎ (c ≡ word.BA)
short_two c h = elim (or_cases (c == word.DA) (c == word.BA) h) [
  | inl e ↦ inl (equal c word.DA e)
  | inr e ↦ inr (equal c word.BA e)
]

other_byte : (n a b : ℕ) (x y : Bool) → (a == b) ≡ false → (n == a && x) ≡ true → (n == b && y) ≡ false
other_byte n a b x y h k = and_first _ _ (ap (λ (m : ℕ). m == b) (equal n a (and_left _ _ k)) ∙ h)

no_ba : (o : Origin) (t : Text) → letters_stand o word.DA t ≡ true → letters_stand o word.BA t ≡ false
no_ba origin.Program t h = other_byte (ahead origin.Program t).0 68 66 _ _ refl h
no_ba origin.Immediate t h = other_byte (ahead origin.Immediate t).0 68 66 _ _ refl h
no_ba origin.Atoms t h = ap (λ (m : ℕ). m == word.BA) (equal (first t) word.DA h)

no_da : (o : Origin) (t : Text) → letters_stand o word.BA t ≡ true → letters_stand o word.DA t ≡ false
no_da origin.Program t h = other_byte (ahead origin.Program t).0 66 68 _ _ refl h
no_da origin.Immediate t h = other_byte (ahead origin.Immediate t).0 66 68 _ _ refl h
no_da origin.Atoms t h = ap (λ (m : ℕ). m == word.DA) (equal (first t) word.BA h)

itself : (n : ℕ) → (n == n) ≡ true
itself n = grind (arith, nat_tests)

same_word : (c d n : ℕ) → c ≡ n → d ≡ n → (d == c) ≡ true
same_word c d n h k = (λ i. k i == h i) ∙ itself n

other_short : (o : Origin) (c d : ℕ) (t : Text) → is_short c ≡ true → is_short d ≡ true → (d == c) ≡ false → letters_stand o d t ≡ true → letters_stand o c t ≡ false
other_short o c d t hc hd other h = elim (short_two c hc) [
  | inl e ↦ elim (short_two d hd) [
    | inl f ↦ never (d == c) (same_word c d word.DA e f) other
    | inr f ↦ ap (λ (n : ℕ). letters_stand o n t) e ∙ no_da o t (ap (λ (n : ℕ). letters_stand o n t) (sym f) ∙ h)
  ]
  | inr e ↦ elim (short_two d hd) [
    | inl f ↦ ap (λ (n : ℕ). letters_stand o n t) e ∙ no_ba o t (ap (λ (n : ℕ). letters_stand o n t) (sym f) ∙ h)
    | inr f ↦ never (d == c) (same_word c d word.BA e f) other
  ]
]

short_other : (o : Origin) (c d : ℕ) (t : Text) → (d == c) ≡ false → short_stands o d t ≡ true → short_stands o c t ≡ false
short_other o c d t other h = elim (either_way (is_short c)) [
  | inl e ↦ and_second (is_short c) _ (other_short o c d t e (and_left _ _ h) other (and_right (is_short d) _ h))
  | inr e ↦ and_first _ _ e
]

-- nor where what stands there is seen to be none
no_letters : (o : Origin) (c : ℕ) (s : Text) → spans (short_spans c) (class_at o s) ≡ false → letters_stand o c (skipped o s) ≡ false
no_letters origin.Program c s h = and_first _ _ (span_of (first (short_text c)) (class_at origin.Program s) ∙ or_left _ _ h)
no_letters origin.Immediate c s h = and_first _ _ (span_of (first (short_text c)) (class_at origin.Immediate s) ∙ or_left _ _ h)
no_letters origin.Atoms c s h = one_code c (class_at origin.Atoms s) false (or_right _ _ h)

no_short : (o : Origin) (c : ℕ) (g : Lookahead) (ts : List Token) (s : Text) → sure (short_spans c) g false ≡ true → is_ahead g ts ≡ true → Spells o ts s → short_stands o c (skipped o s) ≡ false
no_short o c g ts s h k spelled = and_second (is_short c) _ (no_letters o c s (class_says (short_spans c) o g false ts s h k spelled))

short_yes : (o : Origin) (c : ℕ) (g : Lookahead) (ts : List Token) (s : Text) → is_short_of c g ≡ true → is_ahead g ts ≡ true → Spells o ts s → short_stands o c (skipped o s) ≡ true
short_yes o c (ShortOf d) (Short e ∷ ts) s h k spelled =
    let same : e ≡ c = equal e d (and_left _ _ k) ∙ equal d c h in
    ap (λ (n : ℕ). short_stands o n (skipped o s)) (sym same) ∙ short_there o e ts s spelled
short_yes o c (ShortOf d) [] s h k spelled = cc
short_yes o c (ShortOf d) (Coded e ∷ ts) s h k spelled = cc
short_yes o c (ShortOf d) (Plain j w ∷ ts) s h k spelled = cc
short_yes o c (ShortOf d) (Lined x y ∷ ts) s h k spelled = cc
short_yes o c g ts s h k spelled = cc

short_no : (o : Origin) (c : ℕ) (g : Lookahead) (ts : List Token) (s : Text) → not_short_of c g ≡ true → is_ahead g ts ≡ true → Spells o ts s → short_stands o c (skipped o s) ≡ false
short_no o c (ShortOf d) (Short e ∷ ts) s h k spelled =
    let same : e ≡ d = equal e d (and_left _ _ k) in
    short_other o c e (skipped o s) (ap (λ (n : ℕ). n == c) same ∙ not_true _ h) (short_there o e ts s spelled)
short_no o c (ShortOf d) [] s h k spelled = cc
short_no o c (ShortOf d) (Coded e ∷ ts) s h k spelled = cc
short_no o c (ShortOf d) (Plain j w ∷ ts) s h k spelled = cc
short_no o c (ShortOf d) (Lined x y ∷ ts) s h k spelled = cc
short_no o c Any ts s h k spelled = cc
short_no o c None ts s h k spelled = no_short o c None ts s h k spelled
short_no o c (Spanned a b) ts s h k spelled = no_short o c (Spanned a b) ts s h k spelled
short_no o c (Hand j) ts s h k spelled = no_short o c (Hand j) ts s h k spelled
short_no o c Numbered ts s h k spelled = no_short o c Numbered ts s h k spelled

short_true : (o : Origin) (a c : ℕ) (f g : Lookahead) (t : Token) (ts : List Token) (u : Text) → is_spanned f ≡ true → sure ((a, a) ∷ []) f true ≡ true → is_short_of c g ≡ true
    → is_ahead f (t ∷ ts) ≡ true → is_ahead g ts ≡ true → Spells o (t ∷ ts) u → starts o (start.ShortAfter a c) u ≡ true
short_true o a c (Spanned x y) g (Coded d) ts u h i j k l spelled =
    short_seen o a c d ts u spelled ∙ and_yes _ _ (code_lookahead x y d a true i k) (short_yes o c g ts spelled.0 j l spelled.1.1)
short_true o a c (Spanned x y) g (Short d) ts u h i j k l spelled = cc
short_true o a c (Spanned x y) g (Plain w z) ts u h i j k l spelled = cc
short_true o a c (Spanned x y) g (Lined w z) ts u h i j k l spelled = cc
short_true o a c f g t ts u h i j k l spelled = cc

short_false : (o : Origin) (a c : ℕ) (f g : Lookahead) (t : Token) (ts : List Token) (u : Text) → is_spanned f ≡ true → not_short_of c g ≡ true
    → is_ahead f (t ∷ ts) ≡ true → is_ahead g ts ≡ true → Spells o (t ∷ ts) u → starts o (start.ShortAfter a c) u ≡ false
short_false o a c (Spanned x y) g (Coded d) ts u h j k l spelled =
    short_seen o a c d ts u spelled ∙ and_second _ _ (short_no o c g ts spelled.0 j l spelled.1.1)
short_false o a c (Spanned x y) g (Short d) ts u h j k l spelled = cc
short_false o a c (Spanned x y) g (Plain w z) ts u h j k l spelled = cc
short_false o a c (Spanned x y) g (Lined w z) ts u h j k l spelled = cc
short_false o a c f g t ts u h j k l spelled = cc

pair_says : (o : Origin) (st : Start) (f g : Lookahead) (b : Bool) (t : Token) (ts : List Token) (u : Text) → pair_surely st f g b ≡ true → is_ahead f (t ∷ ts) ≡ true → is_ahead g ts ≡ true
    → Spells o (t ∷ ts) u → starts o st u ≡ b
pair_says o (start.Pair a c) f g true t ts u h k l spelled =
    let rest = and_right (is_spanned f) _ h in
    pair_true o a c f g t ts u (and_left _ _ h) (and_left _ _ rest) (and_right (sure ((a, a) ∷ []) f true) _ rest) k l spelled
pair_says o (start.Pair a c) f g false t ts u h k l spelled = elim (or_cases (sure ((a, a) ∷ []) f false) (is_spanned f && sure ((c, c) ∷ []) g false) h) [
  | inl e ↦ pair_first o a c u (one_code a (class_at o u) false (class_says ((a, a) ∷ []) o f false (t ∷ ts) u e k spelled))
  | inr e ↦ pair_false o a c f g t ts u (and_left _ _ e) (and_right (is_spanned f) _ e) k l spelled
]
pair_says o (start.ShortAfter a c) f g true t ts u h k l spelled =
    let rest = and_right (is_spanned f) _ h in
    short_true o a c f g t ts u (and_left _ _ h) (and_left _ _ rest) (and_right (sure ((a, a) ∷ []) f true) _ rest) k l spelled
pair_says o (start.ShortAfter a c) f g false t ts u h k l spelled = elim (or_cases (sure ((a, a) ∷ []) f false) (is_spanned f && not_short_of c g) h) [
  | inl e ↦ short_first o a c u (one_code a (class_at o u) false (class_says ((a, a) ∷ []) o f false (t ∷ ts) u e k spelled))
  | inr e ↦ short_false o a c f g t ts u (and_left _ _ e) (and_right (is_spanned f) _ e) k l spelled
]
pair_says o st f g b t ts u h k l spelled = says o st f b (t ∷ ts) u h k spelled

-- the form that begins is the statement's
no_statement : (o : Origin) (p : Position) (xs : List Form) (m : ℕ) → lacks xs m ≡ true → is_statement xs o p m ≡ true → ⊥
no_statement o p [] m h k = never (m == row.ASSIGNMENT) k (not_true _ h)
no_statement o p (x ∷ xs) m h k = elim (or_cases (x.row == m && is_allowed o p x.rule) (is_statement xs o p m) k) [
  | inl g ↦ never (x.row == m) (and_left _ _ g) (not_true _ (and_left _ _ h))
  | inr g ↦ no_statement o p xs m (and_right (not (x.row == m)) _ h) g
]

allowed_there : (o : Origin) (p : Position) (x : Form) (u : Text) (a b c : Bool) → not (a || (b || c)) ≡ true
    → (if a then Err (At 14 (length u)) else (if b then Err (At 26 (length u)) else (if c then Err (At 28 (length u)) else Ok x.row))) ≡ Ok x.row
allowed_there o p x u true b c h = cc
allowed_there o p x u false true c h = cc
allowed_there o p x u false false true h = cc
allowed_there o p x u false false false h = refl

allowed_row : (o : Origin) (p : Position) (x : Form) (u : Text) → is_allowed o p x.rule ≡ true → allowed o p x u ≡ Ok x.row
allowed_row o p x u h = allowed_there o p x u (barred_following p x.rule) (barred_line o x.rule) (barred_position p x.rule) h

variable_code : (c : ℕ) → spans variable_spans c ≡ true → (is_letter c || c == 64 || c == word.STR_OPEN) ≡ true
variable_code c h = grind (arith, nat_tests)

if_test : (b x y : Bool) → b ≡ true → (if b then x else y) ≡ true → x ≡ true
if_test true x y h k = k
if_test false x y h k = cc

if_other : (b x y : Bool) → b ≡ false → (if b then x else y) ≡ true → y ≡ true
if_other true x y h k = cc
if_other false x y h k = k

if_row : (b c : Bool) (x y : Result ℕ Stop) → b ≡ c → (if b then x else y) ≡ (if c then x else y)
if_row b c x y h = ap (λ (d : Bool). if d then x else y) h

at_row : (o : Origin) (p : Position) (xs : List Form) (m : ℕ) (f g : Lookahead) (t : Token) (ts : List Token) (u : Text) → choose xs m f g ≡ true → is_ahead f (t ∷ ts) ≡ true → is_ahead g ts ≡ true
    → Spells o (t ∷ ts) u → skipped o u ≡ u → is_statement xs o p m ≡ true → row_at xs o p u ≡ Ok m
at_row o p [] m f g t ts u h k l spelled same stated =
    let class = class_says variable_spans o f true (t ∷ ts) u (and_right (m == row.ASSIGNMENT) _ h) k spelled in
    let begins : variable_begins o u ≡ true = ap (variable_begins o) (sym same) ∙ variable_code (class_at o u) class in
    if_row (variable_begins o u) true _ _ begins ∙ ap Ok (sym (equal m row.ASSIGNMENT (and_left _ _ h)))
at_row o p (x ∷ xs) m f g t ts u h k l spelled same stated = elim (either_way (pair_surely x.start f g true)) [
  | inl sure_ ↦ (let found = if_test _ _ _ sure_ h in
      let row_is : x.row ≡ m = equal x.row m (and_left _ _ found) in
      if_row (starts o x.start u) true _ _ (pair_says o x.start f g true t ts u sure_ k l spelled)
      ∙ elim (or_cases (x.row == m && is_allowed o p x.rule) (is_statement xs o p m) stated) [
        | inl e ↦ allowed_row o p x u (and_right (x.row == m) _ e) ∙ ap Ok row_is
        | inr e ↦ absurd (no_statement o p xs m (and_right (x.row == m) _ found) e)
      ])
  | inr not_sure ↦ (let found = if_other _ _ _ not_sure h in
      let others = and_right (pair_surely x.start f g false) _ found in
      if_row (starts o x.start u) false _ _ (pair_says o x.start f g false t ts u (and_left _ _ found) k l spelled)
      ∙ at_row o p xs m f g t ts u (and_right (not (x.row == m)) _ others) k l spelled same
      (elim (or_cases (x.row == m && is_allowed o p x.rule) (is_statement xs o p m) stated) [
        | inl e ↦ never (x.row == m) (and_left _ _ e) (not_true _ (and_left _ _ others))
        | inr e ↦ e
      ]))
]

-- where a statement begins, and which it is
result_row : (b : Bool) (u : Text) (r : Result ℕ Stop) (m : ℕ) (v : Text) → b ≡ false → r ≡ Ok m → (if b then Ok (row.ASSIGNMENT, v) else from u r) ≡ Ok (m, u)
result_row true u r m v h k = cc
result_row false u r m v h k = ap (from u) k

abbrev pub Stands : Origin → Position → ℕ → List Token → Text → Type 0
Stands o p m ts s = (u : Text) × ((statement_row o p s ≡ Ok (m, u)) × Spells o ts u)

stands : (o : Origin) (p : Position) (m : ℕ) (f g : Lookahead) (t : Token) (ts : List Token) (s : Text) → choose forms m f g ≡ true → is_ahead f (t ∷ ts) ≡ true → is_ahead g ts ≡ true
    → opens_statement t ≡ true → is_statement forms o p m ≡ true → Spells o (t ∷ ts) s → Stands o p m (t ∷ ts) s
unfolding statement_row
stands o p m f g t ts s h k l opens stated spelled =
    let there : Spells o (t ∷ ts) (skipped o s) = (spelled.0, (respelled o t ts s spelled.0 opens spelled.1.0, spelled.1.1)) in (
      skipped o s,
      (
        result_row (begins_let o (skipped o s)) (skipped o s) (row_at forms o p (skipped o s)) m _ (spelled.1.0.lets (opens_class t opens))
            (at_row o p forms m f g t ts (skipped o s) h k l there (skipped_twice o s) stated),
        there,
      ),
    )

-- by its first two tokens
by_two : (o : Origin) (p : Position) (m : ℕ) (fs gs : List Lookahead) (t : Token) (ts : List Token) (s : Text) → every (λ (f : Lookahead). every (λ (g : Lookahead). choose forms m f g) gs) fs ≡ true
    → some (λ (f : Lookahead). is_ahead f (t ∷ ts)) fs ≡ true → some (λ (g : Lookahead). is_ahead g ts) gs ≡ true → opens_statement t ≡ true → is_statement forms o p m ≡ true
    → Spells o (t ∷ ts) s → Stands o p m (t ∷ ts) s
by_two o p m fs gs t ts s h k l opens stated spelled =
    let f = some_lookahead (λ (x : Lookahead). every (λ (g : Lookahead). choose forms m x g) gs) fs (t ∷ ts) h k in
    let g = some_lookahead (λ (y : Lookahead). choose forms m f.0 y) gs ts f.1.0 l in
    stands o p m f.0 g.0 t ts s g.1.0 f.1.1 g.1.1 opens stated spelled

by_one : (o : Origin) (p : Position) (m : ℕ) (fs : List Lookahead) (t : Token) (ts : List Token) (s : Text) → every (λ (f : Lookahead). choose forms m f Any) fs ≡ true
    → some (λ (f : Lookahead). is_ahead f (t ∷ ts)) fs ≡ true → opens_statement t ≡ true → is_statement forms o p m ≡ true → Spells o (t ∷ ts) s → Stands o p m (t ∷ ts) s
by_one o p m fs t ts s h k opens stated spelled =
    let f = some_lookahead (λ (x : Lookahead). choose forms m x Any) fs (t ∷ ts) h k in
    stands o p m f.0 Any t ts s f.1.0 f.1.1 refl opens stated spelled

closing_lookaheads : (more : List Token) → is_closing more ≡ true → some (λ (f : Lookahead). is_ahead f more) closing_heads ≡ true
closing_lookaheads [] h = refl
closing_lookaheads (Coded c ∷ ts) h = grind (arith, nat_tests)
closing_lookaheads (Plain k w ∷ ts) h = cc
closing_lookaheads (Lined x y ∷ ts) h = cc
closing_lookaheads (Short c ∷ ts) h = cc

some_left : (p : Lookahead → Bool) (xs ys : List Lookahead) → some p xs ≡ true → some p (xs ++ ys) ≡ true
some_left p [] ys h = cc
some_left p (x ∷ xs) ys h = elim (or_cases (p x) (some p xs) h) [
  | inl g ↦ or_one _ _ g
  | inr g ↦ or_other (p x) _ (some_left p xs ys g)
]

some_right : (p : Lookahead → Bool) (xs ys : List Lookahead) → some p ys ≡ true → some p (xs ++ ys) ≡ true
some_right p [] ys h = h
some_right p (x ∷ xs) ys h = or_other (p x) _ (some_right p xs ys h)

some_when : (p : Lookahead → Bool) (b : Bool) (ys : List Lookahead) → b ≡ true → some p ys ≡ true → some p (when b ys) ≡ true
some_when p true ys h k = k
some_when p false ys h k = cc

second_lookahead : (is : List Item) (xs more : List Token) → Led (of_items of is) xs more → is_closing more ≡ true → some (λ (f : Lookahead). is_ahead f (xs ++ more)) (seconds is) ≡ true
second_lookahead is xs more (inl h) closed =
    some_right _ (of_items of is).heads _ (some_when _ (of_items of is).empty closing_heads h.1
    (ap (λ (l : List Token). some (λ (f : Lookahead). is_ahead f (l ++ more)) closing_heads) h.0 ∙ closing_lookaheads more closed))
second_lookahead is xs more (inr h) closed = some_left _ (of_items of is).heads _ h

symbol_giving : (i : Item) (is : List Item) → is_symbol_item i ≡ true → giving (i ∷ is) ≡ i ∷ is
symbol_giving (Word c) is h = refl
symbol_giving (Sign c code) is h = refl
symbol_giving (Among a b code) is h = refl
symbol_giving i is h = cc

symbol_branch : (o : Origin) (most room m : ℕ) (i : Item) (is : List Item) (below : ℕ → List Item → Type 0) (rest : List Item → Type 0) → is_symbol_item i ≡ true → FitsBranch o most room i is m below rest → ⊥
symbol_branch o most room m (Word c) is below rest h fits = fits
symbol_branch o most room m (Sign c code) is below rest h fits = fits
symbol_branch o most room m (Among a b code) is below rest h fits = fits
symbol_branch o most room m i is below rest h fits = cc

symbol_end : (i : Item) (is : List Item) → is_symbol_item i ≡ true → may_end (i ∷ is) ≡ true → ⊥
symbol_end (Word c) is h k = cc
symbol_end (Sign c code) is h k = cc
symbol_end (Among a b code) is h k = cc
symbol_end i is h k = cc

-- a statement that begins with a word or a sign
pub led_by_symbol : (o : Origin) (p : Position) (most m : ℕ) (is : List Item) (t : Trees) (more : List Token) (s : Text) → leading is ≡ true → symbol_choice m is ≡ true
    → ((xs : List Token) (x : Token) → tokens t ++ more ≡ x ∷ xs → opens_statement x ≡ true) → is_statement forms o p m ≡ true → Fits o most most is t → is_closing more ≡ true
    → Spells o (tokens t ++ more) s → Stands o p m (tokens t ++ more) s
led_by_symbol o p most m [] t more s led test opens stated fits closed spelled = cc
led_by_symbol o p most m (i ∷ is) Done more s led test opens stated fits closed spelled = absurd (symbol_end i is led fits)
led_by_symbol o p most m (i ∷ is) (Put t ts) more s led test opens stated fits closed spelled =
    let P : List Item → Type 0 = λ js. FitsPut o js t (λ (rest : List Item). Fits o most most rest ts) in
    let there : P (i ∷ is) = subst P (symbol_giving i is led) fits in
    by_two o p m (of_item of i).heads (seconds is) t (tokens ts ++ more) s test (token_leads o i t (tokens ts ++ more) there.0)
    (second_lookahead is (tokens ts) more (leads ts o most most is there.1 more) closed) (opens (tokens ts ++ more) t refl) stated spelled
led_by_symbol o p most m (i ∷ is) (In n inner ts) more s led test opens stated fits closed spelled =
    let P : List Item → Type 0 = λ js. FitsIn o most most js n (λ (deep : ℕ) (items : List Item). Fits o most deep items inner) (λ (rest : List Item). Fits o most most rest ts) in
    let there : P (i ∷ is) = subst P (symbol_giving i is led) fits in
    absurd (symbol_branch o most most n i is (λ (deep : ℕ) (items : List Item). Fits o most deep items inner) (λ (rest : List Item). Fits o most most rest ts) led there)

led_by_none : (o : Origin) (p : Position) (m : ℕ) (xs : List Token) (s : Text) → every (λ (f : Lookahead). choose forms m f Any) (of m).heads ≡ true
    → some (λ (f : Lookahead). is_ahead f xs) (of m).heads ≡ true → ((ys : List Token) (x : Token) → xs ≡ x ∷ ys → opens_statement x ≡ true)
    → is_statement forms o p m ≡ true → Spells o xs s → (some (λ (f : Lookahead). is_ahead f xs) statement_heads ≡ true) → Stands o p m xs s
led_by_none o p m [] s test begun opens stated spelled heads = cc
led_by_none o p m (x ∷ xs) s test begun opens stated spelled heads = by_one o p m (of m).heads x xs s test begun (opens xs x refl) stated spelled

-- a statement is chosen by its tokens
pub one_statement : (o : Origin) (p : Position) (most m : ℕ) (inner : Trees) (more : List Token) (s : Text) → is_statement forms o p m ≡ true → Fits o most most (row_items m) inner
    → is_closing more ≡ true → Spells o (tokens inner ++ more) s → Stands o p m (tokens inner ++ more) s
one_statement o p most m inner more s stated fits closed spelled =
    let test = statement_good o p m stated in
    let full = not_true _ (and_left _ _ test) in
    let led = led_known m (tokens inner) more (leads inner o most most (row_items m) fits more) in
    let begun : some (λ (f : Lookahead). is_ahead f (tokens inner ++ more)) (of m).heads ≡ true = elim led [
      | inl g ↦ never (of m).empty g.1 full
      | inr g ↦ g
    ] in
    let heads = covered_all statement_heads (of m).heads (tokens inner ++ more) (and_left _ _ (and_right (not (of m).empty) _ test)) begun in
    let opens : (xs : List Token) (x : Token) → tokens inner ++ more ≡ x ∷ xs → opens_statement x ≡ true =
    λ xs x same. opening x xs (ap (λ (l : List Token). some (λ (f : Lookahead). is_ahead f l) statement_heads) (sym same) ∙ heads) in
    elim (either_way (leading (row_items m))) [
      | inl g ↦ led_by_symbol o p most m (row_items m) inner more s g (ap (chosen_row m) (sym g) ∙ statement_chosen o p m stated) opens stated fits closed spelled
      | inr g ↦ led_by_none o p m (tokens inner ++ more) s (ap (chosen_row m) (sym g) ∙ statement_chosen o p m stated) begun opens stated spelled heads
    ]
