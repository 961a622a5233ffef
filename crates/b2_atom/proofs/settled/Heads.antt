-- What trees that fit begin with, and what is refused by what follows items.
use Rattle.std.proofs.Common.{◌≡◌, ℕ, zero, suc, ◌<◌, ◌≤◌, ◌==◌, ◌&&◌, ◌||◌, not, nat_le, Bool, true, false, List, [], ◌∷◌, ◌++◌, length, refl, sym, ap, subst, ◌∙◌, arith, append_assoc, inl, inr, ◌⊎◌}
use Rattle.std.proofs.lemmas.Bool.Decides.{nat_tests}
use Rattle.b2_atom.specs.Words.{Text}
use Rattle.b2_atom.specs.Tokens.{Token}
use Rattle.b2_atom.specs.Tokens.Token.{Coded, Short, Plain, Lined}
use Rattle.b2_atom.specs.Tree.{Trees, tokens}
use Rattle.b2_atom.specs.Tree.Trees.{Done, Put, In}
use Rattle.b2_atom.specs.Grammar.{row_items, starts, is_among}
use Rattle.b2_atom.specs.Spelling.{Spells, is_whole}
use Rattle.b2_atom.specs.Fitting.{Fits, FitsPut, FitsIn, FitsBranch, giving, may_end, fits_token, leaf_number, is_statement}
use Rattle.b2_atom.specs.Table.{forms}
use Rattle.b2_atom.specs.declared.words.Origin.{Origin}
use Rattle.b2_atom.specs.declared.words.Origin.TheVariants as origin
use Rattle.b2_atom.specs.declared.forms.Leaf.{Leaf}
use Rattle.b2_atom.specs.declared.forms.Leaf.TheVariants as leaf
use Rattle.b2_atom.specs.declared.forms.Start.{Start}
use Rattle.b2_atom.specs.declared.forms.Position.{Position}
use Rattle.b2_atom.specs.declared.forms.Item.{Item}
use Rattle.b2_atom.specs.declared.forms.Item.TheVariants.{Word, Sign, Among, ProgramWord, Ignored, ShortWord, Comma, LeftOut, End, Typed, Part, Maybe, Either, Many, Nest, Statement}
use Rattle.b2_atom.proofs.Booleans.{not_true, among_inside, and_left, and_right, or_left, or_right, or_one, or_other, or_cases, never, span_of}
use Rattle.b2_atom.proofs.settled.Lookaheads.{every, some, Lookahead, is_ahead, Tail, refused_by, is_none, is_colon, Known, when, larger, of_item, joined_known, of_items, of_row, of, refuse, statement_heads, covers, covered}
use Rattle.b2_atom.proofs.settled.Lookaheads.Lookahead.{Any, None, Spanned, ShortOf, Hand, Numbered}
use Rattle.b2_atom.proofs.settled.Lookaheads.Tail.{Asked, Closed, Over}
use Rattle.b2_atom.proofs.settled.LookaheadAnswers.{answers, some_lookahead}
use Rattle.b2_atom.proofs.settled.Computed.{row_settled, statement_good}

-- more levels than a row's parts are deep tell no more
larger_left : (a b n : ℕ) → larger a b ≤ n → a ≤ n
larger_left a b n h = grind (arith, nat_tests)

larger_right : (a b n : ℕ) → larger a b ≤ n → b ≤ n
larger_right a b n h = grind (arith, nat_tests)

abbrev Stable : ℕ → ℕ → Type 0
Stable l n = suc (of_row l n).rank ≤ l → of_row (suc l) n ≡ of_row l n

item_stable : (l : ℕ) → ((n : ℕ) → Stable l n) → (i : Item) → (of_item (of_row l) i).rank ≤ l → of_item (of_row (suc l)) i ≡ of_item (of_row l) i
item_stable l part (Word c) h = refl
item_stable l part (Sign c code) h = refl
item_stable l part (Among a b code) h = refl
item_stable l part (ProgramWord c) h = refl
item_stable l part (Ignored c) h = refl
item_stable l part (ShortWord c) h = refl
item_stable l part Comma h = refl
item_stable l part LeftOut h = refl
item_stable l part End h = refl
item_stable l part (Typed leaf.Text code) h = refl
item_stable l part (Typed k code) h = refl
item_stable l part (Part n) h =
    ap (λ (k : Known). record { heads = k.heads; empty = k.empty; tails = k.tails; rank = suc k.rank; plain = k.plain; ends = k.ends }) (part n h)
item_stable l part (Maybe s n) h =
    ap (λ (k : Known). record { heads = k.heads; empty = true; tails = Asked s ∷ k.tails; rank = suc k.rank; plain = k.plain; ends = k.ends }) (part n h)
item_stable l part (Either s n m) h =
    let a : suc (of_row l n).rank ≤ l = grind (arith, nat_tests) in
    let b : suc (of_row l m).rank ≤ l = grind (arith, nat_tests) in
    (λ x. let k = part n a x in let j = part m b x in
    record { heads = k.heads ++ j.heads; empty = k.empty || j.empty; tails = when j.empty (Asked s ∷ []) ++ (k.tails ++ j.tails); rank = suc (larger k.rank j.rank); plain = k.plain && j.plain; ends = k.ends ++ j.ends })
item_stable l part (Many s n) h =
    ap (λ (k : Known). record { heads = k.heads; empty = true; tails = Asked s ∷ k.tails; rank = suc k.rank; plain = k.plain; ends = k.ends }) (part n h)
item_stable l part (Nest n) h = refl
item_stable l part (Statement p) h = refl

items_stable : (l : ℕ) → ((n : ℕ) → Stable l n) → (is : List Item) → (of_items (of_row l) is).rank ≤ l → of_items (of_row (suc l)) is ≡ of_items (of_row l) is
items_stable l part [] h = refl
items_stable l part (i ∷ is) h =
    let a = larger_left (of_item (of_row l) i).rank (of_items (of_row l) is).rank l h in
    let b = larger_right (of_item (of_row l) i).rank (of_items (of_row l) is).rank l h in
    (λ x. joined_known (item_stable l part i a x) (items_stable l part is b x))

stable : (l : ℕ) (n : ℕ) → Stable l n
unfolding of_row
stable zero n h = absurd (omega arith)
stable (suc l) n h = let less : (of_items (of_row l) (row_items n)).rank ≤ l = omega arith in items_stable l (stable l) (row_items n) less

rank_le : (n : ℕ) → nat_le n 39 ≡ true → n ≤ 39
rank_le n h = grind (arith, nat_tests)

-- what is known of a row is what is known of its items
pub known : (n : ℕ) → of_items of (row_items n) ≡ of n
unfolding of of_row
known n = items_stable 39 (stable 39) (row_items n) (rank_le _ (and_left _ _ (row_settled n)))

-- what refuses to be asked
abbrev pub is_closing : List Token → Bool
is_closing [] = true
is_closing (Coded c ∷ ts) = c == 58
is_closing (t ∷ ts) = false

abbrev pub RefusedBy : Origin → Tail → List Token → Type 0
RefusedBy o (Asked st) more = (s : Text) → Spells o more s → starts o st s ≡ false
RefusedBy o Closed more = is_closing more ≡ true
RefusedBy o Over more = more ≡ []

abbrev pub Refused : Origin → List Tail → List Token → Type 0
Refused o [] more = Unit {0}
Refused o (t ∷ ts) more = RefusedBy o t more × Refused o ts more

pub refused_left : (o : Origin) (xs ys : List Tail) (more : List Token) → Refused o (xs ++ ys) more → Refused o xs more
refused_left o [] ys more h = tt
refused_left o (x ∷ xs) ys more h = (h.0, refused_left o xs ys more h.1)

pub refused_right : (o : Origin) (xs ys : List Tail) (more : List Token) → Refused o (xs ++ ys) more → Refused o ys more
refused_right o [] ys more h = h
refused_right o (x ∷ xs) ys more h = refused_right o xs ys more h.1

pub refused_both : (o : Origin) (xs ys : List Tail) (more : List Token) → Refused o xs more → Refused o ys more → Refused o (xs ++ ys) more
refused_both o [] ys more h k = k
refused_both o (x ∷ xs) ys more h k = (h.0, refused_both o xs ys more h.1 k)

none_there : (f : Lookahead) (ts : List Token) → is_none f ≡ true → is_ahead f ts ≡ true → ts ≡ []
none_there None [] h k = refl
none_there None (t ∷ ts) h k = cc
none_there Any ts h k = cc
none_there (Spanned a b) ts h k = cc
none_there (ShortOf c) ts h k = cc
none_there (Hand l) ts h k = cc
none_there Numbered ts h k = cc

colon_code : (a b c : ℕ) → (a == 58 && b == 58) ≡ true → is_among a b c ≡ true → (c == 58) ≡ true
colon_code a b c h k = grind (arith, nat_tests)

closed_there : (f : Lookahead) (ts : List Token) → (is_none f || is_colon f) ≡ true → is_ahead f ts ≡ true → is_closing ts ≡ true
closed_there None [] h k = refl
closed_there None (t ∷ ts) h k = cc
closed_there Any ts h k = cc
closed_there (Spanned a b) [] h k = cc
closed_there (Spanned a b) (Coded c ∷ ts) h k = colon_code a b c h k
closed_there (Spanned a b) (Plain j w ∷ ts) h k = cc
closed_there (Spanned a b) (Lined x y ∷ ts) h k = cc
closed_there (Spanned a b) (Short c ∷ ts) h k = cc
closed_there (ShortOf c) ts h k = cc
closed_there (Hand l) ts h k = cc
closed_there Numbered ts h k = cc

refused_one : (o : Origin) (t : Tail) (fs : List Lookahead) (ts : List Token) → every (refused_by t) fs ≡ true → some (λ (f : Lookahead). is_ahead f ts) fs ≡ true → RefusedBy o t ts
refused_one o (Asked st) fs ts h k = λ s spelled. answers o st fs false ts s h k spelled
refused_one o Closed fs ts h k = let one = some_lookahead (refused_by Closed) fs ts h k in closed_there one.0 ts one.1.0 one.1.1
refused_one o Over fs ts h k = let one = some_lookahead (refused_by Over) fs ts h k in none_there one.0 ts one.1.0 one.1.1

-- what the lookaheads of what stands there refuse
pub refused_lookaheads : (o : Origin) (xs : List Tail) (fs : List Lookahead) (ts : List Token) → refuse xs fs ≡ true → some (λ (f : Lookahead). is_ahead f ts) fs ≡ true → Refused o xs ts
refused_lookaheads o [] fs ts h k = tt
refused_lookaheads o (x ∷ xs) fs ts h k = (refused_one o x fs ts (and_left _ _ h) k, refused_lookaheads o xs fs ts (and_right (every (refused_by x) fs) _ h) k)

-- tokens that are none where a row may be empty, or that begin as the row's trees do
abbrev pub Led : Known → List Token → List Token → Type 0
Led k xs more = ((xs ≡ []) × (k.empty ≡ true)) ⊎ (some (λ (f : Lookahead). is_ahead f (xs ++ more)) k.heads ≡ true)

some_left : (p : Lookahead → Bool) (xs ys : List Lookahead) → some p xs ≡ true → some p (xs ++ ys) ≡ true
some_left p [] ys h = cc
some_left p (x ∷ xs) ys h = elim (or_cases (p x) (some p xs) h) [
  | inl g ↦ or_one _ _ g
  | inr g ↦ or_other (p x) _ (some_left p xs ys g)
]

some_right : (p : Lookahead → Bool) (xs ys : List Lookahead) → some p ys ≡ true → some p (xs ++ ys) ≡ true
some_right p [] ys h = h
some_right p (x ∷ xs) ys h = or_other (p x) _ (some_right p xs ys h)

some_when : (p : Lookahead → Bool) (b : Bool) (ys : List Lookahead) → b ≡ true → some p ys ≡ true → some p (when b ys) ≡ true
some_when p true ys h k = k
some_when p false ys h k = cc

led_seq : (a b : Known) (xs ys more : List Token) → Led a xs (ys ++ more) → Led b ys more → Led (joined_known a b) (xs ++ ys) more
led_seq a b xs ys more (inl h) (inl k) = inl ((λ i. h.0 i ++ k.0 i), rw h.1 k.1)
led_seq a b xs ys more (inl h) (inr k) =
    inr (some_right _ a.heads _ (some_when _ a.empty b.heads h.1 (ap (λ (l : List Token). some (λ (f : Lookahead). is_ahead f ((l ++ ys) ++ more)) b.heads) h.0 ∙ k)))
led_seq a b xs ys more (inr h) k =
    inr (some_left _ a.heads _ (ap (λ (l : List Token). some (λ (f : Lookahead). is_ahead f l) a.heads) (append_assoc xs ys more) ∙ h))

no_line_leaf : (w : Text) → is_whole leaf.LineNumber w ≡ true → ⊥
no_line_leaf w h = grind (arith, nat_tests)

line_leaf : (j : Leaf) (w : Text) → (leaf_number j == 7 && is_whole j w) ≡ true → ⊥
line_leaf leaf.LineNumber w h = no_line_leaf w h
line_leaf j w h = cc

-- a token of an item begins as the item does
pub token_leads : (o : Origin) (i : Item) (t : Token) (ts : List Token) → fits_token o i t ≡ true → some (λ (f : Lookahead). is_ahead f (t ∷ ts)) (of_item of i).heads ≡ true
token_leads o (Word c) (Coded d) ts h = or_one _ _ (sym (span_of c d) ∙ h)
token_leads o (Sign c code) (Coded d) ts h = or_one _ _ (sym (span_of c d) ∙ h)
token_leads o (Among a b code) (Coded d) ts h = or_one _ _ h
token_leads origin.Immediate (ProgramWord c) (Coded d) ts h = cc
token_leads origin.Program (ProgramWord c) (Coded d) ts h = or_one _ _ (sym (span_of c d) ∙ h)
token_leads origin.Atoms (ProgramWord c) (Coded d) ts h = or_one _ _ (sym (span_of c d) ∙ h)
token_leads o Comma (Coded d) ts h = or_one _ _ (sym (span_of 44 d) ∙ h)
token_leads o (ShortWord c) (Short d) ts h = or_one _ _ h
token_leads o (Typed leaf.LineNumber code) (Plain j w) ts h = absurd (line_leaf j w h)
token_leads o (Typed leaf.LineNumber code) (Lined x y) ts h = or_one _ _ h
token_leads o (Typed k code) (Plain j w) ts h = or_one _ _ h
token_leads o (Typed k code) (Lined x y) ts h = cc
token_leads o (Typed k code) (Coded d) ts h = cc
token_leads o (Typed k code) (Short d) ts h = cc
token_leads o (Word c) t ts h = cc
token_leads o (Sign c code) t ts h = cc
token_leads o (Among a b code) t ts h = cc
token_leads o (ProgramWord c) t ts h = cc
token_leads o (Ignored c) t ts h = cc
token_leads o (ShortWord c) t ts h = cc
token_leads o Comma t ts h = cc
token_leads o LeftOut t ts h = cc
token_leads o End t ts h = cc
token_leads o (Part n) t ts h = cc
token_leads o (Maybe s n) t ts h = cc
token_leads o (Either s n m) t ts h = cc
token_leads o (Many s n) t ts h = cc
token_leads o (Nest n) t ts h = cc
token_leads o (Statement p) t ts h = cc

pub may_end_empty : (is : List Item) → may_end is ≡ true → (of_items of is).empty ≡ true
may_end_empty [] h = refl
may_end_empty (Ignored c ∷ is) h = may_end_empty is h
may_end_empty (End ∷ is) h = may_end_empty is h
may_end_empty (Typed leaf.Text code ∷ is) h = may_end_empty is h
may_end_empty (i ∷ is) h = cc

pub covered_lookahead : (g f : Lookahead) (ts : List Token) → covers g f ≡ true → is_ahead f ts ≡ true → is_ahead g ts ≡ true
covered_lookahead (Spanned a b) (Spanned c d) [] h k = cc
covered_lookahead (Spanned a b) (Spanned c d) (Coded e ∷ ts) h k = among_inside a b c d e h k
covered_lookahead (Spanned a b) (Spanned c d) (Plain j w ∷ ts) h k = cc
covered_lookahead (Spanned a b) (Spanned c d) (Lined x y ∷ ts) h k = cc
covered_lookahead (Spanned a b) (Spanned c d) (Short e ∷ ts) h k = cc
covered_lookahead (Hand l) (Hand j) [] h k = cc
covered_lookahead (Hand l) (Hand j) (Coded e ∷ ts) h k = cc
covered_lookahead (Hand l) (Hand j) (Plain i w ∷ ts) h k = grind (arith, nat_tests)
covered_lookahead (Hand l) (Hand j) (Lined x y ∷ ts) h k = cc
covered_lookahead (Hand l) (Hand j) (Short e ∷ ts) h k = cc
covered_lookahead Numbered Numbered ts h k = k
covered_lookahead g f ts h k = cc

covered_some : (gs : List Lookahead) (f : Lookahead) (ts : List Token) → some (λ (g : Lookahead). covers g f) gs ≡ true → is_ahead f ts ≡ true → some (λ (g : Lookahead). is_ahead g ts) gs ≡ true
covered_some [] f ts h k = cc
covered_some (g ∷ gs) f ts h k = elim (or_cases (covers g f) (some (λ (x : Lookahead). covers x f) gs) h) [
  | inl e ↦ or_one _ _ (covered_lookahead g f ts e k)
  | inr e ↦ or_other (is_ahead g ts) _ (covered_some gs f ts e k)
]

pub covered_all : (gs fs : List Lookahead) (ts : List Token) → covered gs fs ≡ true → some (λ (f : Lookahead). is_ahead f ts) fs ≡ true → some (λ (g : Lookahead). is_ahead g ts) gs ≡ true
covered_all gs fs ts h k = let one = some_lookahead (λ (f : Lookahead). some (λ (g : Lookahead). covers g f) gs) fs ts h k in covered_some gs one.0 ts one.1.0 one.1.1

pub giving_known : (is : List Item) → ((of_items of (giving is)).heads ≡ (of_items of is).heads) × ((of_items of (giving is)).empty ≡ (of_items of is).empty)
giving_known [] = (refl, refl)
giving_known (Ignored c ∷ is) = giving_known is
giving_known (End ∷ is) = giving_known is
giving_known (i ∷ is) = (refl, refl)

pub led_giving : (is : List Item) (xs more : List Token) → Led (of_items of (giving is)) xs more → Led (of_items of is) xs more
led_giving is xs more (inl h) = inl (h.0, sym (giving_known is).1 ∙ h.1)
led_giving is xs more (inr h) = inr (ap (some (λ (f : Lookahead). is_ahead f (xs ++ more))) (sym (giving_known is).0) ∙ h)

pub led_known : (n : ℕ) (xs more : List Token) → Led (of_items of (row_items n)) xs more → Led (of n) xs more
led_known n xs more (inl h) = inl (h.0, ap (λ (k : Known). k.empty) (sym (known n)) ∙ h.1)
led_known n xs more (inr h) = inr (ap (λ (k : Known). some (λ (f : Lookahead). is_ahead f (xs ++ more)) k.heads) (sym (known n)) ∙ h)

-- a row that may be left out, and what two rows begin with
led_maybe : (s : Start) (n : ℕ) (xs more : List Token) → Led (of n) xs more → Led (of_item of (Maybe s n)) xs more
led_maybe s n xs more (inl h) = inl (h.0, refl)
led_maybe s n xs more (inr h) = inr h

led_nothing : (k : Known) (more : List Token) → k.empty ≡ true → Led k [] more
led_nothing k more h = inl (refl, h)

led_first : (s : Start) (n m : ℕ) (xs more : List Token) → Led (of n) xs more → Led (of_item of (Either s n m)) xs more
led_first s n m xs more (inl h) = inl (h.0, or_one _ _ h.1)
led_first s n m xs more (inr h) = inr (some_left _ (of n).heads _ h)

led_second : (s : Start) (n m : ℕ) (xs more : List Token) → Led (of m) xs more → Led (of_item of (Either s n m)) xs more
led_second s n m xs more (inl h) = inl (h.0, or_other (of n).empty _ h.1)
led_second s n m xs more (inr h) = inr (some_right _ (of n).heads _ h)

led_statement : (o : Origin) (p : Position) (m : ℕ) (xs more : List Token) → is_statement forms o p m ≡ true → Led (of m) xs more → Led (of_item of (Statement p)) xs more
led_statement o p m xs more h (inl k) = never (of m).empty k.1 (not_true _ (and_left _ _ (statement_good o p m h)))
led_statement o p m xs more h (inr k) =
    inr (covered_all statement_heads (of m).heads (xs ++ more) (and_left _ _ (and_right (not (of m).empty) _ (statement_good o p m h))) k)

no_tokens : (o : Origin) (most room : ℕ) (t : Trees) → Fits o most room [] t → tokens t ≡ []
no_tokens o most room Done h = refl
no_tokens o most room (Put t ts) h = absurd h
no_tokens o most room (In m inner ts) h = absurd h

-- a branch of an item, and what follows it
abbrev Leads : Trees → Type 0
Leads t = (o : Origin) (most room : ℕ) (is : List Item) → Fits o most room is t → (more : List Token) → Led (of_items of is) (tokens t) more

led_row : (inner : Trees) → Leads inner → (o : Origin) (most room n : ℕ) → Fits o most room (row_items n) inner → (more : List Token) → Led (of n) (tokens inner) more
led_row inner leads_inner o most room n h more = led_known n (tokens inner) more (leads_inner o most room (row_items n) h more)

branch_leads : (inner ts : Trees) → Leads inner → Leads ts → (o : Origin) (most room m : ℕ) (i : Item) (is : List Item)
    → FitsBranch o most room i is m (λ (deep : ℕ) (items : List Item). Fits o most deep items inner) (λ (rest : List Item). Fits o most room rest ts)
    → (more : List Token) → Led (of_items of (i ∷ is)) (tokens inner ++ tokens ts) more
branch_leads inner ts li lt o most room m (Part n) is h more =
    led_seq (of_item of (Part n)) (of_items of is) (tokens inner) (tokens ts) more (led_row inner li o most room n h.1.0 (tokens ts ++ more)) (lt o most room is h.1.1 more)
branch_leads inner ts li lt o most room zero (Maybe s n) is h more =
    led_seq (of_item of (Maybe s n)) (of_items of is) (tokens inner) (tokens ts) more (inl (no_tokens o most room inner h.0, refl)) (lt o most room is h.1 more)
branch_leads inner ts li lt o most room (suc zero) (Maybe s n) is h more =
    led_seq (of_item of (Maybe s n)) (of_items of is) (tokens inner) (tokens ts) more
    (led_maybe s n (tokens inner) (tokens ts ++ more) (led_row inner li o most room n h.0 (tokens ts ++ more))) (lt o most room is h.1 more)
branch_leads inner ts li lt o most room (suc (suc m)) (Maybe s n) is h more = absurd h
branch_leads inner ts li lt o most room zero (Either s n k) is h more =
    led_seq (of_item of (Either s n k)) (of_items of is) (tokens inner) (tokens ts) more
    (led_second s n k (tokens inner) (tokens ts ++ more) (led_row inner li o most room k h.0 (tokens ts ++ more))) (lt o most room is h.1 more)
branch_leads inner ts li lt o most room (suc zero) (Either s n k) is h more =
    led_seq (of_item of (Either s n k)) (of_items of is) (tokens inner) (tokens ts) more
    (led_first s n k (tokens inner) (tokens ts ++ more) (led_row inner li o most room n h.0 (tokens ts ++ more))) (lt o most room is h.1 more)
branch_leads inner ts li lt o most room (suc (suc m)) (Either s n k) is h more = absurd h
branch_leads inner ts li lt o most room zero (Many s n) is h more =
    led_seq (of_item of (Many s n)) (of_items of is) (tokens inner) (tokens ts) more (inl (no_tokens o most room inner h.0, refl)) (lt o most room is h.1 more)
branch_leads inner ts li lt o most room (suc zero) (Many s n) is h more = elim (led_row inner li o most room n h.0 (tokens ts ++ more)) [
  | inl g ↦ (let P : List Token → Type 0 = λ l. Led (of_items of (Many s n ∷ is)) (l ++ tokens ts) more in subst P (sym g.0) (lt o most room (Many s n ∷ is) h.1 more))
  | inr g ↦ inr (some_left _ (of n).heads _ (ap (λ (l : List Token). some (λ (f : Lookahead). is_ahead f l) (of n).heads) (append_assoc (tokens inner) (tokens ts) more) ∙ g))
]
branch_leads inner ts li lt o most room (suc (suc m)) (Many s n) is h more = absurd h
branch_leads inner ts li lt o most room m (Nest n) is h more = inr refl
branch_leads inner ts li lt o most room m (Statement p) is h more =
    led_seq (of_item of (Statement p)) (of_items of is) (tokens inner) (tokens ts) more
    (led_statement o p m (tokens inner) (tokens ts ++ more) h.0 (led_row inner li o most most m h.1.0 (tokens ts ++ more))) (lt o most room is h.1.1 more)
branch_leads inner ts li lt o most room m (Word c) is h more = absurd h
branch_leads inner ts li lt o most room m (Sign c code) is h more = absurd h
branch_leads inner ts li lt o most room m (Among a b code) is h more = absurd h
branch_leads inner ts li lt o most room m (ProgramWord c) is h more = absurd h
branch_leads inner ts li lt o most room m (Ignored c) is h more = absurd h
branch_leads inner ts li lt o most room m (ShortWord c) is h more = absurd h
branch_leads inner ts li lt o most room m Comma is h more = absurd h
branch_leads inner ts li lt o most room m LeftOut is h more = absurd h
branch_leads inner ts li lt o most room m End is h more = absurd h
branch_leads inner ts li lt o most room m (Typed k code) is h more = absurd h

put_leads : (t : Token) (ts : Trees) → Leads ts → (o : Origin) (most room : ℕ) (is : List Item) → FitsPut o is t (λ (rest : List Item). Fits o most room rest ts)
    → (more : List Token) → Led (of_items of is) (t ∷ tokens ts) more
put_leads t ts lt o most room [] h more = absurd h
put_leads t ts lt o most room (i ∷ is) h more = inr (some_left _ (of_item of i).heads _ (token_leads o i t (tokens ts ++ more) h.0))

in_leads : (inner ts : Trees) → Leads inner → Leads ts → (o : Origin) (most room m : ℕ) (is : List Item)
    → FitsIn o most room is m (λ (deep : ℕ) (items : List Item). Fits o most deep items inner) (λ (rest : List Item). Fits o most room rest ts)
    → (more : List Token) → Led (of_items of is) (tokens inner ++ tokens ts) more
in_leads inner ts li lt o most room m [] h more = absurd h
in_leads inner ts li lt o most room m (i ∷ is) h more = branch_leads inner ts li lt o most room m i is h more

-- a tree that fits begins as its row does
pub leads : (t : Trees) → Leads t
leads Done o most room is h more = inl (refl, may_end_empty is h)
leads (Put t ts) o most room is h more = led_giving is (t ∷ tokens ts) more (put_leads t ts (leads ts) o most room (giving is) h more)
leads (In m inner ts) o most room is h more = led_giving is (tokens inner ++ tokens ts) more (in_leads inner ts (leads inner) (leads ts) o most room m (giving is) h more)

-- a tree of a row that isn't empty has a token
abbrev Fills : Trees → Type 0
Fills t = (o : Origin) (most room : ℕ) (is : List Item) → Fits o most room is t → (of_items of is).empty ≡ false → 0 < length (tokens t)

and_cases : (a b : Bool) → (a && b) ≡ false → (a ≡ false) ⊎ (b ≡ false)
and_cases true b h = inr h
and_cases false b h = inl refl

more_left : (xs ys : List Token) → 0 < length xs → 0 < length (xs ++ ys)
more_left [] ys h = absurd (omega arith)
more_left (x ∷ xs) ys h = omega arith

more_right : (xs ys : List Token) → 0 < length ys → 0 < length (xs ++ ys)
more_right [] ys h = h
more_right (x ∷ xs) ys h = omega arith

fills_row : (inner : Trees) → Fills inner → (o : Origin) (most room n : ℕ) → Fits o most room (row_items n) inner → (of n).empty ≡ false → 0 < length (tokens inner)
fills_row inner fi o most room n h e = fi o most room (row_items n) h (ap (λ (k : Known). k.empty) (known n) ∙ e)

fills_two : (inner ts : Trees) (a b : Bool) → (a && b) ≡ false → (a ≡ false → 0 < length (tokens inner)) → (b ≡ false → 0 < length (tokens ts)) → 0 < length (tokens inner ++ tokens ts)
fills_two inner ts a b h f g = elim (and_cases a b h) [
  | inl e ↦ more_left (tokens inner) (tokens ts) (f e)
  | inr e ↦ more_right (tokens inner) (tokens ts) (g e)
]

branch_fills : (inner ts : Trees) → Fills inner → Fills ts → (o : Origin) (most room m : ℕ) (i : Item) (is : List Item)
    → FitsBranch o most room i is m (λ (deep : ℕ) (items : List Item). Fits o most deep items inner) (λ (rest : List Item). Fits o most room rest ts)
    → (of_items of (i ∷ is)).empty ≡ false → 0 < length (tokens inner ++ tokens ts)
branch_fills inner ts fi ft o most room m (Part n) is h e = fills_two inner ts (of n).empty (of_items of is).empty e (fills_row inner fi o most room n h.1.0) (ft o most room is h.1.1)
branch_fills inner ts fi ft o most room zero (Maybe s n) is h e = more_right (tokens inner) (tokens ts) (ft o most room is h.1 e)
branch_fills inner ts fi ft o most room (suc zero) (Maybe s n) is h e = more_right (tokens inner) (tokens ts) (ft o most room is h.1 e)
branch_fills inner ts fi ft o most room (suc (suc m)) (Maybe s n) is h e = absurd h
branch_fills inner ts fi ft o most room zero (Either s n k) is h e =
    fills_two inner ts ((of n).empty || (of k).empty) (of_items of is).empty e (λ g. fills_row inner fi o most room k h.0 (or_right (of n).empty _ g)) (ft o most room is h.1)
branch_fills inner ts fi ft o most room (suc zero) (Either s n k) is h e =
    fills_two inner ts ((of n).empty || (of k).empty) (of_items of is).empty e (λ g. fills_row inner fi o most room n h.0 (or_left _ _ g)) (ft o most room is h.1)
branch_fills inner ts fi ft o most room (suc (suc m)) (Either s n k) is h e = absurd h
branch_fills inner ts fi ft o most room zero (Many s n) is h e = more_right (tokens inner) (tokens ts) (ft o most room is h.1 e)
branch_fills inner ts fi ft o most room (suc zero) (Many s n) is h e = more_right (tokens inner) (tokens ts) (ft o most room (Many s n ∷ is) h.1 e)
branch_fills inner ts fi ft o most room (suc (suc m)) (Many s n) is h e = absurd h
branch_fills inner ts fi ft o most zero m (Nest n) is h e = absurd h
branch_fills inner ts fi ft o most (suc room) m (Nest n) is h e = more_right (tokens inner) (tokens ts) (ft o most (suc room) is h.1.1 e)
branch_fills inner ts fi ft o most room m (Statement p) is h e =
    more_left (tokens inner) (tokens ts) (fills_row inner fi o most most m h.1.0 (not_true _ (and_left _ _ (statement_good o p m h.0))))
branch_fills inner ts fi ft o most room m (Word c) is h e = absurd h
branch_fills inner ts fi ft o most room m (Sign c code) is h e = absurd h
branch_fills inner ts fi ft o most room m (Among a b code) is h e = absurd h
branch_fills inner ts fi ft o most room m (ProgramWord c) is h e = absurd h
branch_fills inner ts fi ft o most room m (Ignored c) is h e = absurd h
branch_fills inner ts fi ft o most room m (ShortWord c) is h e = absurd h
branch_fills inner ts fi ft o most room m Comma is h e = absurd h
branch_fills inner ts fi ft o most room m LeftOut is h e = absurd h
branch_fills inner ts fi ft o most room m End is h e = absurd h
branch_fills inner ts fi ft o most room m (Typed k code) is h e = absurd h

in_fills : (inner ts : Trees) → Fills inner → Fills ts → (o : Origin) (most room m : ℕ) (is : List Item)
    → FitsIn o most room is m (λ (deep : ℕ) (items : List Item). Fits o most deep items inner) (λ (rest : List Item). Fits o most room rest ts)
    → (of_items of is).empty ≡ false → 0 < length (tokens inner ++ tokens ts)
in_fills inner ts fi ft o most room m [] h e = absurd h
in_fills inner ts fi ft o most room m (i ∷ is) h e = branch_fills inner ts fi ft o most room m i is h e

pub fills : (t : Trees) → Fills t
fills Done o most room is h e = never (of_items of is).empty (may_end_empty is h) e
fills (Put t ts) o most room is h e = omega arith
fills (In m inner ts) o most room is h e = in_fills inner ts (fills inner) (fills ts) o most room m (giving is) h ((giving_known is).1 ∙ e)
