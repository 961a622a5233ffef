-- Which tokens of a tree stand side by side.
use Rattle.std.proofs.Common.{◌≡◌, ℕ, zero, suc, ◌==◌, ◌&&◌, ◌||◌, not, Bool, true, false, List, [], ◌∷◌, ◌++◌, refl, sym, ap, subst, ◌∙◌, append_assoc, inl, inr, ◌⊎◌}
use Rattle.b2_atom.specs.Tokens.{Token}
use Rattle.b2_atom.specs.Tokens.Token.{Coded, Short, Plain, Lined}
use Rattle.b2_atom.specs.Tree.{Trees, tokens}
use Rattle.b2_atom.specs.Tree.Trees.{Done, Put, In}
use Rattle.b2_atom.specs.Grammar.{row_items}
use Rattle.b2_atom.specs.Fitting.{Fits, FitsPut, FitsIn, FitsBranch, giving, fits_token, is_statement}
use Rattle.b2_atom.specs.Table.{forms}
use Rattle.b2_atom.specs.declared.rows.TheConstants as row
use Rattle.b2_atom.specs.declared.words.Origin.{Origin}
use Rattle.b2_atom.specs.declared.forms.Item.{Item}
use Rattle.b2_atom.specs.declared.forms.Position.{Position}
use Rattle.b2_atom.specs.declared.forms.Start.{Start}
use Rattle.b2_atom.proofs.settled.Computed.{statement_good}
use Rattle.b2_atom.specs.declared.forms.Leaf.TheVariants as leaf
use Rattle.b2_atom.specs.declared.forms.Item.TheVariants.{Word, Sign, Among, ProgramWord, Ignored, ShortWord, Comma, LeftOut, End, Typed, Part, Maybe, Either, Many, Nest, Statement}
use Rattle.b2_atom.proofs.Booleans.{equal, and_left, and_right, or_one, or_other, or_cases}
use Rattle.b2_atom.proofs.settled.Lookaheads.{every, some, Lookahead, is_ahead, Known, when, of_item, of_items, of, next_heads, Beside, besides, Within, paired, paired_item, is_closed, covers, covered, statement_ends, statement_heads, refuse, is_free_row, leading}
use Rattle.b2_atom.proofs.settled.Lookaheads.Lookahead.{Any, None, Spanned, ShortOf, Hand, Numbered}
use Rattle.b2_atom.proofs.settled.LookaheadAnswers.{some_lookahead}
use Rattle.b2_atom.proofs.settled.Heads.{known, Led, leads, led_known, token_leads, covered_lookahead, covered_all}

abbrev pub TwoTokens : Type 0
TwoTokens = Token → Token → Bool

-- each token and the one after it
abbrev pub Before : TwoTokens → Token → List Token → Type 0
Before q t [] = Unit {0}
Before q t (u ∷ us) = q t u ≡ true

abbrev pub Chain : TwoTokens → List Token → Type 0
Chain q [] = Unit {0}
Chain q (t ∷ ts) = Before q t ts × Chain q ts

-- what may follow the last token of some items
abbrev pub Follows : TwoTokens → List Lookahead → List Token → Type 0
Follows q fs more = (t : Token) → some (λ (f : Lookahead). is_ahead f (t ∷ [])) fs ≡ true → Before q t more

-- what the lookaheads tell holds of the tokens
abbrev pub Tells : Beside → TwoTokens → Type 0
Tells p q = (f g : Lookahead) (t u : Token) (us : List Token) → p f g ≡ true → is_ahead f (t ∷ []) ≡ true → is_ahead g (u ∷ us) ≡ true → q t u ≡ true

some_left : (p : Lookahead → Bool) (xs ys : List Lookahead) → some p xs ≡ true → some p (xs ++ ys) ≡ true
some_left p [] ys h = cc
some_left p (x ∷ xs) ys h = elim (or_cases (p x) (some p xs) h) [
  | inl g ↦ or_one _ _ g
  | inr g ↦ or_other (p x) _ (some_left p xs ys g)
]

some_right : (p : Lookahead → Bool) (xs ys : List Lookahead) → some p ys ≡ true → some p (xs ++ ys) ≡ true
some_right p [] ys h = h
some_right p (x ∷ xs) ys h = or_other (p x) _ (some_right p xs ys h)

some_when : (p : Lookahead → Bool) (b : Bool) (ys : List Lookahead) → b ≡ true → some p ys ≡ true → some p (when b ys) ≡ true
some_when p true ys h k = k
some_when p false ys h k = cc

follows_left : (q : TwoTokens) (xs ys : List Lookahead) (more : List Token) → Follows q (xs ++ ys) more → Follows q xs more
follows_left q xs ys more h = λ t k. h t (some_left _ xs ys k)

follows_right : (q : TwoTokens) (xs ys : List Lookahead) (more : List Token) → Follows q (xs ++ ys) more → Follows q ys more
follows_right q xs ys more h = λ t k. h t (some_right _ xs ys k)

follows_when : (q : TwoTokens) (b : Bool) (xs ys : List Lookahead) (more : List Token) → b ≡ true → Follows q (when b xs ++ ys) more → Follows q xs more
follows_when q true xs ys more h k = follows_left q xs ys more k
follows_when q false xs ys more h k = cc

pub before_lookaheads : (p : Beside) (q : TwoTokens) → Tells p q → (fs gs : List Lookahead) (ts : List Token) → besides p fs gs ≡ true → some (λ (g : Lookahead). is_ahead g ts) gs ≡ true → Follows q fs ts
before_lookaheads p q tells fs gs [] test h = λ t k. tt
before_lookaheads p q tells fs gs (u ∷ us) test h = λ t k.
    let f = some_lookahead (λ (x : Lookahead). every (λ (g : Lookahead). p x g) gs) fs (t ∷ []) test k in
    let g = some_lookahead (λ (y : Lookahead). p f.0 y) gs (u ∷ us) f.1.0 h in
    tells f.0 g.0 t u us g.1.0 f.1.1 g.1.1

-- what stands at the front of items
abbrev pub NextLed : List Item → List Token → List Token → Type 0
NextLed is xs more = ((xs ≡ []) × ((of_items of is).empty ≡ true)) ⊎ (some (λ (f : Lookahead). is_ahead f (xs ++ more)) (next_heads is) ≡ true)

nest_led : (n : ℕ) (is : List Item) (xs ys more : List Token) → Led (of n) xs (ys ++ more) → Led (of_items of is) ys more → NextLed (Nest n ∷ is) (xs ++ ys) more
nest_led n is xs ys more (inl h) (inl k) = inl ((λ i. h.0 i ++ k.0 i), k.1)
nest_led n is xs ys more (inl h) (inr k) =
    inr (some_right _ (of n).heads _ (some_when _ (of n).empty (of_items of is).heads h.1
    (ap (λ (l : List Token). some (λ (f : Lookahead). is_ahead f ((l ++ ys) ++ more)) (of_items of is).heads) h.0 ∙ k)))
nest_led n is xs ys more (inr h) k =
    inr (some_left _ (of n).heads _ (ap (λ (l : List Token). some (λ (f : Lookahead). is_ahead f l) (of n).heads) (append_assoc xs ys more) ∙ h))

nest_next : (t : Trees) (o : Origin) (most room n : ℕ) (is : List Item) → Fits o most room (Nest n ∷ is) t → (more : List Token) → NextLed (Nest n ∷ is) (tokens t) more
nest_next Done o most room n is h more = cc
nest_next (Put t ts) o most room n is h more = cc
nest_next (In m inner ts) o most zero n is h more = absurd h
nest_next (In m inner ts) o most (suc room) n is h more =
    nest_led n is (tokens inner) (tokens ts) more (led_known n (tokens inner) (tokens ts ++ more) (leads inner o most room (row_items n) h.1.0 (tokens ts ++ more))) (leads ts o most (suc room) is h.1.1 more)

next_led : (is : List Item) (t : Trees) (o : Origin) (most room : ℕ) → Fits o most room is t → (more : List Token) → NextLed is (tokens t) more
next_led (Nest n ∷ is) t o most room h more = nest_next t o most room n is h more
next_led [] t o most room h more = leads t o most room [] h more
next_led (i ∷ is) t o most room h more = leads t o most room (i ∷ is) h more

item_follows : (p : Beside) (q : TwoTokens) → Tells p q → (i : Item) (is : List Item) (xs more : List Token) → NextLed is xs more → besides p (of_item of i).ends (next_heads is) ≡ true
    → Follows q (of_items of (i ∷ is)).ends more → Follows q (of_item of i).ends (xs ++ more)
item_follows p q tells i is xs more (inl h) test follows =
    let P : List Token → Type 0 = λ l. Follows q (of_item of i).ends (l ++ more) in
    subst P (sym h.0) (follows_when q (of_items of is).empty (of_item of i).ends (of_items of is).ends more h.1 follows)
item_follows p q tells i is xs more (inr h) test follows = before_lookaheads p q tells (of_item of i).ends (next_heads is) (xs ++ more) test h

-- a table of rows whose tokens may stand side by side
abbrev pub Rows : Within → Beside → Type 0
Rows r p = (n : ℕ) → r n ≡ true → paired r p (row_items n) ≡ true

-- where statements stand, all rows are of the table
abbrev pub Everywhere : Within → Type 0
Everywhere r = r row.LINE ≡ true → (n : ℕ) → r n ≡ true

abbrev pub Chained : Within → Beside → TwoTokens → Trees → Type 0
Chained r p q t = (o : Origin) (most room : ℕ) (is : List Item) → Fits o most room is t → paired r p is ≡ true → (more : List Token) → Follows q (of_items of is).ends more → Chain q more
    → Chain q (tokens t ++ more)

chain_apart : (q : TwoTokens) (xs ys zs : List Token) → Chain q (xs ++ (ys ++ zs)) → Chain q ((xs ++ ys) ++ zs)
chain_apart q xs ys zs h = let P : List Token → Type 0 = λ l. Chain q l in subst P (sym (append_assoc xs ys zs)) h

chain_row : (r : Within) (p : Beside) (q : TwoTokens) → Rows r p → (inner : Trees) → Chained r p q inner → (o : Origin) (most room n : ℕ) → Fits o most room (row_items n) inner → r n ≡ true
    → (more : List Token) → Follows q (of n).ends more → Chain q more → Chain q (tokens inner ++ more)
chain_row r p q rows inner ci o most room n fits within more follows chain =
    let P : Known → Type 0 = λ k. Follows q k.ends more in
    ci o most room (row_items n) fits (rows n within) more (subst P (sym (known n)) follows) chain

no_tokens : (o : Origin) (most room : ℕ) (t : Trees) → Fits o most room [] t → tokens t ≡ []
no_tokens o most room Done h = refl
no_tokens o most room (Put t ts) h = absurd h
no_tokens o most room (In m inner ts) h = absurd h

chain_none : (q : TwoTokens) (o : Origin) (most room : ℕ) (inner : Trees) (ys more : List Token) → Fits o most room [] inner → Chain q (ys ++ more) → Chain q ((tokens inner ++ ys) ++ more)
chain_none q o most room inner ys more fits h = let P : List Token → Type 0 = λ l. Chain q ((l ++ ys) ++ more) in subst P (sym (no_tokens o most room inner fits)) h

some_split : (p : Lookahead → Bool) (xs ys : List Lookahead) → some p (xs ++ ys) ≡ true → (some p xs ≡ true) ⊎ (some p ys ≡ true)
some_split p [] ys h = inr h
some_split p (x ∷ xs) ys h = elim (or_cases (p x) (some p (xs ++ ys)) h) [
  | inl g ↦ inl (or_one _ _ g)
  | inr g ↦ elim (some_split p xs ys g) [
    | inl e ↦ inl (or_other (p x) _ e)
    | inr e ↦ inr e
  ]
]

turn_follows : (p : Beside) (q : TwoTokens) → Tells p q → (x : Start) (n : ℕ) (is : List Item) (xs more : List Token) → Led (of_items of (Many x n ∷ is)) xs more
    → besides p (of n).ends (of n).heads ≡ true → besides p (of n).ends (of_items of is).heads ≡ true → Follows q (of_items of (Many x n ∷ is)).ends more → Follows q (of n).ends (xs ++ more)
turn_follows p q tells x n is xs more (inl h) own test follows =
    let P : List Token → Type 0 = λ l. Follows q (of n).ends (l ++ more) in subst P (sym h.0) (follows_when q (of_items of is).empty (of n).ends (of_items of is).ends more h.1 follows)
turn_follows p q tells x n is xs more (inr h) own test follows = elim (some_split (λ (f : Lookahead). is_ahead f (xs ++ more)) (of n).heads (of_items of is).heads h) [
  | inl e ↦ before_lookaheads p q tells (of n).ends (of n).heads (xs ++ more) own e
  | inr e ↦ before_lookaheads p q tells (of n).ends (of_items of is).heads (xs ++ more) test e
]

close_lookahead : (c code : ℕ) (is : List Item) (xs more : List Token) → (c == 41) ≡ true → Led (of_items of (Sign c code ∷ is)) xs more → some (λ (f : Lookahead). is_ahead f (xs ++ more)) (Spanned 41 41 ∷ []) ≡ true
close_lookahead c code is xs more h (inl g) = cc
close_lookahead c code is xs more h (inr g) = ap (λ (n : ℕ). some (λ (f : Lookahead). is_ahead f (xs ++ more)) (Spanned n n ∷ [])) (sym (equal c 41 h)) ∙ g

nest_follows : (p : Beside) (q : TwoTokens) → Tells p q → (o : Origin) (most room n : ℕ) (is : List Item) (ts : Trees) (more : List Token) → is_closed is ≡ true
    → besides p (of n).ends (Spanned 41 41 ∷ []) ≡ true → Fits o most room is ts → Follows q (of n).ends (tokens ts ++ more)
nest_follows p q tells o most room n (Sign c code ∷ is) ts more h test fits =
    before_lookaheads p q tells (of n).ends (Spanned 41 41 ∷ []) (tokens ts ++ more) test (close_lookahead c code is (tokens ts) more h (leads ts o most room (Sign c code ∷ is) fits more))
nest_follows p q tells o most room n [] ts more h test fits = cc
nest_follows p q tells o most room n (i ∷ is) ts more h test fits = cc

covers_last : (g f : Lookahead) (t : Token) → covers g f ≡ true → is_ahead f (t ∷ []) ≡ true → is_ahead g (t ∷ []) ≡ true
covers_last g f t h k = covered_lookahead g f (t ∷ []) h k

statement_follows : (q : TwoTokens) (o : Origin) (x : Position) (m : ℕ) (more : List Token) → is_statement forms o x m ≡ true → Follows q statement_ends more → Follows q (of m).ends more
statement_follows q o x m more stated h = λ t k.
    let test = statement_good o x m stated in
    let last = and_right (is_free_row (row_items m) || refuse (of m).tails (None ∷ Spanned 58 58 ∷ [])) _
    (and_right ((of m).plain || leading (row_items m)) _ (and_right (covered statement_heads (of m).heads) _ (and_right (not (of m).empty) _ test))) in
    h t (covered_all statement_ends (of m).ends (t ∷ []) last k)

branch_chain : (r : Within) (p : Beside) (q : TwoTokens) → Tells p q → Rows r p → Everywhere r → (inner ts : Trees) → Chained r p q inner → Chained r p q ts
    → (o : Origin) (most room m : ℕ) (i : Item) (is : List Item)
    → FitsBranch o most room i is m (λ (deep : ℕ) (items : List Item). Fits o most deep items inner) (λ (rest : List Item). Fits o most room rest ts)
    → paired r p (i ∷ is) ≡ true → (more : List Token) → Follows q (of_items of (i ∷ is)).ends more → Chain q more → Chain q ((tokens inner ++ tokens ts) ++ more)
branch_chain r p q tells rows all_ inner ts ci ct o most room m (Part n) is h test more follows chain =
    let tests = and_right (r n) _ test in
    let rest = ct o most room is h.1.1 (and_right (besides p (of_item of (Part n)).ends (next_heads is)) _ tests) more (follows_right q (when (of_items of is).empty (of n).ends) _ more follows) chain in
    chain_apart q (tokens inner) (tokens ts) more
    (chain_row r p q rows inner ci o most room n h.1.0 (and_left _ _ test) (tokens ts ++ more) (item_follows p q tells (Part n) is (tokens ts) more (next_led is ts o most room h.1.1 more) (and_left _ _ tests) follows) rest)
branch_chain r p q tells rows all_ inner ts ci ct o most room zero (Maybe s n) is h test more follows chain =
    let tests = and_right (r n) _ test in
    let rest = ct o most room is h.1 (and_right (besides p (of_item of (Maybe s n)).ends (next_heads is)) _ tests) more (follows_right q (when (of_items of is).empty (of n).ends) _ more follows) chain in
    chain_none q o most room inner (tokens ts) more h.0 rest
branch_chain r p q tells rows all_ inner ts ci ct o most room (suc zero) (Maybe s n) is h test more follows chain =
    let tests = and_right (r n) _ test in
    let rest = ct o most room is h.1 (and_right (besides p (of_item of (Maybe s n)).ends (next_heads is)) _ tests) more (follows_right q (when (of_items of is).empty (of n).ends) _ more follows) chain in
    chain_apart q (tokens inner) (tokens ts) more
    (chain_row r p q rows inner ci o most room n h.0 (and_left _ _ test) (tokens ts ++ more) (item_follows p q tells (Maybe s n) is (tokens ts) more (next_led is ts o most room h.1 more) (and_left _ _ tests) follows) rest)
branch_chain r p q tells rows all_ inner ts ci ct o most room (suc (suc m)) (Maybe s n) is h test more follows chain = absurd h
branch_chain r p q tells rows all_ inner ts ci ct o most room zero (Either s n k) is h test more follows chain =
    let tests = and_right (r n && r k) _ test in
    let rest = ct o most room is h.1 (and_right (besides p (of_item of (Either s n k)).ends (next_heads is)) _ tests) more (follows_right q (when (of_items of is).empty (of_item of (Either s n k)).ends) _ more follows) chain in
    let behind_ = item_follows p q tells (Either s n k) is (tokens ts) more (next_led is ts o most room h.1 more) (and_left _ _ tests) follows in
    chain_apart q (tokens inner) (tokens ts) more
    (chain_row r p q rows inner ci o most room k h.0 (and_right (r n) _ (and_left _ _ test)) (tokens ts ++ more) (follows_right q (of n).ends (of k).ends _ behind_) rest)
branch_chain r p q tells rows all_ inner ts ci ct o most room (suc zero) (Either s n k) is h test more follows chain =
    let tests = and_right (r n && r k) _ test in
    let rest = ct o most room is h.1 (and_right (besides p (of_item of (Either s n k)).ends (next_heads is)) _ tests) more (follows_right q (when (of_items of is).empty (of_item of (Either s n k)).ends) _ more follows) chain in
    let behind_ = item_follows p q tells (Either s n k) is (tokens ts) more (next_led is ts o most room h.1 more) (and_left _ _ tests) follows in
    chain_apart q (tokens inner) (tokens ts) more
    (chain_row r p q rows inner ci o most room n h.0 (and_left _ _ (and_left _ _ test)) (tokens ts ++ more) (follows_left q (of n).ends (of k).ends _ behind_) rest)
branch_chain r p q tells rows all_ inner ts ci ct o most room (suc (suc m)) (Either s n k) is h test more follows chain = absurd h
branch_chain r p q tells rows all_ inner ts ci ct o most room zero (Many s n) is h test more follows chain =
    let tests = and_right (paired_item r p (Many s n) is) _ test in
    let rest = ct o most room is h.1 (and_right (besides p (of_item of (Many s n)).ends (next_heads is)) _ tests) more (follows_right q (when (of_items of is).empty (of n).ends) _ more follows) chain in
    chain_none q o most room inner (tokens ts) more h.0 rest
branch_chain r p q tells rows all_ inner ts ci ct o most room (suc zero) (Many s n) is h test more follows chain =
    let own = and_left (paired_item r p (Many s n) is) _ test in
    let turns = and_right (r n) _ own in
    let rest = ct o most room (Many s n ∷ is) h.1 test more follows chain in
    chain_apart q (tokens inner) (tokens ts) more
    (chain_row r p q rows inner ci o most room n h.0 (and_left _ _ own) (tokens ts ++ more)
    (turn_follows p q tells s n is (tokens ts) more (leads ts o most room (Many s n ∷ is) h.1 more) (and_left _ _ turns) (and_right (besides p (of n).ends (of n).heads) _ turns) follows) rest)
branch_chain r p q tells rows all_ inner ts ci ct o most room (suc (suc m)) (Many s n) is h test more follows chain = absurd h
branch_chain r p q tells rows all_ inner ts ci ct o most zero m (Nest n) is h test more follows chain = absurd h
branch_chain r p q tells rows all_ inner ts ci ct o most (suc room) m (Nest n) is h test more follows chain =
    let own = and_left (paired_item r p (Nest n) is) _ test in
    let tests = and_right (paired_item r p (Nest n) is) _ test in
    let closes = and_right (r n) _ own in
    let rest = ct o most (suc room) is h.1.1 (and_right (besides p (of_item of (Nest n)).ends (next_heads is)) _ tests) more (follows_right q (when (of_items of is).empty []) _ more follows) chain in
    chain_apart q (tokens inner) (tokens ts) more
    (chain_row r p q rows inner ci o most room n h.1.0 (and_left _ _ own) (tokens ts ++ more)
    (nest_follows p q tells o most (suc room) n is ts more (and_left _ _ closes) (and_right (is_closed is) _ closes) h.1.1) rest)
branch_chain r p q tells rows all_ inner ts ci ct o most room m (Statement x) is h test more follows chain =
    let tests = and_right (r row.LINE) _ test in
    let rest = ct o most room is h.1.1 (and_right (besides p (of_item of (Statement x)).ends (next_heads is)) _ tests) more (follows_right q (when (of_items of is).empty (of_item of (Statement x)).ends) _ more follows) chain in
    chain_apart q (tokens inner) (tokens ts) more
    (chain_row r p q rows inner ci o most most m h.1.0 (all_ (and_left _ _ test) m) (tokens ts ++ more)
    (statement_follows q o x m (tokens ts ++ more) h.0 (item_follows p q tells (Statement x) is (tokens ts) more (next_led is ts o most room h.1.1 more) (and_left _ _ tests) follows)) rest)
branch_chain r p q tells rows all_ inner ts ci ct o most room m (Word c) is h test more follows chain = absurd h
branch_chain r p q tells rows all_ inner ts ci ct o most room m (Sign c code) is h test more follows chain = absurd h
branch_chain r p q tells rows all_ inner ts ci ct o most room m (Among a b code) is h test more follows chain = absurd h
branch_chain r p q tells rows all_ inner ts ci ct o most room m (ProgramWord c) is h test more follows chain = absurd h
branch_chain r p q tells rows all_ inner ts ci ct o most room m (Ignored c) is h test more follows chain = absurd h
branch_chain r p q tells rows all_ inner ts ci ct o most room m (ShortWord c) is h test more follows chain = absurd h
branch_chain r p q tells rows all_ inner ts ci ct o most room m Comma is h test more follows chain = absurd h
branch_chain r p q tells rows all_ inner ts ci ct o most room m LeftOut is h test more follows chain = absurd h
branch_chain r p q tells rows all_ inner ts ci ct o most room m End is h test more follows chain = absurd h
branch_chain r p q tells rows all_ inner ts ci ct o most room m (Typed k code) is h test more follows chain = absurd h

pub lookahead_last : (f : Lookahead) (t : Token) (ts : List Token) → is_ahead f (t ∷ ts) ≡ is_ahead f (t ∷ [])
lookahead_last Any t ts = refl
lookahead_last None t ts = refl
lookahead_last (Spanned a b) (Coded c) ts = refl
lookahead_last (Spanned a b) (Plain k w) ts = refl
lookahead_last (Spanned a b) (Lined x y) ts = refl
lookahead_last (Spanned a b) (Short c) ts = refl
lookahead_last (ShortOf c) (Coded d) ts = refl
lookahead_last (ShortOf c) (Short d) ts = refl
lookahead_last (ShortOf c) (Plain k w) ts = refl
lookahead_last (ShortOf c) (Lined x y) ts = refl
lookahead_last (Hand l) (Coded c) ts = refl
lookahead_last (Hand l) (Plain k w) ts = refl
lookahead_last (Hand l) (Lined x y) ts = refl
lookahead_last (Hand l) (Short c) ts = refl
lookahead_last Numbered (Coded c) ts = refl
lookahead_last Numbered (Plain k w) ts = refl
lookahead_last Numbered (Lined x y) ts = refl
lookahead_last Numbered (Short c) ts = refl

-- a token may be the last of its item
token_ends : (o : Origin) (i : Item) (t : Token) → fits_token o i t ≡ true → some (λ (f : Lookahead). is_ahead f (t ∷ [])) (of_item of i).ends ≡ true
token_ends o (Word c) t h = token_leads o (Word c) t [] h
token_ends o (Sign c code) t h = token_leads o (Sign c code) t [] h
token_ends o (Among a b code) t h = token_leads o (Among a b code) t [] h
token_ends o (ProgramWord c) t h = token_leads o (ProgramWord c) t [] h
token_ends o (Ignored c) t h = cc
token_ends o (ShortWord c) t h = token_leads o (ShortWord c) t [] h
token_ends o Comma t h = token_leads o Comma t [] h
token_ends o LeftOut t h = cc
token_ends o End t h = cc
token_ends o (Typed leaf.Text code) t h = token_leads o (Typed leaf.Text code) t [] h
token_ends o (Typed k code) t h = token_leads o (Typed k code) t [] h
token_ends o (Part n) t h = cc
token_ends o (Maybe s n) t h = cc
token_ends o (Either s n m) t h = cc
token_ends o (Many s n) t h = cc
token_ends o (Nest n) t h = cc
token_ends o (Statement p) t h = cc

put_chain : (r : Within) (p : Beside) (q : TwoTokens) → Tells p q → (t : Token) (ts : Trees) → Chained r p q ts → (o : Origin) (most room : ℕ) (is : List Item)
    → FitsPut o is t (λ (rest : List Item). Fits o most room rest ts) → paired r p is ≡ true → (more : List Token) → Follows q (of_items of is).ends more → Chain q more → Chain q (t ∷ (tokens ts ++ more))
put_chain r p q tells t ts ct o most room [] h test more follows chain = absurd h
put_chain r p q tells t ts ct o most room (i ∷ is) h test more follows chain =
    let tests = and_right (paired_item r p i is) _ test in (
      item_follows p q tells i is (tokens ts) more (next_led is ts o most room h.1 more) (and_left _ _ tests) follows t (token_ends o i t h.0),
      ct o most room is h.1 (and_right (besides p (of_item of i).ends (next_heads is)) _ tests) more (follows_right q (when (of_items of is).empty (of_item of i).ends) _ more follows) chain,
    )

in_chain : (r : Within) (p : Beside) (q : TwoTokens) → Tells p q → Rows r p → Everywhere r → (inner ts : Trees) → Chained r p q inner → Chained r p q ts
    → (o : Origin) (most room m : ℕ) (is : List Item)
    → FitsIn o most room is m (λ (deep : ℕ) (items : List Item). Fits o most deep items inner) (λ (rest : List Item). Fits o most room rest ts)
    → paired r p is ≡ true → (more : List Token) → Follows q (of_items of is).ends more → Chain q more → Chain q ((tokens inner ++ tokens ts) ++ more)
in_chain r p q tells rows all_ inner ts ci ct o most room m [] h test more follows chain = absurd h
in_chain r p q tells rows all_ inner ts ci ct o most room m (i ∷ is) h test more follows chain = branch_chain r p q tells rows all_ inner ts ci ct o most room m i is h test more follows chain

giving_paired : (r : Within) (p : Beside) (is : List Item) → paired r p is ≡ true → paired r p (giving is) ≡ true
giving_paired r p [] h = refl
giving_paired r p (Ignored c ∷ is) h = giving_paired r p is (and_right (besides p [] (next_heads is)) _ h)
giving_paired r p (End ∷ is) h = giving_paired r p is (and_right (besides p [] (next_heads is)) _ h)
giving_paired r p (i ∷ is) h = h

giving_follows : (q : TwoTokens) (is : List Item) (more : List Token) → Follows q (of_items of is).ends more → Follows q (of_items of (giving is)).ends more
giving_follows q [] more h = h
giving_follows q (Ignored c ∷ is) more h = giving_follows q is more (follows_right q (when (of_items of is).empty []) _ more h)
giving_follows q (End ∷ is) more h = giving_follows q is more (follows_right q (when (of_items of is).empty []) _ more h)
giving_follows q (i ∷ is) more h = h

-- the tokens of a tree that fits may stand side by side
pub chained : (r : Within) (p : Beside) (q : TwoTokens) → Tells p q → Rows r p → Everywhere r → (t : Trees) → Chained r p q t
chained r p q tells rows all_ Done o most room is fits test more follows chain = chain
chained r p q tells rows all_ (Put t ts) o most room is fits test more follows chain =
    put_chain r p q tells t ts (chained r p q tells rows all_ ts) o most room (giving is) fits (giving_paired r p is test) more (giving_follows q is more follows) chain
chained r p q tells rows all_ (In m inner ts) o most room is fits test more follows chain =
    in_chain r p q tells rows all_ inner ts (chained r p q tells rows all_ inner) (chained r p q tells rows all_ ts) o most room m (giving is) fits (giving_paired r p is test) more (giving_follows q is more follows) chain
