-- Each tree that fits is read from each text that spells its tokens, where the choices hold.
use Rattle.std.proofs.Common.{◌≡◌, ℕ, zero, suc, ◌+◌, ◌<◌, ◌≤◌, ◌==◌, ◌||◌, not, Bool, true, false, if◌then◌else◌, List, [], ◌∷◌, ◌++◌, length, refl, sym, ap, subst, ◌∙◌, arith, inl, inr, Result}
use Rattle.std.proofs.lemmas.Bool.Decides.{nat_tests}
use Rattle.b2_base.specs.Lexical.{skip_blanks}
use Rattle.b2_atom.specs.Words.{Text, skipped}
use Rattle.b2_atom.specs.Tokens.{Token}
use Rattle.b2_atom.specs.Tokens.Token.{Coded, Short, Plain, Lined}
use Rattle.b2_atom.specs.Tree.{Trees, tokens, under, and_then}
use Rattle.b2_atom.specs.Tree.Trees.{Done, Put, In}
use Rattle.b2_atom.specs.Grammar.{reader, items, item, level, deep, statement_within, many, row_items, chosen}
use Rattle.b2_atom.specs.Spelling.{Spells, here}
use Rattle.b2_atom.specs.Fitting.{Fits, FitsPut, FitsIn, FitsBranch, giving, is_statement, RemarksEnd}
use Rattle.b2_atom.specs.Table.{forms}
use Rattle.b2_atom.specs.declared.words.Origin.{Origin}
use Rattle.b2_atom.specs.declared.words.Origin.TheVariants as origin
use Rattle.b2_atom.specs.declared.forms.Leaf.TheVariants as leaf
use Rattle.b2_atom.specs.declared.forms.Position.{Position}
use Rattle.b2_atom.specs.declared.forms.Item.{Item}
use Rattle.b2_atom.specs.declared.forms.Item.TheVariants.{Word, Sign, Among, ProgramWord, Ignored, ShortWord, Comma, LeftOut, End, Typed, Part, Maybe, Either, Many, Nest, Statement}
use Rattle.b2_atom.specs.declared.output.Stop.{Stop}
use Rattle.b2_atom.proofs.Booleans.{either_way, and_left, and_right, not_true}
use Rattle.b2_atom.proofs.settled.Lookaheads.{some, Lookahead, is_ahead, Known, of_item, of_items, of, refuse, settled_item, is_free_row, leading, is_last, covered, statement_heads}
use Rattle.b2_atom.proofs.settled.Lookaheads.Lookahead.{None, Spanned}
use Rattle.b2_atom.proofs.settled.Computed.{statement_good}
use Rattle.b2_atom.proofs.settled.Heads.{known, Refused, refused_lookaheads, is_closing, leads, fills}
use Rattle.b2_atom.proofs.reading.Complete.{Runs, runs_under, runs_is, reads_row, lead, Ready, next_runs, length_append, ready_in, ready_put, by_giving, done_runs, put_runs, bound_row}
use Rattle.b2_atom.proofs.reading.Branches.{Chooses, Good, GoodMany, reads_part, inner_spelled, inner_remarks, branch_behind, row_rank, done_of, part_runs, maybe_runs, maybe_left, first_runs, second_runs, nest_runs, many_left, many_more, free_runs}

closing_lookaheads : (more : List Token) → is_closing more ≡ true → some (λ (f : Lookahead). is_ahead f more) (None ∷ Spanned 58 58 ∷ []) ≡ true
closing_lookaheads [] h = refl
closing_lookaheads (Coded c ∷ ts) h = grind (arith, nat_tests)
closing_lookaheads (Plain k w ∷ ts) h = cc
closing_lookaheads (Lined x y ∷ ts) h = cc
closing_lookaheads (Short c ∷ ts) h = cc

lead_one : (is : List Item) → leading is ≡ true → lead is ≡ 1
lead_one [] h = cc
lead_one (i ∷ is) h = ap (λ (b : Bool). if b then 1 else 0) h

or_false_left : (a b : Bool) → (a || b) ≡ true → a ≡ false → b ≡ true
or_false_left true b h k = cc
or_false_left false b h k = h

enough_lead : (n f l : ℕ) → n ≤ suc f → l ≡ 1 → n ≤ l + f
enough_lead n f l h k = omega (arith, h, k)

-- a statement's row, which needs no fuel where no statement stands in it
pub statement_row_runs : (inner : Trees) → Good inner → (o : Origin) → Chooses o → (most f : ℕ) (p : Position) (m : ℕ) (more : List Token) (u : Text) → is_statement forms o p m ≡ true
    → Fits o most most (row_items m) inner → is_closing more ≡ true → RemarksEnd (tokens inner ++ more) → ((of m).plain ≡ false → length (tokens inner) ≤ suc f) → Spells o (tokens inner ++ more) u
    → Runs o (reads_part o most most 40 f m u) inner more
unfolding level
statement_row_runs inner good o chooses most f p m more u stated fits closed remarks_ less spelled =
    let test = statement_good o p m stated in
    let rest = and_right (covered statement_heads (of m).heads) _ (and_right (not (of m).empty) _ test) in
    let free_or = and_left _ _ (and_right ((of m).plain || leading (row_items m)) _ rest) in
    elim (either_way (is_free_row (row_items m))) [
      | inl g ↦ free_runs o most most 39 f (row_items m) inner more u g fits remarks_ closed spelled
      | inr g ↦ good o chooses most most 39 f (row_items m) fits more
          (record {
            settles = bound_row m (ap not g);
            ranked = (let P : Known → Type 0 = λ k. suc k.rank ≤ 40 in let e : suc (of_items of (row_items m)).rank ≤ 40 = subst P (sym (known m)) (row_rank m) in omega (arith, e));
            enough = λ h. let followed : (of m).plain ≡ false = ap (λ (k : Known). k.plain) (sym (known m)) ∙ h in
                enough_lead (length (tokens inner)) f (lead (row_items m)) (less followed)
                (lead_one (row_items m) (or_false_left (of m).plain (leading (row_items m)) (and_left _ _ rest) followed));
            refuses = (let P : Known → Type 0 = λ k. Refused o k.tails more in
                subst P (sym (known m)) (refused_lookaheads o (of m).tails (None ∷ Spanned 58 58 ∷ []) more (or_false_left (is_free_row (row_items m)) _ free_or g) (closing_lookaheads more closed)));
            remarks = remarks_;
          }) u spelled
    ]

no_statement_fuel : (a b n : ℕ) → n ≡ a + b → 0 < a → n ≤ 0 + 0 → ⊥
no_statement_fuel a b n is h k = omega (arith, is, h, k)

statement_fuel : (a b n f : ℕ) → n ≡ a + b → n ≤ 0 + suc f → a ≤ suc f
statement_fuel a b n f is h = omega (arith, is, h)

-- a statement
statement_runs : (inner ts : Trees) → Good inner → Good ts → (o : Origin) → Chooses o → (most room l f : ℕ) (p : Position) (m : ℕ) (is : List Item) → is_statement forms o p m ≡ true
    → Fits o most most (row_items m) inner → Fits o most room is ts → (more : List Token) → Ready o most room l f (Statement p ∷ is) (In m inner ts) more → (s : Text)
    → Spells o ((tokens inner ++ tokens ts) ++ more) s → Runs o (reads_row o most room l f (Statement p ∷ is) s) (In m inner ts) more
unfolding item statement_within
statement_runs inner ts gi gt o chooses most room l zero p m is stated fi ft more r s spelled =
    absurd (no_statement_fuel (length (tokens inner)) (length (tokens ts)) (length (tokens inner ++ tokens ts)) (length_append (tokens inner) (tokens ts))
    (fills inner o most most (row_items m) fi (ap (λ (k : Known). k.empty) (known m) ∙ not_true _ (and_left _ _ (statement_good o p m stated)))) (r.enough refl))
statement_runs inner ts gi gt o chooses most room l (suc f) p m is stated fi ft more r s spelled =
    let tests = and_right (settled_item of (Statement p) is) _ r.settles in
    let behind_ = branch_behind o most room l (suc f) m (Statement p) is inner ts more ft (and_left _ _ tests) r in
    let one = chooses.one_statement p most m inner (tokens ts ++ more) s stated fi behind_.0 (inner_spelled o inner ts more s spelled) in
    next_runs o most room l (suc f) (Statement p) is (In m inner Done) ts (tokens ts ++ more) more s
    (runs_is o _ (under m (reads_part o most most 40 f m one.0)) (In m inner Done) (tokens ts ++ more)
    (ap (λ (w : Result (ℕ × Text) Stop). chosen w (level (reader o) (statement_within most (reader o) f) (deep (reader o) (statement_within most (reader o) f) most) 40)) one.1.0)
    (runs_under o m (reads_part o most most 40 f m one.0) inner (tokens ts ++ more)
    (statement_row_runs inner gi o chooses most f p m (tokens ts ++ more) one.0 stated fi behind_.0 (inner_remarks inner ts more r.remarks)
    (λ h. statement_fuel (length (tokens inner)) (length (tokens ts)) (length (tokens inner ++ tokens ts)) f (length_append (tokens inner) (tokens ts)) (r.enough refl)) one.1.1)))
    (λ u spelled_. gt o chooses most room l (suc f) is ft more (ready_in o most room l (suc f) m (Statement p) is inner ts more refl (and_right (refuse (of_item of (Statement p)).tails (of_items of is).heads) _ tests) r) u spelled_)

-- no fewer bytes than tokens
skip_one : (b : Bool) (c : ℕ) (bs : Text) → length (skip_blanks bs) ≤ length bs → length (if b then skip_blanks bs else c ∷ bs) ≤ suc (length bs)
skip_one true c bs h = omega (arith, h)
skip_one false c bs h = omega arith

skip_less : (s : Text) → length (skip_blanks s) ≤ length s
skip_less [] = omega arith
skip_less (b ∷ bs) = skip_one (b == 32) b bs (skip_less bs)

skipped_less : (o : Origin) (s : Text) → length (skipped o s) ≤ length s
skipped_less origin.Program s = skip_less s
skipped_less origin.Immediate s = skip_less s
skipped_less origin.Atoms s = omega arith

here_less : (o : Origin) (t : Token) (s : Text) → length (here o t s) ≤ length s
here_less o (Plain leaf.Text w) s = omega arith
here_less o t s = skipped_less o s

count_step : (a b c d : ℕ) → a < b → b ≤ c → d ≤ a → suc d ≤ c
count_step a b c d h k l = omega (arith, h, k, l)

pub count : (o : Origin) (ts : List Token) (s : Text) → Spells o ts s → length ts ≤ length s
count o [] s h = omega arith
count o (t ∷ ts) s h = count_step (length h.0) (length (here o t s)) (length s) (length ts) h.1.0.shorter (here_less o t s) (count o ts h.0 h.1.1)

many_fuel : (xs more : List Token) (s : Text) → length (xs ++ more) ≤ length s → length xs ≤ length s
many_fuel xs more s h = let n = length_append xs more in omega (arith, h, n)

two : (m : ℕ) (inner ts : Trees) (P : Trees → Type 0) → m ≡ 2 → P (In 2 inner ts) → P (In m inner ts)
two m inner ts P h p = subst P (ap (λ (n : ℕ). In n inner ts) (sym h)) p

-- by what the item is
branch_runs : (inner ts : Trees) → Good inner → Good ts → GoodMany (In 0 inner ts) → GoodMany (In 1 inner ts) → (o : Origin) → Chooses o → (most room l f m : ℕ) (i : Item) (is : List Item)
    → FitsBranch o most room i is m (λ (deep_ : ℕ) (items_ : List Item). Fits o most deep_ items_ inner) (λ (rest : List Item). Fits o most room rest ts)
    → (more : List Token) → Ready o most room l f (i ∷ is) (In m inner ts) more → (s : Text) → Spells o ((tokens inner ++ tokens ts) ++ more) s
    → Runs o (reads_row o most room l f (i ∷ is) s) (In m inner ts) more
unfolding items item
branch_runs inner ts gi gt m0 m1 o ch most room l f m (Part n) is h more r s spelled =
    two m inner ts (λ (t : Trees). Ready o most room l f (Part n ∷ is) t more → Runs o (reads_row o most room l f (Part n ∷ is) s) t more) h.0
    (λ r_. part_runs inner ts gi gt o ch most room l f n is h.1.0 h.1.1 more r_ s spelled) r
branch_runs inner ts gi gt m0 m1 o ch most room l f zero (Maybe x n) is h more r s spelled =
    let P : Trees → Type 0 = λ t. Ready o most room l f (Maybe x n ∷ is) (In 0 t ts) more → Spells o ((tokens t ++ tokens ts) ++ more) s → Runs o (reads_row o most room l f (Maybe x n ∷ is) s) (In 0 t ts) more in
    subst P (sym (done_of o most room inner h.0)) (λ r_ spelled_. maybe_left ts gt o ch most room l f x n is h.1 more r_ s spelled_) r spelled
branch_runs inner ts gi gt m0 m1 o ch most room l f (suc zero) (Maybe x n) is h more r s spelled = maybe_runs inner ts gi gt o ch most room l f x n is h.0 h.1 more r s spelled
branch_runs inner ts gi gt m0 m1 o ch most room l f (suc (suc m)) (Maybe x n) is h more r s spelled = absurd h
branch_runs inner ts gi gt m0 m1 o ch most room l f zero (Either x n k) is h more r s spelled = second_runs inner ts gi gt o ch most room l f x n k is h.0 h.1 more r s spelled
branch_runs inner ts gi gt m0 m1 o ch most room l f (suc zero) (Either x n k) is h more r s spelled = first_runs inner ts gi gt o ch most room l f x n k is h.0 h.1 more r s spelled
branch_runs inner ts gi gt m0 m1 o ch most room l f (suc (suc m)) (Either x n k) is h more r s spelled = absurd h
branch_runs inner ts gi gt m0 m1 o ch most room l f zero (Many x n) is h more r s spelled =
    m0 o ch most room l f x n is h more r (length s) (many_fuel (tokens inner ++ tokens ts) more s (count o _ s spelled)) s spelled
branch_runs inner ts gi gt m0 m1 o ch most room l f (suc zero) (Many x n) is h more r s spelled =
    m1 o ch most room l f x n is h more r (length s) (many_fuel (tokens inner ++ tokens ts) more s (count o _ s spelled)) s spelled
branch_runs inner ts gi gt m0 m1 o ch most room l f (suc (suc m)) (Many x n) is h more r s spelled = absurd h
branch_runs inner ts gi gt m0 m1 o ch most zero l f m (Nest n) is h more r s spelled = absurd h
branch_runs inner ts gi gt m0 m1 o ch most (suc room) l f m (Nest n) is h more r s spelled =
    two m inner ts (λ (t : Trees). Ready o most (suc room) l f (Nest n ∷ is) t more → Runs o (reads_row o most (suc room) l f (Nest n ∷ is) s) t more) h.0
    (λ r_. nest_runs inner ts gi gt o ch most room l f n is h.1.0 h.1.1 more r_ s spelled) r
branch_runs inner ts gi gt m0 m1 o ch most room l f m (Statement p) is h more r s spelled = statement_runs inner ts gi gt o ch most room l f p m is h.0 h.1.0 h.1.1 more r s spelled
branch_runs inner ts gi gt m0 m1 o ch most room l f m (Word c) is h more r s spelled = absurd h
branch_runs inner ts gi gt m0 m1 o ch most room l f m (Sign c code) is h more r s spelled = absurd h
branch_runs inner ts gi gt m0 m1 o ch most room l f m (Among a b code) is h more r s spelled = absurd h
branch_runs inner ts gi gt m0 m1 o ch most room l f m (ProgramWord c) is h more r s spelled = absurd h
branch_runs inner ts gi gt m0 m1 o ch most room l f m (Ignored c) is h more r s spelled = absurd h
branch_runs inner ts gi gt m0 m1 o ch most room l f m (ShortWord c) is h more r s spelled = absurd h
branch_runs inner ts gi gt m0 m1 o ch most room l f m Comma is h more r s spelled = absurd h
branch_runs inner ts gi gt m0 m1 o ch most room l f m LeftOut is h more r s spelled = absurd h
branch_runs inner ts gi gt m0 m1 o ch most room l f m End is h more r s spelled = absurd h
branch_runs inner ts gi gt m0 m1 o ch most room l f m (Typed k code) is h more r s spelled = absurd h

many_zero : (inner ts : Trees) → Good ts → GoodMany (In 0 inner ts)
many_zero inner ts gt o ch most room l f x n is fits more r k fuel s spelled =
    let P : Trees → Type 0 = λ t. Ready o most room l f (Many x n ∷ is) (In 0 t ts) more → Spells o ((tokens t ++ tokens ts) ++ more) s
    → Runs o (and_then (many (reader o) x (reads_part o most room l f n) k s) (reads_row o most room l f is)) (In 0 t ts) more in
    subst P (sym (done_of o most room inner fits.0)) (λ r_ spelled_. many_left ts gt o ch most room l f x n is fits.1 more r_ k s spelled_) r spelled

many_one : (inner ts : Trees) → Good inner → GoodMany ts → GoodMany (In 1 inner ts)
many_one inner ts gi gm o ch most room l f x n is fits more r k fuel s spelled = many_more inner ts gi gm o ch most room l f x n is fits.0 fits.1 more r k fuel s spelled

many_none : (m : ℕ) (inner ts : Trees) → GoodMany (In (suc (suc m)) inner ts)
many_none m inner ts o ch most room l f x n is fits more r k fuel s spelled = absurd fits

many_in : (m : ℕ) (inner ts : Trees) → Good inner → Good ts → GoodMany ts → GoodMany (In m inner ts)
many_in zero inner ts gi gt gm = many_zero inner ts gt
many_in (suc zero) inner ts gi gt gm = many_one inner ts gi gm
many_in (suc (suc m)) inner ts gi gt gm = many_none m inner ts

in_runs : (inner ts : Trees) → Good inner → Good ts → GoodMany ts → (o : Origin) → Chooses o → (most room l f m : ℕ) (is : List Item)
    → FitsIn o most room is m (λ (deep_ : ℕ) (items_ : List Item). Fits o most deep_ items_ inner) (λ (rest : List Item). Fits o most room rest ts)
    → (more : List Token) → Ready o most room l f is (In m inner ts) more → (s : Text) → Spells o ((tokens inner ++ tokens ts) ++ more) s → Runs o (reads_row o most room l f is s) (In m inner ts) more
in_runs inner ts gi gt gm o ch most room l f m [] h more r s spelled = absurd h
in_runs inner ts gi gt gm o ch most room l f m (i ∷ is) h more r s spelled =
    branch_runs inner ts gi gt (many_zero inner ts gt) (many_one inner ts gi gm) o ch most room l f m i is h more r s spelled

put_items : (t : Token) (ts : Trees) → Good ts → (o : Origin) → Chooses o → (most room l f : ℕ) (is : List Item) → FitsPut o is t (λ (rest : List Item). Fits o most room rest ts)
    → (more : List Token) → Ready o most room l f is (Put t ts) more → (s : Text) → Spells o (t ∷ (tokens ts ++ more)) s → Runs o (reads_row o most room l f is s) (Put t ts) more
put_items t ts gt o ch most room l f [] h more r s spelled = absurd h
put_items t ts gt o ch most room l f (i ∷ is) h more r s spelled =
    let tests = and_right (refuse (of_item of i).tails (of_items of is).heads) _ (and_right (settled_item of i is) _ r.settles) in
    next_runs o most room l f i is (Put t Done) ts (tokens ts ++ more) more s (put_runs o most room l f i t (tokens ts ++ more) s h.0 spelled)
    (λ u spelled_. gt o ch most room l f is h.1 more (ready_put o most room l f i is t ts more tests r) u spelled_)

put_some : (o : Origin) (is : List Item) (t : Token) (below : List Item → Type 0) → FitsPut o is t below → is_last is ≡ false
put_some o [] t below h = absurd h
put_some o (i ∷ is) t below h = refl

in_some : (o : Origin) (most room m : ℕ) (is : List Item) (below : ℕ → List Item → Type 0) (behind_ : List Item → Type 0) → FitsIn o most room is m below behind_ → is_last is ≡ false
in_some o most room m [] below behind_ h = absurd h
in_some o most room m (i ∷ is) below behind_ h = refl

good_done : Good Done
good_done o ch most room l f is fits more r s spelled = done_runs o most room l f is more fits r.settles r.refuses s spelled

giving_twice : (is : List Item) → giving (giving is) ≡ giving is
giving_twice [] = refl
giving_twice (Ignored c ∷ is) = giving_twice is
giving_twice (End ∷ is) = giving_twice is
giving_twice (i ∷ is) = refl

good_put : (t : Token) (ts : Trees) → Good ts → Good (Put t ts)
good_put t ts gt o ch most room l f is fits more r s spelled =
    by_giving o most room l f is (Put t ts) more
    (let P : List Item → Type 0 = λ js. FitsPut o js t (λ (rest : List Item). Fits o most room rest ts) in leads (Put t ts) o most room (giving is) (subst P (sym (giving_twice is)) fits) more)
    (put_some o (giving is) t (λ (rest : List Item). Fits o most room rest ts) fits)
    (λ r_ u spelled_. put_items t ts gt o ch most room l f (giving is) fits more r_ u spelled_) r s spelled

good_in : (m : ℕ) (inner ts : Trees) → Good inner → Good ts → GoodMany ts → Good (In m inner ts)
good_in m inner ts gi gt gm o ch most room l f is fits more r s spelled =
    by_giving o most room l f is (In m inner ts) more
    (let P : List Item → Type 0 = λ js. FitsIn o most room js m (λ (deep_ : ℕ) (items_ : List Item). Fits o most deep_ items_ inner) (λ (rest : List Item). Fits o most room rest ts) in
    leads (In m inner ts) o most room (giving is) (subst P (sym (giving_twice is)) fits) more)
    (in_some o most room m (giving is) (λ (deep_ : ℕ) (items_ : List Item). Fits o most deep_ items_ inner) (λ (rest : List Item). Fits o most room rest ts) fits)
    (λ r_ u spelled_. in_runs inner ts gi gt gm o ch most room l f m (giving is) fits more r_ u spelled_) r s spelled

many_done : GoodMany Done
many_done o ch most room l f x n is fits more r k fuel s spelled = cc

many_put : (t : Token) (ts : Trees) → GoodMany (Put t ts)
many_put t ts o ch most room l f x n is fits more r k fuel s spelled = cc

all_good : (t : Trees) → Good t × GoodMany t
all_good Done = (good_done, many_done)
all_good (Put t ts) = (good_put t ts (all_good ts).0, many_put t ts)
all_good (In m inner ts) =
    (good_in m inner ts (all_good inner).0 (all_good ts).0 (all_good ts).1, many_in m inner ts (all_good inner).0 (all_good ts).0 (all_good ts).1)

-- each tree that fits is read back
pub read_back : (t : Trees) → Good t
read_back t = (all_good t).0
