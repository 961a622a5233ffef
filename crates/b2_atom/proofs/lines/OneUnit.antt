-- A unit is read as one statement, where it stands and by itself: what follows its THEN, ELSE or ERROR isn't read.
use Rattle.std.proofs.Common.{◌≡◌, ℕ, zero, suc, ◌≤◌, ◌==◌, ◌||◌, ◌&&◌, not, nat_le, nat_lt, Bool, true, false, List, [], ◌∷◌, ◌++◌, refl, sym, ap, subst, ◌∙◌, arith, append_assoc, append-nil, inl, inr, ◌⊎◌, Result, Ok, Err}
use Rattle.std.proofs.lemmas.Bool.Decides.{nat_tests}
use Rattle.std.proofs.lemmas.List.{append_cancel_left}
use Rattle.b2_atom.specs.Words.{Text}
use Rattle.b2_atom.specs.Tokens.{Token}
use Rattle.b2_atom.specs.Tokens.Token.{Coded, Short, Plain, Lined}
use Rattle.b2_atom.specs.Tree.{Trees, tokens, atoms, Outcome, Parser, nothing, preceded, and_then, under, also}
use Rattle.b2_atom.specs.Tree.Trees.{Done, Put, In}
use Rattle.b2_atom.specs.Grammar.{reader, items, item, level, deep, statement, statement_within, row_items, starts, chosen}
use Rattle.b2_atom.specs.Spelling.{Spells, AllGood, Neighbours, atoms_of_tokens}
use Rattle.b2_atom.specs.Fitting.{Fits, is_statement, is_rest, RemarksEnd}
use Rattle.b2_atom.specs.Units.{TreeUnit, own, units_in}
use Rattle.b2_atom.specs.Table.{forms}
use Rattle.b2_atom.specs.declared.words.TheConstants as word
use Rattle.b2_atom.specs.declared.rows.TheConstants as row
use Rattle.b2_atom.specs.declared.words.Origin.TheVariants.{Atoms}
use Rattle.b2_atom.specs.declared.forms.Start.TheVariants as start
use Rattle.b2_atom.specs.declared.forms.Position.{Position}
use Rattle.b2_atom.specs.declared.forms.Position.TheVariants as position
use Rattle.b2_atom.specs.declared.forms.Item.{Item}
use Rattle.b2_atom.specs.declared.forms.Item.TheVariants.{Word, Part, Either, Statement}
use Rattle.b2_atom.specs.declared.output.Stop.{Stop}
use Rattle.b2_atom.proofs.Booleans.{and_left, and_right, never, or_cases, equal}
use Rattle.b2_atom.proofs.settled.Lookaheads.{every, some, Lookahead, is_ahead, surely, Tail, of_items, of_row, of, settled, symbol_choice, is_free_row, statement_heads, every_statement}
use Rattle.b2_atom.proofs.settled.Computed.{one_of_statements}
use Rattle.b2_atom.proofs.settled.Heads.{Refused, is_closing, leads}
use Rattle.b2_atom.proofs.reading.Fitted.{tokens_also}
use Rattle.b2_atom.proofs.reading.FittedLines.{following_is, error_is, else_is, if_is as if_row_is}
use Rattle.b2_atom.proofs.settled.LookaheadAnswers.{answers}
use Rattle.b2_atom.proofs.reading.Complete.{Runs, runs_then, runs_under, runs_is, if_is, reads_row, reads_item, next_runs, remarks_right}
use Rattle.b2_atom.proofs.reading.Branches.{reads_part, row_runs, row_lookaheads, then_then}
use Rattle.b2_atom.proofs.reading.ReadBack.{read_back, statement_row_runs}
use Rattle.b2_atom.proofs.settled.Choice.{one_statement, led_by_symbol, Stands, opens_statement}
use Rattle.b2_atom.proofs.spelling.SideBySide.{later}
use Rattle.b2_atom.proofs.spelling.SpellsAtoms.{spells_atoms}
use Rattle.b2_atom.proofs.reading.Sound.{Takes, takes_statement}
use Rattle.b2_atom.proofs.lines.Own.{all_own, whole, whole_row}
use Rattle.b2_atom.proofs.lines.LineLaws.{chooses, append_atoms, tree_atoms}

-- tokens that may stand in a line
pub record Stand (ts : List Token) : Type 0 where
  pub good : AllGood ts
  pub neighbours : Neighbours ts
  pub remarks : RemarksEnd ts

good_front : (xs ys : List Token) → AllGood (xs ++ ys) → AllGood xs
good_front [] ys h = tt
good_front (x ∷ xs) ys h = (h.0, good_front xs ys h.1)

good_behind : (xs ys : List Token) → AllGood (xs ++ ys) → AllGood ys
good_behind [] ys h = h
good_behind (x ∷ xs) ys h = good_behind xs ys h.1

neighbours_front : (xs ys : List Token) → Neighbours (xs ++ ys) → Neighbours xs
neighbours_front [] ys h = tt
neighbours_front (x ∷ []) ys h = tt
neighbours_front (x ∷ y ∷ xs) ys h = (h.0, neighbours_front (y ∷ xs) ys h.1)

neighbours_behind : (xs ys : List Token) → Neighbours (xs ++ ys) → Neighbours ys
neighbours_behind [] ys h = h
neighbours_behind (x ∷ xs) ys h = neighbours_behind xs ys (later x (xs ++ ys) h)

rest_front : (xs ys : List Token) → is_rest (xs ++ ys) ≡ true → is_rest xs ≡ true
rest_front [] ys h = refl
rest_front (x ∷ []) [] h = h
rest_front (x ∷ []) (y ∷ ys) h = cc
rest_front (x ∷ y ∷ xs) ys h = cc

remarks_front : (xs ys : List Token) → RemarksEnd (xs ++ ys) → RemarksEnd xs
remarks_front [] ys h = tt
remarks_front (x ∷ xs) ys h = ((λ k. rest_front xs ys (h.0 k)), remarks_front xs ys h.1)

pub stand_front : (xs ys : List Token) → Stand (xs ++ ys) → Stand xs
stand_front xs ys h = record { good = good_front xs ys h.good; neighbours = neighbours_front xs ys h.neighbours; remarks = remarks_front xs ys h.remarks }

pub stand_behind : (xs ys : List Token) → Stand (xs ++ ys) → Stand ys
stand_behind xs ys h = record { good = good_behind xs ys h.good; neighbours = neighbours_behind xs ys h.neighbours; remarks = remarks_right xs ys h.remarks }

stand_alone : (xs ys : List Token) → Stand (xs ++ ys) → Stand (xs ++ [])
stand_alone xs ys h = subst (λ (l : List Token). Stand l) (sym (append-nil xs)) (stand_front xs ys h)

spelled : (ts : List Token) → Stand ts → Spells Atoms ts (atoms_of_tokens ts)
spelled ts h = spells_atoms ts h.good h.neighbours

-- tokens of a unit before others: it is read as a statement where it stands, and by itself
pub record UnitRead (p : Position) (m : ℕ) (t : Trees) (xs more : List Token) : Type 0 where
  pub here : statement (reader Atoms) 1 p (atoms_of_tokens (xs ++ more)) ≡ Ok (In m t Done, atoms_of_tokens more)
  pub alone : statement (reader Atoms) 1 p (atoms_of_tokens xs) ≡ Ok (In m t Done, [])

-- a statement that is read before tokens
abbrev ReadsUnit : Position → ℕ → Trees → List Token → List Token → Type 0
ReadsUnit p m t xs more = Runs Atoms (statement (reader Atoms) 1 p (atoms_of_tokens (xs ++ more))) (In m t Done) more

exact : (p : Position) (m : ℕ) (t : Trees) (xs more : List Token) → tokens t ≡ xs → ReadsUnit p m t xs more
    → statement (reader Atoms) 1 p (atoms_of_tokens (xs ++ more)) ≡ Ok (In m t Done, atoms_of_tokens more)
exact p m t xs more same h =
    let s : Text = atoms_of_tokens (xs ++ more) in
    let takes : (atoms t ++ []) ++ h.0 ≡ s = subst (λ (o : Outcome). Takes s o) h.1.0 (takes_statement 1 p s) in
    let front : atoms t ++ [] ≡ atoms_of_tokens xs = append-nil (atoms t) ∙ sym (tree_atoms t) ∙ ap atoms_of_tokens same in
    let rest : h.0 ≡ atoms_of_tokens more =
    append_cancel_left (atoms_of_tokens xs) h.0 (atoms_of_tokens more) (ap (λ (l : Text). l ++ h.0) (sym front) ∙ takes ∙ append_atoms xs more) in
    h.1.0 ∙ ap (λ (r : Text). Ok (In m t Done, r)) rest

unit_read : (p : Position) (m : ℕ) (t : Trees) (xs more : List Token) → tokens t ≡ xs → ReadsUnit p m t xs more → ReadsUnit p m t xs [] → UnitRead p m t xs more
unit_read p m t xs more same h k = record {
  here = exact p m t xs more same h;
  alone = ap (λ (l : List Token). statement (reader Atoms) 1 p (atoms_of_tokens l)) (sym (append-nil xs)) ∙ exact p m t xs [] same k;
}

-- what a statement's row reads is the statement's
chosen_runs : (p : Position) (m : ℕ) (t : Trees) (ts more : List Token) (s : Text) → (one : Stands Atoms p m ts s) → Runs Atoms (reads_part Atoms 32 32 40 0 m one.0) t more
    → Runs Atoms (statement (reader Atoms) 1 p s) (In m t Done) more
unfolding statement_within
chosen_runs p m t ts more s one h =
    runs_is Atoms _ (under m (reads_part Atoms 32 32 40 0 m one.0)) (In m t Done) more
    (ap (λ (w : Result (ℕ × Text) Stop). chosen w (level (reader Atoms) (statement (reader Atoms) 0) (deep (reader Atoms) (statement (reader Atoms) 0) 32) 40)) one.1.0)
    (runs_under Atoms m (reads_part Atoms 32 32 40 0 m one.0) t more h)

-- a row in which no statement stands
plain_runs : (p : Position) (m : ℕ) (inner : Trees) (more : List Token) → is_statement forms Atoms p m ≡ true → (of m).plain ≡ true → Fits Atoms 32 32 (row_items m) inner
    → is_closing more ≡ true → Stand (tokens inner ++ more) → ReadsUnit p m inner (tokens inner) more
plain_runs p m inner more stated plain fits closed st =
    let s : Text = atoms_of_tokens (tokens inner ++ more) in
    let one = one_statement Atoms p 32 m inner more s stated fits closed (spelled (tokens inner ++ more) st) in
    chosen_runs p m inner (tokens inner ++ more) more s one
    (statement_row_runs inner (read_back inner) Atoms (chooses Atoms) 32 0 p m more one.0 stated fits closed st.remarks (λ h. never (of m).plain plain h) one.1.1)

plain_unit : (p : Position) (m : ℕ) (inner : Trees) (more : List Token) → is_statement forms Atoms p m ≡ true → (of m).plain ≡ true → Fits Atoms 32 32 (row_items m) inner
    → is_closing more ≡ true → Stand (tokens inner ++ more) → UnitRead p m inner (tokens inner) more
plain_unit p m inner more stated plain fits closed st =
    unit_read p m inner (tokens inner) more refl (plain_runs p m inner more stated plain fits closed st)
    (plain_runs p m inner [] stated plain fits refl (stand_alone (tokens inner) more st))

-- a row whose last item may be a statement: a word, and what stands between
record Followed (m c : ℕ) (front : List Item) (last : Item) : Type 0 where
  is : row_items m ≡ (Word c ∷ front) ++ last ∷ []
  settles : settled of (Word c ∷ front) ≡ true
  plain : (of_items of (Word c ∷ front)).plain ≡ true
  tails : (of_items of (Word c ∷ front)).tails ≡ []
  ranked : nat_le (of_items of (Word c ∷ front)).rank 39 ≡ true
  chosen : symbol_choice m (Word c ∷ front) ≡ true

rank_le : (n : ℕ) → nat_le n 39 ≡ true → n ≤ 39
rank_le n h = grind (arith, nat_tests)

front_runs : (m c : ℕ) (front : List Item) (last : Item) → Followed m c front last → (a : Trees) (mid : List Token) (u : Text) → Fits Atoms 32 32 (Word c ∷ front) a
    → RemarksEnd (tokens a ++ mid) → Spells Atoms (tokens a ++ mid) u → Runs Atoms (reads_row Atoms 32 32 39 0 (Word c ∷ front) u) a mid
front_runs m c front last f a mid u fits remarks_ spelled_ =
    read_back a Atoms (chooses Atoms) 32 32 39 0 (Word c ∷ front) fits mid
    (record {
      settles = f.settles;
      ranked = rank_le _ f.ranked;
      enough = λ h. never _ f.plain h;
      refuses = subst (λ (ts : List Tail). Refused Atoms ts mid) (sym f.tails) tt;
      remarks = remarks_;
    }) u spelled_

joined_done : (o : Outcome) → preceded Done o ≡ o
joined_done (Ok p) = refl
joined_done (Err e) = refl

items_append : (st : Position → Parser Text) (d p : ℕ → Parser Text) (is js : List Item) (s : Text)
    → items st d p (reader Atoms) (is ++ js) s ≡ and_then (items st d p (reader Atoms) is s) (items st d p (reader Atoms) js)
unfolding items
items_append st d p [] js s = sym (joined_done (items st d p (reader Atoms) js s))
items_append st d p (i ∷ is) js s =
    (λ x. and_then (item st d p (reader Atoms) i s) (λ (u : Text). items_append st d p is js u x))
    ∙ sym (then_then (item st d p (reader Atoms) i s) (items st d p (reader Atoms) is) (items st d p (reader Atoms) js))

followed_runs : (m c : ℕ) (front : List Item) (last : Item) → Followed m c front last → (a b : Trees) (mid more : List Token) (u : Text) → Fits Atoms 32 32 (Word c ∷ front) a
    → RemarksEnd (tokens a ++ mid) → Spells Atoms (tokens a ++ mid) u → ((v : Text) → Spells Atoms mid v → Runs Atoms (reads_row Atoms 32 32 39 0 (last ∷ []) v) b more)
    → Runs Atoms (reads_part Atoms 32 32 40 0 m u) (also a b) more
unfolding level
followed_runs m c front last f a b mid more u fits remarks_ spelled_ behind_ =
    runs_is Atoms _ (and_then (reads_row Atoms 32 32 39 0 (Word c ∷ front) u) (reads_row Atoms 32 32 39 0 (last ∷ []))) (also a b) more
    (ap (λ (is : List Item). reads_row Atoms 32 32 39 0 is u) f.is ∙ items_append _ _ _ (Word c ∷ front) (last ∷ []) u)
    (runs_then Atoms (reads_row Atoms 32 32 39 0 (Word c ∷ front) u) (reads_row Atoms 32 32 39 0 (last ∷ [])) a b mid more (front_runs m c front last f a mid u fits remarks_ spelled_) behind_)

-- by itself such a row ends after its front
opens_first : List Token → Bool
opens_first [] = true
opens_first (x ∷ xs) = opens_statement x

cut_stands : (m c : ℕ) (front : List Item) (last : Item) → Followed m c front last → (p : Position) (a : Trees) (s : Text) → is_statement forms Atoms p m ≡ true
    → Fits Atoms 32 32 (Word c ∷ front) a → Spells Atoms (tokens a ++ []) s → Stands Atoms p m (tokens a ++ []) s
unfolding opens_first
cut_stands m c front last f p Done s stated fits spelled_ = cc
cut_stands m c front last f p (Put (Coded d) ts) s stated fits spelled_ =
    led_by_symbol Atoms p 32 m (Word c ∷ front) (Put (Coded d) ts) [] s refl f.chosen (λ xs x same. sym (ap opens_first same)) stated fits refl spelled_
cut_stands m c front last f p (Put (Plain k w) ts) s stated fits spelled_ = cc
cut_stands m c front last f p (Put (Short d) ts) s stated fits spelled_ = cc
cut_stands m c front last f p (Put (Lined h l) ts) s stated fits spelled_ = cc
cut_stands m c front last f p (In n inner ts) s stated fits spelled_ = absurd fits

-- no fuel is left for a statement
none_read : (st : Position → Parser Text) (d p : ℕ → Parser Text) (v : Text) → st position.Following v ≡ Ok (Done, v) → items st d p (reader Atoms) (Statement position.Following ∷ []) v ≡ Ok (Done, v)
unfolding items item
none_read st d p v h = ap (λ (o : Outcome). and_then o (nothing)) h

none_follows : (v : Text) → reads_part Atoms 32 32 39 0 row.FOLLOWING v ≡ Ok (Done, v)
unfolding level statement_within
none_follows v = ap (λ (is : List Item). reads_row Atoms 32 32 38 0 is v) following_is ∙ none_read (statement (reader Atoms) 0) _ _ v refl

last_runs : (i : Item) (t : Trees) (more : List Token) (v : Text) → Runs Atoms (reads_item Atoms 32 32 39 0 i v) t more → Runs Atoms (reads_row Atoms 32 32 39 0 (i ∷ []) v) (also t Done) more
unfolding items
last_runs i t more v h = next_runs Atoms 32 32 39 0 i [] t Done more more v h (λ u spelled_. (u, (refl, spelled_)))

abbrev LineOrStatement : Item
LineOrStatement = Either start.Line row.LINE_NUMBER row.FOLLOWING

-- what stands after THEN or ELSE is no line number: nothing is read
either_stops : (mid : List Token) (v : Text) → starts Atoms start.Line v ≡ false → Spells Atoms mid v → Runs Atoms (reads_row Atoms 32 32 39 0 (LineOrStatement ∷ []) v) (In 0 Done Done) mid
unfolding item
either_stops mid v other spelled_ =
    last_runs LineOrStatement (In 0 Done Done) mid v
    (v, (if_is (starts Atoms start.Line v) false _ _ other ∙ ap (under 0) (none_follows v), spelled_))

part_stops : (mid : List Token) (v : Text) → Spells Atoms mid v → Runs Atoms (reads_row Atoms 32 32 39 0 (Part row.FOLLOWING ∷ []) v) (In 2 Done Done) mid
unfolding item
part_stops mid v spelled_ = last_runs (Part row.FOLLOWING) (In 2 Done Done) mid v (v, (ap (under 2) (none_follows v), spelled_))

-- it is one: it is read
line_bound : not (is_free_row (row_items row.LINE_NUMBER)) ≡ true
unfolding row_items
line_bound = refl

line_heads : (not (of row.LINE_NUMBER).empty && every (λ (f : Lookahead). surely start.Line f true) (of row.LINE_NUMBER).heads) ≡ true
unfolding of_row of row_items
line_heads = refl

line_plain : ((of row.LINE_NUMBER).plain && nat_lt (of row.LINE_NUMBER).rank 39) ≡ true
unfolding of_row of row_items
line_plain = refl

line_tails : (of row.LINE_NUMBER).tails ≡ []
unfolding of_row of row_items
line_tails = refl

rank_lt : (n : ℕ) → nat_lt n 39 ≡ true → suc n ≤ 39
rank_lt n h = grind (arith, nat_tests)

either_line : (b : Trees) (more : List Token) (v : Text) → Fits Atoms 32 32 (row_items row.LINE_NUMBER) b → RemarksEnd (tokens b ++ more) → Spells Atoms (tokens b ++ more) v
    → Runs Atoms (reads_row Atoms 32 32 39 0 (LineOrStatement ∷ []) v) (In 1 b Done) more
unfolding item
either_line b more v fits remarks_ spelled_ =
    let asked = answers Atoms start.Line (of row.LINE_NUMBER).heads true (tokens b ++ more) v (and_right (not (of row.LINE_NUMBER).empty) _ line_heads)
    (row_lookaheads b Atoms 32 32 row.LINE_NUMBER fits (and_left _ _ line_heads) more) spelled_ in
    last_runs LineOrStatement (In 1 b Done) more v
    (runs_is Atoms _ (under 1 (reads_part Atoms 32 32 39 0 row.LINE_NUMBER v)) (In 1 b Done) more (if_is (starts Atoms start.Line v) true _ _ asked)
    (runs_under Atoms 1 (reads_part Atoms 32 32 39 0 row.LINE_NUMBER v) b more
    (row_runs b (read_back b) Atoms (chooses Atoms) 32 32 39 0 row.LINE_NUMBER fits more line_bound (rank_lt _ (and_right (of row.LINE_NUMBER).plain _ line_plain))
    (λ h. never _ (and_left _ _ line_plain) h) (subst (λ (ts : List Tail). Refused Atoms ts more) (sym line_tails) tt) remarks_ v spelled_)))

-- a statement that stands next, before tokens, and the units from it on
pub record Next (us : List TreeUnit) (more here : List Token) : Type 0 where
  pub row : ℕ
  pub tree : Trees
  pub stated : is_statement forms Atoms position.Following row ≡ true
  pub fits : Fits Atoms 32 32 (row_items row) tree
  pub same : here ≡ tokens tree ++ more
  pub heads : some (λ (f : Lookahead). is_ahead f here) statement_heads ≡ true
  pub units : us ≡ record { position = position.Following; row = row; tree = own (row_items row) tree } ∷ units_in (row_items row) tree

-- the first unit of a statement's tokens: all of them, or another statement follows
pub record FirstUnit (p : Position) (m : ℕ) (t : Trees) (all more : List Token) : Type 0 where
  pub front : List Token
  pub behind : List Token
  pub same : all ≡ front ++ behind
  pub read : UnitRead p m (own (row_items m) t) front behind
  pub next : ((behind ≡ more) × (units_in (row_items m) t ≡ [])) ⊎ Next (units_in (row_items m) t) more behind

own_read : (p : Position) (m : ℕ) (t u : Trees) (xs more : List Token) → t ≡ u → UnitRead p m u xs more → UnitRead p m t xs more
own_read p m t u xs more same h = subst (λ (v : Trees). UnitRead p m v xs more) (sym same) h

-- a row's tree by its front and its last item
record Split (front : List Item) (last : Item) (t : Trees) : Type 0 where
  first : Trees
  second : Trees
  same : t ≡ also first second
  fits_first : Fits Atoms 32 32 front first
  fits_second : Fits Atoms 32 32 (last ∷ []) second
  own_is : own (front ++ last ∷ []) t ≡ also first (own (last ∷ []) second)
  units_are : units_in (front ++ last ∷ []) t ≡ units_in (last ∷ []) second

split_last : (last : Item) (t : Trees) → Fits Atoms 32 32 (last ∷ []) t → Split [] last t
split_last last t h = record { first = Done; second = t; same = refl; fits_first = refl; fits_second = h; own_is = refl; units_are = refl }

split_word : (c : ℕ) (front : List Item) (last : Item) → ((t : Trees) → Fits Atoms 32 32 (front ++ last ∷ []) t → Split front last t) → (t : Trees)
    → Fits Atoms 32 32 (Word c ∷ (front ++ last ∷ [])) t → Split (Word c ∷ front) last t
split_word c front last split Done h = cc
split_word c front last split (Put x ts) h =
    let s = split ts h.1 in
    record {
      first = Put x s.first;
      second = s.second;
      same = ap (Put x) s.same;
      fits_first = (h.0, s.fits_first);
      fits_second = s.fits_second;
      own_is = ap (Put x) s.own_is;
      units_are = s.units_are;
    }
split_word c front last split (In m inner ts) h = absurd h

split_part : (n : ℕ) (front : List Item) (last : Item) → whole (row_items n) ≡ true → ((t : Trees) → Fits Atoms 32 32 (front ++ last ∷ []) t → Split front last t) → (t : Trees)
    → Fits Atoms 32 32 (Part n ∷ (front ++ last ∷ [])) t → Split (Part n ∷ front) last t
split_part n front last plain split Done h = cc
split_part n front last plain split (Put x ts) h = cc
split_part n front last plain split (In m inner ts) h =
    let s = split ts h.1.1 in
    let r = all_own inner (row_items n) plain in
    record {
      first = In m inner s.first;
      second = s.second;
      same = ap (In m inner) s.same;
      fits_first = (h.0, (h.1.0, s.fits_first));
      fits_second = s.fits_second;
      own_is = (λ x. In m (r.tree x) (s.own_is x));
      units_are = (λ x. r.units x ++ s.units_are x);
    }

-- a statement that follows
open_heads : (q : Trees) (more : List Token) → Fits Atoms 32 32 (Statement position.Following ∷ []) q → some (λ (f : Lookahead). is_ahead f (tokens q ++ more)) statement_heads ≡ true
open_heads q more fits = elim (leads q Atoms 32 32 (Statement position.Following ∷ []) fits more) [
  | inl g ↦ cc
  | inr g ↦ g
]

next_statement : (q : Trees) (more : List Token) → Fits Atoms 32 32 (Statement position.Following ∷ []) q → Next (units_in (Statement position.Following ∷ []) q) more (tokens q ++ more)
next_statement Done more fits = cc
next_statement (Put t ts) more fits = cc
next_statement (In m inner Done) more fits = record {
  row = m;
  tree = inner;
  stated = fits.0;
  fits = fits.1.0;
  same = ap (λ (l : List Token). l ++ more) (append-nil (tokens inner));
  heads = open_heads (In m inner Done) more fits;
  units = ap (λ (us : List TreeUnit). record { position = position.Following; row = m; tree = own (row_items m) inner } ∷ us) (append-nil (units_in (row_items m) inner));
}
next_statement (In m inner (Put t ts)) more fits = absurd fits.1.1
next_statement (In m inner (In n other ts)) more fits = absurd fits.1.1

followed_by : (q : Trees) → Fits Atoms 32 32 (row_items row.FOLLOWING) q → Fits Atoms 32 32 (Statement position.Following ∷ []) q
followed_by q fits = subst (λ (is : List Item). Fits Atoms 32 32 is q) following_is fits

-- which is cut out
own_statement : (q : Trees) → Fits Atoms 32 32 (Statement position.Following ∷ []) q → own (Statement position.Following ∷ []) q ≡ Done
own_statement Done fits = cc
own_statement (Put t ts) fits = cc
own_statement (In m inner Done) fits = refl
own_statement (In m inner (Put t ts)) fits = absurd fits.1.1
own_statement (In m inner (In n other ts)) fits = absurd fits.1.1

own_followed : (k : ℕ) (q : Trees) → Fits Atoms 32 32 (row_items row.FOLLOWING) q → In k (own (row_items row.FOLLOWING) q) Done ≡ In k Done Done
own_followed k q fits = ap (λ (u : Trees). In k u Done) (ap (λ (is : List Item). own is q) following_is ∙ own_statement q (followed_by q fits))

units_followed : (q : Trees) → units_in (row_items row.FOLLOWING) q ++ [] ≡ units_in (Statement position.Following ∷ []) q
units_followed q = append-nil (units_in (row_items row.FOLLOWING) q) ∙ ap (λ (is : List Item). units_in is q) following_is

unlined : (ts : List Token) (v : Text) → some (λ (f : Lookahead). is_ahead f ts) statement_heads ≡ true → Spells Atoms ts v → starts Atoms start.Line v ≡ false
unlined ts v heads spelled_ = answers Atoms start.Line statement_heads false ts v refl heads spelled_

nothing_there : (v : Text) → v ≡ [] → starts Atoms start.Line v ≡ false
unfolding starts
nothing_there v h = ap (λ (u : Text). starts Atoms start.Line u) h

-- the statement's row, by all of its tokens
whole_stands : (p : Position) (m : ℕ) (inner : Trees) (more ys : List Token) (s : Text) → is_statement forms Atoms p m ≡ true → Fits Atoms 32 32 (row_items m) inner → is_closing more ≡ true
    → tokens inner ++ more ≡ ys → Spells Atoms ys s → Stands Atoms p m ys s
whole_stands p m inner more ys s stated fits closed same spelled_ =
    subst (λ (l : List Token). Stands Atoms p m l s) same
    (one_statement Atoms p 32 m inner more s stated fits closed (subst (λ (l : List Token). Spells Atoms l s) (sym same) spelled_))

-- with a line number after its front
line_tokens : (a b : Trees) → tokens (also a (In 1 b Done)) ≡ tokens a ++ tokens b
line_tokens a b = tokens_also a (In 1 b Done) ∙ ap (λ (l : List Token). tokens a ++ l) (append-nil (tokens b))

line_runs : (m c : ℕ) (front : List Item) → Followed m c front LineOrStatement → (p : Position) (a b : Trees) (more : List Token) → is_statement forms Atoms p m ≡ true
    → Fits Atoms 32 32 (row_items m) (also a (In 1 b Done)) → Fits Atoms 32 32 (Word c ∷ front) a → Fits Atoms 32 32 (row_items row.LINE_NUMBER) b → is_closing more ≡ true
    → Stand ((tokens a ++ tokens b) ++ more) → ReadsUnit p m (also a (In 1 b Done)) (tokens a ++ tokens b) more
line_runs m c front f p a b more stated fits fits_a fits_b closed st =
    let s : Text = atoms_of_tokens ((tokens a ++ tokens b) ++ more) in
    let parts : (tokens a ++ tokens b) ++ more ≡ tokens a ++ (tokens b ++ more) = append_assoc (tokens a) (tokens b) more in
    let spelled_ = subst (λ (l : List Token). Spells Atoms l s) parts (spelled ((tokens a ++ tokens b) ++ more) st) in
    let remarks_ = subst (λ (l : List Token). RemarksEnd l) parts st.remarks in
    let one = whole_stands p m (also a (In 1 b Done)) more (tokens a ++ (tokens b ++ more)) s stated fits closed (ap (λ (l : List Token). l ++ more) (line_tokens a b) ∙ parts) spelled_ in
    chosen_runs p m (also a (In 1 b Done)) (tokens a ++ (tokens b ++ more)) more s one
    (followed_runs m c front LineOrStatement f a (In 1 b Done) (tokens b ++ more) more one.0 fits_a remarks_ one.1.1
    (λ v spelled_v. either_line b more v fits_b (remarks_right (tokens a) (tokens b ++ more) remarks_) spelled_v))

line_unit : (m c : ℕ) (front : List Item) → Followed m c front LineOrStatement → (p : Position) (a b : Trees) (more : List Token) → is_statement forms Atoms p m ≡ true
    → Fits Atoms 32 32 (row_items m) (also a (In 1 b Done)) → Fits Atoms 32 32 (Word c ∷ front) a → Fits Atoms 32 32 (row_items row.LINE_NUMBER) b → is_closing more ≡ true
    → own (row_items m) (also a (In 1 b Done)) ≡ also a (own (LineOrStatement ∷ []) (In 1 b Done)) → units_in (row_items m) (also a (In 1 b Done)) ≡ units_in (LineOrStatement ∷ []) (In 1 b Done)
    → Stand (tokens (also a (In 1 b Done)) ++ more) → FirstUnit p m (also a (In 1 b Done)) (tokens (also a (In 1 b Done)) ++ more) more
line_unit m c front f p a b more stated fits fits_a fits_b closed own_is units_are st =
    let same_ = ap (λ (l : List Token). l ++ more) (line_tokens a b) in
    let st_ = subst (λ (l : List Token). Stand l) same_ st in
    let r = all_own b (row_items row.LINE_NUMBER) (whole_row row.LINE_NUMBER (and_left _ _ line_plain)) in
    record {
      front = tokens a ++ tokens b;
      behind = more;
      same = same_;
      read = own_read p m (own (row_items m) (also a (In 1 b Done))) (also a (In 1 b Done)) (tokens a ++ tokens b) more (own_is ∙ ap (λ (u : Trees). also a (In 1 u Done)) r.tree)
          (unit_read p m (also a (In 1 b Done)) (tokens a ++ tokens b) more (line_tokens a b) (line_runs m c front f p a b more stated fits fits_a fits_b closed st_)
          (line_runs m c front f p a b [] stated fits fits_a fits_b refl (stand_alone (tokens a ++ tokens b) more st_)));
      next = inl (refl, units_are ∙ ap (λ (us : List TreeUnit). us ++ []) r.units);
    }

-- with a statement after its front
abbrev Stops : Item → ℕ → List Token → Type 0
Stops last k mid = (v : Text) → Spells Atoms mid v → Runs Atoms (reads_row Atoms 32 32 39 0 (last ∷ []) v) (In k Done Done) mid

stop_tokens : (a : Trees) (k : ℕ) → tokens (also a (In k Done Done)) ≡ tokens a
stop_tokens a k = tokens_also a (In k Done Done) ∙ append-nil (tokens a)

stop_runs : (m c : ℕ) (front : List Item) (last : Item) → Followed m c front last → (p : Position) (a : Trees) (k : ℕ) (mid : List Token) → Fits Atoms 32 32 (Word c ∷ front) a
    → Stand (tokens a ++ mid) → Stands Atoms p m (tokens a ++ mid) (atoms_of_tokens (tokens a ++ mid)) → Stops last k mid → ReadsUnit p m (also a (In k Done Done)) (tokens a) mid
stop_runs m c front last f p a k mid fits_a st one stops =
    chosen_runs p m (also a (In k Done Done)) (tokens a ++ mid) mid (atoms_of_tokens (tokens a ++ mid)) one
    (followed_runs m c front last f a (In k Done Done) mid mid one.0 fits_a st.remarks one.1.1 stops)

follow_tokens : (a q : Trees) (k : ℕ) (more : List Token) → tokens (also a (In k q Done)) ++ more ≡ tokens a ++ (tokens q ++ more)
follow_tokens a q k more =
    ap (λ (l : List Token). l ++ more) (tokens_also a (In k q Done) ∙ ap (λ (l : List Token). tokens a ++ l) (append-nil (tokens q))) ∙ append_assoc (tokens a) (tokens q) more

follow_unit : (m c : ℕ) (front : List Item) (last : Item) → Followed m c front last → (p : Position) (a q : Trees) (k : ℕ) (more : List Token) → is_statement forms Atoms p m ≡ true
    → Fits Atoms 32 32 (row_items m) (also a (In k q Done)) → Fits Atoms 32 32 (Word c ∷ front) a → Fits Atoms 32 32 (row_items row.FOLLOWING) q → is_closing more ≡ true
    → own (row_items m) (also a (In k q Done)) ≡ also a (In k Done Done) → units_in (row_items m) (also a (In k q Done)) ≡ units_in (Statement position.Following ∷ []) q
    → Stops last k (tokens q ++ more) → Stops last k [] → Stand (tokens (also a (In k q Done)) ++ more) → FirstUnit p m (also a (In k q Done)) (tokens (also a (In k q Done)) ++ more) more
follow_unit m c front last f p a q k more stated fits fits_a fits_q closed own_is units_are stops ends st =
    let mid : List Token = tokens q ++ more in
    let same_ = follow_tokens a q k more in
    let st_ = subst (λ (l : List Token). Stand l) same_ st in
    let alone_ = stand_alone (tokens a) mid st_ in
    record {
      front = tokens a;
      behind = mid;
      same = same_;
      read = own_read p m (own (row_items m) (also a (In k q Done))) (also a (In k Done Done)) (tokens a) mid own_is
          (unit_read p m (also a (In k Done Done)) (tokens a) mid (stop_tokens a k)
          (stop_runs m c front last f p a k mid fits_a st_
          (whole_stands p m (also a (In k q Done)) more (tokens a ++ mid) (atoms_of_tokens (tokens a ++ mid)) stated fits closed same_ (spelled (tokens a ++ mid) st_)) stops)
          (stop_runs m c front last f p a k [] fits_a alone_
          (cut_stands m c front last f p a (atoms_of_tokens (tokens a ++ [])) stated fits_a (spelled (tokens a ++ []) alone_)) ends));
      next = inr (subst (λ (us : List TreeUnit). Next us more mid) (sym units_are) (next_statement q more (followed_by q fits_q)));
    }

-- by what stands there
FirstOf : Position → ℕ → List Token → Trees → Type 0
FirstOf p m more t = Stand (tokens t ++ more) → FirstUnit p m t (tokens t ++ more) more

-- the tree of a row by its front and its last item, with its units
abbrev IsCut : ℕ → Item → Trees → Trees → Trees → Type 0
IsCut m last a b t = (own (row_items m) t ≡ also a (own (last ∷ []) b)) × (units_in (row_items m) t ≡ units_in (last ∷ []) b)

either_unit : (m c : ℕ) (front : List Item) → Followed m c front LineOrStatement → (p : Position) (a b : Trees) (more : List Token) → is_statement forms Atoms p m ≡ true
    → Fits Atoms 32 32 (row_items m) (also a b) → Fits Atoms 32 32 (Word c ∷ front) a → Fits Atoms 32 32 (LineOrStatement ∷ []) b → is_closing more ≡ true
    → IsCut m LineOrStatement a b (also a b) → FirstOf p m more (also a b)
unfolding FirstOf
either_unit m c front f p a (In zero q Done) more stated fits fits_a fits_b closed cut st =
    let heads = open_heads q more (followed_by q fits_b.0) in
    follow_unit m c front LineOrStatement f p a q 0 more stated fits fits_a fits_b.0 closed
    (cut.0 ∙ ap (also a) (own_followed 0 q fits_b.0)) (cut.1 ∙ units_followed q)
    (λ v spelled_. either_stops (tokens q ++ more) v (unlined (tokens q ++ more) v heads spelled_) spelled_)
    (λ v spelled_. either_stops [] v (nothing_there v spelled_) spelled_) st
either_unit m c front f p a (In (suc zero) q Done) more stated fits fits_a fits_b closed cut st = line_unit m c front f p a q more stated fits fits_a fits_b.0 closed cut.0 cut.1 st
either_unit m c front f p a (In (suc (suc k)) q ts) more stated fits fits_a fits_b closed cut st = absurd fits_b
either_unit m c front f p a (In zero q (Put t ts)) more stated fits fits_a fits_b closed cut st = absurd fits_b.1
either_unit m c front f p a (In zero q (In n o ts)) more stated fits fits_a fits_b closed cut st = absurd fits_b.1
either_unit m c front f p a (In (suc zero) q (Put t ts)) more stated fits fits_a fits_b closed cut st = absurd fits_b.1
either_unit m c front f p a (In (suc zero) q (In n o ts)) more stated fits fits_a fits_b closed cut st = absurd fits_b.1
either_unit m c front f p a Done more stated fits fits_a fits_b closed cut st = cc
either_unit m c front f p a (Put t ts) more stated fits fits_a fits_b closed cut st = cc

part_unit : (m c : ℕ) (front : List Item) → Followed m c front (Part row.FOLLOWING) → (p : Position) (a b : Trees) (more : List Token) → is_statement forms Atoms p m ≡ true
    → Fits Atoms 32 32 (row_items m) (also a b) → Fits Atoms 32 32 (Word c ∷ front) a → Fits Atoms 32 32 (Part row.FOLLOWING ∷ []) b → is_closing more ≡ true
    → IsCut m (Part row.FOLLOWING) a b (also a b) → FirstOf p m more (also a b)
unfolding FirstOf
part_unit m c front f p a (In k q Done) more stated fits fits_a fits_b closed cut st =
    let P : ℕ → Type 0 = λ n. Fits Atoms 32 32 (row_items m) (also a (In n q Done)) → IsCut m (Part row.FOLLOWING) a (In n q Done) (also a (In n q Done)) → FirstOf p m more (also a (In n q Done)) in
    subst P (sym fits_b.0)
    (λ fits_ cut_ st_. follow_unit m c front (Part row.FOLLOWING) f p a q 2 more stated fits_ fits_a fits_b.1.0 closed
    (cut_.0 ∙ ap (also a) (own_followed 2 q fits_b.1.0)) (cut_.1 ∙ units_followed q) (part_stops (tokens q ++ more)) (part_stops []) st_) fits cut st
part_unit m c front f p a (In k q (Put t ts)) more stated fits fits_a fits_b closed cut st = absurd fits_b.1.1
part_unit m c front f p a (In k q (In n o ts)) more stated fits fits_a fits_b closed cut st = absurd fits_b.1.1
part_unit m c front f p a Done more stated fits fits_a fits_b closed cut st = cc
part_unit m c front f p a (Put t ts) more stated fits fits_a fits_b closed cut st = cc

-- the rows in which a statement may follow
if_followed : Followed row.IF word.IF (Part row.CONDITION ∷ Word word.THEN ∷ []) LineOrStatement
unfolding of_row of row_items
if_followed = record { is = refl; settles = refl; plain = refl; tails = refl; ranked = refl; chosen = refl }

else_followed : Followed row.ELSE word.ELSE [] LineOrStatement
unfolding of_row of row_items
else_followed = record { is = refl; settles = refl; plain = refl; tails = refl; ranked = refl; chosen = refl }

error_followed : Followed row.ERROR word.ERROR [] (Part row.FOLLOWING)
unfolding of_row of row_items
error_followed = record { is = refl; settles = refl; plain = refl; tails = refl; ranked = refl; chosen = refl }

-- the statements of a row
abbrev OfRow : ℕ → Type 0
OfRow m = (p : Position) (t : Trees) (more : List Token) → is_statement forms Atoms p m ≡ true → Fits Atoms 32 32 (row_items m) t → is_closing more ≡ true → FirstOf p m more t

condition_plain : (of row.CONDITION).plain ≡ true
unfolding of_row of row_items
condition_plain = refl

-- a row's items, which are known
split_row : (m : ℕ) (front : List Item) (last : Item) (p : Position) (more : List Token) (t : Trees) → row_items m ≡ front ++ last ∷ [] → (s : Split front last t)
    → Fits Atoms 32 32 (row_items m) t → ((a b : Trees) → Fits Atoms 32 32 (row_items m) (also a b) → Fits Atoms 32 32 front a → Fits Atoms 32 32 (last ∷ []) b → IsCut m last a b (also a b) → FirstOf p m more (also a b))
    → FirstOf p m more t
split_row m front last p more t is s fits read_ =
    subst (λ (u : Trees). Fits Atoms 32 32 (row_items m) u → IsCut m last s.first s.second u → FirstOf p m more u) (sym s.same)
    (λ fits_ cut_. read_ s.first s.second fits_ s.fits_first s.fits_second cut_) fits
    (ap (λ (js : List Item). own js t) is ∙ s.own_is, ap (λ (js : List Item). units_in js t) is ∙ s.units_are)

if_unit : OfRow row.IF
if_unit p t more stated fits closed =
    split_row row.IF (Word word.IF ∷ Part row.CONDITION ∷ Word word.THEN ∷ []) LineOrStatement p more t if_row_is
    (split_word word.IF (Part row.CONDITION ∷ Word word.THEN ∷ []) LineOrStatement
    (split_part row.CONDITION (Word word.THEN ∷ []) LineOrStatement (whole_row row.CONDITION condition_plain) (split_word word.THEN [] LineOrStatement (split_last LineOrStatement)))
    t (subst (λ (is : List Item). Fits Atoms 32 32 is t) if_row_is fits)) fits
    (λ a b fits_ fits_a fits_b cut_. either_unit row.IF word.IF (Part row.CONDITION ∷ Word word.THEN ∷ []) if_followed p a b more stated fits_ fits_a fits_b closed cut_)

else_unit : OfRow row.ELSE
else_unit p t more stated fits closed =
    split_row row.ELSE (Word word.ELSE ∷ []) LineOrStatement p more t else_is
    (split_word word.ELSE [] LineOrStatement (split_last LineOrStatement) t (subst (λ (is : List Item). Fits Atoms 32 32 is t) else_is fits)) fits
    (λ a b fits_ fits_a fits_b cut_. either_unit row.ELSE word.ELSE [] else_followed p a b more stated fits_ fits_a fits_b closed cut_)

error_unit : OfRow row.ERROR
error_unit p t more stated fits closed =
    split_row row.ERROR (Word word.ERROR ∷ []) (Part row.FOLLOWING) p more t error_is
    (split_word word.ERROR [] (Part row.FOLLOWING) (split_last (Part row.FOLLOWING)) t (subst (λ (is : List Item). Fits Atoms 32 32 is t) error_is fits)) fits
    (λ a b fits_ fits_a fits_b cut_. part_unit row.ERROR word.ERROR [] error_followed p a b more stated fits_ fits_a fits_b closed cut_)

plain_first : (m : ℕ) → (of m).plain ≡ true → OfRow m
unfolding FirstOf
plain_first m plain p t more stated fits closed st =
    let r = all_own t (row_items m) (whole_row m plain) in
    record {
      front = tokens t;
      behind = more;
      same = refl;
      read = own_read p m (own (row_items m) t) t (tokens t) more r.tree (plain_unit p m t more stated plain fits closed st);
      next = inl (refl, r.units);
    }

-- no other statement's row has a statement in it
is_known : ℕ → Bool
is_known m = (of m).plain || (m == row.IF || (m == row.ELSE || m == row.ERROR))

forms_known : every_statement is_known forms ≡ true
unfolding of_row of row_items is_known
forms_known = refl

of_equal : (m n : ℕ) → (m == n) ≡ true → OfRow n → OfRow m
of_equal m n same h = subst OfRow (sym (equal m n same)) h

of_known : (m : ℕ) → is_known m ≡ true → OfRow m
unfolding is_known
of_known m h = elim (or_cases (of m).plain _ h) [
  | inl g ↦ plain_first m g
  | inr g ↦ elim (or_cases (m == row.IF) _ g) [
    | inl e ↦ of_equal m row.IF e if_unit
    | inr e ↦ elim (or_cases (m == row.ELSE) _ e) [
      | inl d ↦ of_equal m row.ELSE d else_unit
      | inr d ↦ of_equal m row.ERROR d error_unit
    ]
  ]
]

-- the tokens of each statement begin with a unit
pub first_unit : (p : Position) (m : ℕ) (t : Trees) (more : List Token) → is_statement forms Atoms p m ≡ true → Fits Atoms 32 32 (row_items m) t → is_closing more ≡ true
    → Stand (tokens t ++ more) → FirstUnit p m t (tokens t ++ more) more
unfolding FirstOf
first_unit p m t more stated fits closed st = of_known m (one_of_statements is_known Atoms p m forms forms_known stated) p t more stated fits closed st
