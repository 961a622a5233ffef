-- A branch of a tree that fits is read from each text that spells it: parts, options, choices, repetitions, what stands in
-- parentheses, and statements.
use Rattle.std.proofs.Common.{◌≡◌, ℕ, zero, suc, ◌+◌, ◌<◌, ◌≤◌, ◌==◌, ◌&&◌, ◌||◌, not, nat_le, Bool, true, false, if◌then◌else◌, List, [], ◌∷◌, ◌++◌, length, refl, sym, ap, subst, ◌∙◌, arith, append_assoc, inl, inr, ◌⊎◌, Ok, Err}
use Rattle.std.proofs.lemmas.Bool.Decides.{nat_tests}
use Rattle.b2_atom.specs.Words.{Text}
use Rattle.b2_atom.specs.Tokens.{Token}
use Rattle.b2_atom.specs.Tokens.Token.{Coded, Short, Plain, Lined}
use Rattle.b2_atom.specs.Tree.{Trees, tokens, Outcome, Parser, preceded, and_then, under, also}
use Rattle.b2_atom.specs.Tree.Trees.{Done, Put, In}
use Rattle.b2_atom.specs.Grammar.{reader, items, item, level, deep, statement_within, many, row_items, starts, absent, statement_row, read_leaf, text_to_end}
use Rattle.b2_atom.specs.Spelling.{Spells}
use Rattle.b2_atom.specs.Fitting.{fits_token, giving, may_end, Fits, FitsPut, FitsIn, FitsBranch, is_statement, is_remark, is_rest, RemarksEnd}
use Rattle.b2_atom.specs.Table.{forms}
use Rattle.b2_atom.specs.declared.words.Origin.{Origin}
use Rattle.b2_atom.specs.declared.words.TheConstants as word
use Rattle.b2_atom.specs.declared.forms.Leaf.TheVariants as leaf
use Rattle.b2_atom.specs.declared.forms.Start.{Start}
use Rattle.b2_atom.specs.declared.forms.Position.{Position}
use Rattle.b2_atom.specs.declared.forms.Item.{Item}
use Rattle.b2_atom.specs.declared.forms.Item.TheVariants.{Word, Sign, Typed, Part, Maybe, Either, Many, Nest}
use Rattle.b2_atom.proofs.Booleans.{equal, and_left, and_right, or_one, or_other, or_cases, never, not_true}
use Rattle.b2_atom.proofs.settled.Lookaheads.{every, some, Lookahead, is_ahead, surely, Tail, Known, when, of_item, of_items, of, refuse, settled_item, is_far, is_near, is_bound, is_closed, is_symbol_item, is_free_row, of_row, is_remark_item, is_text}
use Rattle.b2_atom.proofs.settled.Lookaheads.Lookahead.{Spanned}
use Rattle.b2_atom.proofs.settled.Lookaheads.Tail.{Asked}
use Rattle.b2_atom.proofs.settled.LookaheadAnswers.{answers}
use Rattle.b2_atom.proofs.settled.Heads.{known, Refused, RefusedBy, refused_left, refused_right, refused_lookaheads, is_closing, Led, leads, led_known, fills}
use Rattle.b2_atom.proofs.reading.Complete.{Runs, runs_then, runs_under, runs_is, reads_row, lead, Ready, behind, next_runs, length_append, ready_in, ready_row, rank_left, if_is, remarks_right, put_runs}
use Rattle.b2_atom.proofs.settled.Computed.{row_settled}

-- what the choices of statements, and those that look further than the next token, come to
pub record Chooses (o : Origin) : Type 0 where
  pub far_first : (st : Start) (n k most room : ℕ) (inner : Trees) (more : List Token) (s : Text) → is_far st n k ≡ true → Fits o most room (row_items n) inner
      → Spells o (tokens inner ++ more) s → starts o st s ≡ true
  pub far_second : (st : Start) (n k most room : ℕ) (inner : Trees) (more : List Token) (s : Text) → is_far st n k ≡ true → Fits o most room (row_items k) inner
      → Refused o (of k).tails more → Spells o (tokens inner ++ more) s → starts o st s ≡ false
  pub one_statement : (p : Position) (most m : ℕ) (inner : Trees) (more : List Token) (s : Text) → is_statement forms o p m ≡ true → Fits o most most (row_items m) inner
      → is_closing more ≡ true → Spells o (tokens inner ++ more) s → (u : Text) × ((statement_row o p s ≡ Ok (m, u)) × Spells o (tokens inner ++ more) u)

abbrev pub Good : Trees → Type 0
Good t = (o : Origin) → Chooses o → (most room l f : ℕ) (is : List Item) → Fits o most room is t → (more : List Token) → Ready o most room l f is t more
    → (s : Text) → Spells o (tokens t ++ more) s → Runs o (reads_row o most room l f is s) t more

abbrev pub reads_part : Origin → ℕ → ℕ → ℕ → ℕ → ℕ → Parser Text
reads_part o most room l f n = level (reader o) (statement_within most (reader o) f) (deep (reader o) (statement_within most (reader o) f) room) l n

abbrev pub GoodMany : Trees → Type 0
GoodMany t = (o : Origin) → Chooses o → (most room l f : ℕ) (x : Start) (n : ℕ) (is : List Item) → Fits o most room (Many x n ∷ is) t → (more : List Token)
    → Ready o most room l f (Many x n ∷ is) t more → (k : ℕ) → length (tokens t) ≤ k → (s : Text) → Spells o (tokens t ++ more) s
    → Runs o (and_then (many (reader o) x (reads_part o most room l f n) k s) (reads_row o most room l f is)) t more

row_zero : (n : ℕ) → suc n ≤ 0 → ⊥
row_zero n h = omega arith

-- a row inside an item
pub row_runs : (inner : Trees) → Good inner → (o : Origin) → Chooses o → (most room l f n : ℕ) → Fits o most room (row_items n) inner → (more : List Token)
    → not (is_free_row (row_items n)) ≡ true → suc (of n).rank ≤ l → ((of n).plain ≡ false → length (tokens inner) ≤ f) → Refused o (of n).tails more
    → RemarksEnd (tokens inner ++ more) → (s : Text) → Spells o (tokens inner ++ more) s → Runs o (reads_part o most room l f n s) inner more
unfolding level
row_runs inner good o chooses most room zero f n fits more bound rank_is enough_is refuses_ remarks_ s spelled = absurd (row_zero (of n).rank rank_is)
row_runs inner good o chooses most room (suc l) f n fits more bound rank_is enough_is refuses_ remarks_ s spelled =
    let less : (of n).rank ≤ l = omega (arith, rank_is) in
    good o chooses most room l f (row_items n) fits more (ready_row o most room l f n inner more bound less enough_is refuses_ remarks_) s spelled

and_plain : (a b : Bool) → a ≡ false → (a && b) ≡ false
and_plain true b h = cc
and_plain false b h = refl

inner_less : (b : Bool) (a c n f : ℕ) → b ≡ false → n ≡ a + c → n ≤ (if b then 1 else 0) + f → a ≤ f
inner_less true a c n f h is e = cc
inner_less false a c n f h is e = omega (arith, e, is)

pub inner_enough : (o : Origin) (most room l f m : ℕ) (i : Item) (is : List Item) (inner ts : Trees) (more : List Token) → is_symbol_item i ≡ false
    → Ready o most room l f (i ∷ is) (In m inner ts) more → (of_item of i).plain ≡ false → length (tokens inner) ≤ f
inner_enough o most room l f m i is inner ts more led_by_none r h =
    inner_less (is_symbol_item i) (length (tokens inner)) (length (tokens ts)) (length (tokens inner ++ tokens ts)) f led_by_none (length_append (tokens inner) (tokens ts))
    (r.enough (and_plain (of_item of i).plain (of_items of is).plain h))

pub inner_remarks : (inner ts : Trees) (more : List Token) → RemarksEnd ((tokens inner ++ tokens ts) ++ more) → RemarksEnd (tokens inner ++ (tokens ts ++ more))
inner_remarks inner ts more h = let P : List Token → Type 0 = λ l. RemarksEnd l in subst P (append_assoc (tokens inner) (tokens ts) more) h

pub inner_spelled : (o : Origin) (inner ts : Trees) (more : List Token) (s : Text) → Spells o ((tokens inner ++ tokens ts) ++ more) s → Spells o (tokens inner ++ (tokens ts ++ more)) s
inner_spelled o inner ts more s h = let P : List Token → Type 0 = λ l. Spells o l s in subst P (append_assoc (tokens inner) (tokens ts) more) h

-- what follows a branch refuses what it must
pub branch_behind : (o : Origin) (most room l f m : ℕ) (i : Item) (is : List Item) (inner ts : Trees) (more : List Token) → Fits o most room is ts
    → refuse (of_item of i).tails (of_items of is).heads ≡ true → Ready o most room l f (i ∷ is) (In m inner ts) more → Refused o (of_item of i).tails (tokens ts ++ more)
branch_behind o most room l f m i is inner ts more fits test r = behind o i is (tokens ts) more (leads ts o most room is fits more) test r.refuses

-- a part
pub part_runs : (inner ts : Trees) → Good inner → Good ts → (o : Origin) → Chooses o → (most room l f n : ℕ) (is : List Item) → Fits o most room (row_items n) inner → Fits o most room is ts
    → (more : List Token) → Ready o most room l f (Part n ∷ is) (In 2 inner ts) more → (s : Text) → Spells o ((tokens inner ++ tokens ts) ++ more) s
    → Runs o (reads_row o most room l f (Part n ∷ is) s) (In 2 inner ts) more
unfolding item
part_runs inner ts gi gt o chooses most room l f n is fi ft more r s spelled =
    let tests = and_right (settled_item of (Part n) is) _ r.settles in
    next_runs o most room l f (Part n) is (In 2 inner Done) ts (tokens ts ++ more) more s
    (runs_under o 2 (reads_part o most room l f n s) inner (tokens ts ++ more)
    (row_runs inner gi o chooses most room l f n fi (tokens ts ++ more) (and_left _ _ r.settles) (rank_left (suc (of n).rank) (of_items of is).rank l r.ranked)
    (inner_enough o most room l f 2 (Part n) is inner ts more refl r)
    (branch_behind o most room l f 2 (Part n) is inner ts more ft (and_left _ _ tests) r)
    (inner_remarks inner ts more r.remarks) s (inner_spelled o inner ts more s spelled)))
    (λ u spelled_. gt o chooses most room l f is ft more (ready_in o most room l f 2 (Part n) is inner ts more refl (and_right (refuse (of n).tails (of_items of is).heads) _ tests) r) u spelled_)

led_row : (inner : Trees) (o : Origin) (most room n : ℕ) → Fits o most room (row_items n) inner → (more : List Token) → Led (of n) (tokens inner) more
led_row inner o most room n fits more = led_known n (tokens inner) more (leads inner o most room (row_items n) fits more)

-- a row that isn't empty begins as it must
pub row_lookaheads : (inner : Trees) (o : Origin) (most room n : ℕ) → Fits o most room (row_items n) inner → not (of n).empty ≡ true → (more : List Token)
    → some (λ (f : Lookahead). is_ahead f (tokens inner ++ more)) (of n).heads ≡ true
row_lookaheads inner o most room n fits full more = elim (led_row inner o most room n fits more) [
  | inl g ↦ never (of n).empty g.1 (not_true _ full)
  | inr g ↦ g
]

pub done_of : (o : Origin) (most room : ℕ) (t : Trees) → Fits o most room [] t → t ≡ Done
done_of o most room Done h = refl
done_of o most room (Put t ts) h = absurd h
done_of o most room (In m inner ts) h = absurd h

-- an option that is taken
pub maybe_runs : (inner ts : Trees) → Good inner → Good ts → (o : Origin) → Chooses o → (most room l f : ℕ) (x : Start) (n : ℕ) (is : List Item) → Fits o most room (row_items n) inner → Fits o most room is ts
    → (more : List Token) → Ready o most room l f (Maybe x n ∷ is) (In 1 inner ts) more → (s : Text) → Spells o ((tokens inner ++ tokens ts) ++ more) s
    → Runs o (reads_row o most room l f (Maybe x n ∷ is) s) (In 1 inner ts) more
unfolding item
maybe_runs inner ts gi gt o chooses most room l f x n is fi ft more r s spelled =
    let own = and_left (settled_item of (Maybe x n) is) _ r.settles in
    let fronts_ = and_right (is_bound n) _ own in
    let tests = and_right (settled_item of (Maybe x n) is) _ r.settles in
    let spelled_in = inner_spelled o inner ts more s spelled in
    let behind_ = branch_behind o most room l f 1 (Maybe x n) is inner ts more ft (and_left _ _ tests) r in
    let asked = answers o x (of n).heads true (tokens inner ++ (tokens ts ++ more)) s (and_right (not (of n).empty) _ fronts_)
    (row_lookaheads inner o most room n fi (and_left _ _ fronts_) (tokens ts ++ more)) spelled_in in
    next_runs o most room l f (Maybe x n) is (In 1 inner Done) ts (tokens ts ++ more) more s
    (runs_is o _ (under 1 (reads_part o most room l f n s)) (In 1 inner Done) (tokens ts ++ more) (if_is (starts o x s) true _ _ asked)
    (runs_under o 1 (reads_part o most room l f n s) inner (tokens ts ++ more)
    (row_runs inner gi o chooses most room l f n fi (tokens ts ++ more) (and_left _ _ own) (rank_left (suc (of n).rank) (of_items of is).rank l r.ranked)
    (inner_enough o most room l f 1 (Maybe x n) is inner ts more refl r) behind_.1 (inner_remarks inner ts more r.remarks) s spelled_in)))
    (λ u spelled_. gt o chooses most room l f is ft more (ready_in o most room l f 1 (Maybe x n) is inner ts more refl (and_right (refuse (of_item of (Maybe x n)).tails (of_items of is).heads) _ tests) r) u spelled_)

-- an option that is left out
pub maybe_left : (ts : Trees) → Good ts → (o : Origin) → Chooses o → (most room l f : ℕ) (x : Start) (n : ℕ) (is : List Item) → Fits o most room is ts
    → (more : List Token) → Ready o most room l f (Maybe x n ∷ is) (In 0 Done ts) more → (s : Text) → Spells o (tokens ts ++ more) s
    → Runs o (reads_row o most room l f (Maybe x n ∷ is) s) (In 0 Done ts) more
unfolding item
maybe_left ts gt o chooses most room l f x n is ft more r s spelled =
    let tests = and_right (settled_item of (Maybe x n) is) _ r.settles in
    let behind_ = branch_behind o most room l f 0 (Maybe x n) is Done ts more ft (and_left _ _ tests) r in
    next_runs o most room l f (Maybe x n) is (In 0 Done Done) ts (tokens ts ++ more) more s
    (s, (if_is (starts o x s) false _ _ (behind_.0 s spelled), spelled))
    (λ u spelled_. gt o chooses most room l f is ft more (ready_in o most room l f 0 (Maybe x n) is Done ts more refl (and_right (refuse (of_item of (Maybe x n)).tails (of_items of is).heads) _ tests) r) u spelled_)

when_one : (o : Origin) (b : Bool) (t : Tail) (more : List Token) → b ≡ true → Refused o (when b (t ∷ [])) more → RefusedBy o t more
when_one o true t more h k = k.0
when_one o false t more h k = cc

and_both : (a b : Bool) → b ≡ false → (a && b) ≡ false
and_both true b h = h
and_both false b h = refl

first_rank : (a b c l : ℕ) → (if nat_le (suc (if nat_le a b then b else a)) c then c else suc (if nat_le a b then b else a)) ≤ l → suc a ≤ l
first_rank a b c l h = grind (arith, nat_tests)

second_rank : (a b c l : ℕ) → (if nat_le (suc (if nat_le a b then b else a)) c then c else suc (if nat_le a b then b else a)) ≤ l → suc b ≤ l
second_rank a b c l h = grind (arith, nat_tests)

second_asked : (inner : Trees) (o : Origin) (most room : ℕ) (x : Start) (n k : ℕ) (more : List Token) (s : Text) → Fits o most room (row_items k) inner → is_near of x n k ≡ true
    → Refused o (when (of k).empty (Asked x ∷ [])) more → Spells o (tokens inner ++ more) s → starts o x s ≡ false
second_asked inner o most room x n k more s fits near refused spelled = elim (led_row inner o most room k fits more) [
  | inl g ↦ (let P : List Token → Type 0 = λ l. Spells o (l ++ more) s in when_one o (of k).empty (Asked x) more g.1 refused s (subst P g.0 spelled))
  | inr g ↦ answers o x (of k).heads false (tokens inner ++ more) s (and_right (every (λ (f : Lookahead). surely x f true) (of n).heads) _ near) g spelled
]

-- the first of two
pub first_runs : (inner ts : Trees) → Good inner → Good ts → (o : Origin) → Chooses o → (most room l f : ℕ) (x : Start) (n k : ℕ) (is : List Item) → Fits o most room (row_items n) inner → Fits o most room is ts
    → (more : List Token) → Ready o most room l f (Either x n k ∷ is) (In 1 inner ts) more → (s : Text) → Spells o ((tokens inner ++ tokens ts) ++ more) s
    → Runs o (reads_row o most room l f (Either x n k ∷ is) s) (In 1 inner ts) more
unfolding item
first_runs inner ts gi gt o chooses most room l f x n k is fi ft more r s spelled =
    let own = and_left (settled_item of (Either x n k) is) _ r.settles in
    let choice = and_right (is_bound n && is_bound k) _ own in
    let tests = and_right (settled_item of (Either x n k) is) _ r.settles in
    let spelled_in = inner_spelled o inner ts more s spelled in
    let behind_ = branch_behind o most room l f 1 (Either x n k) is inner ts more ft (and_left _ _ tests) r in
    let asked : starts o x s ≡ true = elim (or_cases (is_far x n k) (is_near of x n k) (and_right (not (of n).empty) _ choice)) [
      | inl g ↦ chooses.far_first x n k most room inner (tokens ts ++ more) s g fi spelled_in
      | inr g ↦ answers o x (of n).heads true (tokens inner ++ (tokens ts ++ more)) s (and_left _ _ g) (row_lookaheads inner o most room n fi (and_left _ _ choice) (tokens ts ++ more)) spelled_in
    ] in
    next_runs o most room l f (Either x n k) is (In 1 inner Done) ts (tokens ts ++ more) more s
    (runs_is o _ (under 1 (reads_part o most room l f n s)) (In 1 inner Done) (tokens ts ++ more) (if_is (starts o x s) true _ _ asked)
    (runs_under o 1 (reads_part o most room l f n s) inner (tokens ts ++ more)
    (row_runs inner gi o chooses most room l f n fi (tokens ts ++ more) (and_left _ _ (and_left (is_bound n && is_bound k) _ own)) (first_rank (of n).rank (of k).rank (of_items of is).rank l r.ranked)
    (λ h. inner_enough o most room l f 1 (Either x n k) is inner ts more refl r (and_plain (of n).plain (of k).plain h))
    (refused_left o (of n).tails (of k).tails _ (refused_right o (when (of k).empty (Asked x ∷ [])) _ _ behind_)) (inner_remarks inner ts more r.remarks) s spelled_in)))
    (λ u spelled_. gt o chooses most room l f is ft more (ready_in o most room l f 1 (Either x n k) is inner ts more refl (and_right (refuse (of_item of (Either x n k)).tails (of_items of is).heads) _ tests) r) u spelled_)

-- the second of two
pub second_runs : (inner ts : Trees) → Good inner → Good ts → (o : Origin) → Chooses o → (most room l f : ℕ) (x : Start) (n k : ℕ) (is : List Item) → Fits o most room (row_items k) inner → Fits o most room is ts
    → (more : List Token) → Ready o most room l f (Either x n k ∷ is) (In 0 inner ts) more → (s : Text) → Spells o ((tokens inner ++ tokens ts) ++ more) s
    → Runs o (reads_row o most room l f (Either x n k ∷ is) s) (In 0 inner ts) more
unfolding item
second_runs inner ts gi gt o chooses most room l f x n k is fi ft more r s spelled =
    let own = and_left (settled_item of (Either x n k) is) _ r.settles in
    let choice = and_right (is_bound n && is_bound k) _ own in
    let tests = and_right (settled_item of (Either x n k) is) _ r.settles in
    let spelled_in = inner_spelled o inner ts more s spelled in
    let behind_ = branch_behind o most room l f 0 (Either x n k) is inner ts more ft (and_left _ _ tests) r in
    let rest_tails = refused_right o (of n).tails (of k).tails _ (refused_right o (when (of k).empty (Asked x ∷ [])) _ _ behind_) in
    let asked : starts o x s ≡ false = elim (or_cases (is_far x n k) (is_near of x n k) (and_right (not (of n).empty) _ choice)) [
      | inl g ↦ chooses.far_second x n k most room inner (tokens ts ++ more) s g fi rest_tails spelled_in
      | inr g ↦ second_asked inner o most room x n k (tokens ts ++ more) s fi g (refused_left o (when (of k).empty (Asked x ∷ [])) _ _ behind_) spelled_in
    ] in
    next_runs o most room l f (Either x n k) is (In 0 inner Done) ts (tokens ts ++ more) more s
    (runs_is o _ (under 0 (reads_part o most room l f k s)) (In 0 inner Done) (tokens ts ++ more) (if_is (starts o x s) false _ _ asked)
    (runs_under o 0 (reads_part o most room l f k s) inner (tokens ts ++ more)
    (row_runs inner gi o chooses most room l f k fi (tokens ts ++ more) (and_right (is_bound n) _ (and_left (is_bound n && is_bound k) _ own)) (second_rank (of n).rank (of k).rank (of_items of is).rank l r.ranked)
    (λ h. inner_enough o most room l f 0 (Either x n k) is inner ts more refl r (and_both (of n).plain (of k).plain h))
    rest_tails (inner_remarks inner ts more r.remarks) s spelled_in)))
    (λ u spelled_. gt o chooses most room l f is ft more (ready_in o most room l f 0 (Either x n k) is inner ts more refl (and_right (refuse (of_item of (Either x n k)).tails (of_items of is).heads) _ tests) r) u spelled_)

close_heads : (c : ℕ) (code : ℕ) (is : List Item) (xs more : List Token) → (c == 41) ≡ true → Led (of_items of (Sign c code ∷ is)) xs more → some (λ (f : Lookahead). is_ahead f (xs ++ more)) (Spanned 41 41 ∷ []) ≡ true
close_heads c code is xs more h (inl g) = cc
close_heads c code is xs more h (inr g) = ap (λ (n : ℕ). some (λ (f : Lookahead). is_ahead f (xs ++ more)) (Spanned n n ∷ [])) (sym (equal c 41 h)) ∙ g

-- a `)` stands after what stands in parentheses
nest_behind : (o : Origin) (most room n : ℕ) (is : List Item) (ts : Trees) (more : List Token) → is_closed is ≡ true → refuse (of n).tails (Spanned 41 41 ∷ []) ≡ true → Fits o most room is ts
    → Refused o (of n).tails (tokens ts ++ more)
nest_behind o most room n (Sign c code ∷ is) ts more h test fits =
    refused_lookaheads o (of n).tails (Spanned 41 41 ∷ []) (tokens ts ++ more) test (close_heads c code is (tokens ts) more h (leads ts o most room (Sign c code ∷ is) fits more))
nest_behind o most room n [] ts more h test fits = cc
nest_behind o most room n (i ∷ is) ts more h test fits = cc

rank_39 : (n : ℕ) → nat_le n 39 ≡ true → n ≤ 39
rank_39 n h = grind (arith, nat_tests)

pub row_rank : (n : ℕ) → suc (of n).rank ≤ 40
unfolding of of_row
row_rank n = let r : (of_items (of_row 39) (row_items n)).rank ≤ 39 = rank_39 _ (and_left _ _ (row_settled n)) in omega (arith, r)

-- what stands in parentheses
pub nest_runs : (inner ts : Trees) → Good inner → Good ts → (o : Origin) → Chooses o → (most room l f n : ℕ) (is : List Item) → Fits o most room (row_items n) inner → Fits o most (suc room) is ts
    → (more : List Token) → Ready o most (suc room) l f (Nest n ∷ is) (In 2 inner ts) more → (s : Text) → Spells o ((tokens inner ++ tokens ts) ++ more) s
    → Runs o (reads_row o most (suc room) l f (Nest n ∷ is) s) (In 2 inner ts) more
unfolding item deep
nest_runs inner ts gi gt o chooses most room l f n is fi ft more r s spelled =
    let own = and_left (settled_item of (Nest n) is) _ r.settles in
    let tests = and_right (settled_item of (Nest n) is) _ r.settles in
    let closes = and_right (of n).plain _ (and_right (is_bound n) _ own) in
    next_runs o most (suc room) l f (Nest n) is (In 2 inner Done) ts (tokens ts ++ more) more s
    (runs_under o 2 (reads_part o most room 40 f n s) inner (tokens ts ++ more)
    (row_runs inner gi o chooses most room 40 f n fi (tokens ts ++ more) (and_left _ _ own) (row_rank n)
    (λ h. never (of n).plain (and_left _ _ (and_right (is_bound n) _ own)) h)
    (nest_behind o most (suc room) n is ts more (and_left _ _ closes) (and_right (is_closed is) _ closes) ft)
    (inner_remarks inner ts more r.remarks) s (inner_spelled o inner ts more s spelled)))
    (λ u spelled_. gt o chooses most (suc room) l f is ft more (ready_in o most (suc room) l f 2 (Nest n) is inner ts more refl (and_right (refuse (of_item of (Nest n)).tails (of_items of is).heads) _ tests) r) u spelled_)

-- readings in a row may be put together in any order
also_assoc : (a b c : Trees) → also (also a b) c ≡ also a (also b c)
also_assoc Done b c = refl
also_assoc (Put t a) b c = ap (Put t) (also_assoc a b c)
also_assoc (In n i a) b c = ap (In n i) (also_assoc a b c)

joined_joined : (a b : Trees) (o : Outcome) → preceded (also a b) o ≡ preceded a (preceded b o)
joined_joined a b (Ok p) = ap (λ (t : Trees). Ok (t, p.1)) (also_assoc a b p.0)
joined_joined a b (Err e) = refl

then_joined : (a : Trees) (o : Outcome) (q : Parser Text) → and_then (preceded a o) q ≡ preceded a (and_then o q)
then_joined a (Ok p) q = joined_joined a p.0 (q p.1)
then_joined a (Err e) q = refl

pub then_then : (o : Outcome) (q r : Parser Text) → and_then (and_then o q) r ≡ and_then o (λ (u : Text). and_then (q u) r)
then_then (Ok p) q r = then_joined p.0 (q p.1) r
then_then (Err e) q r = refl

some_split : (p : Lookahead → Bool) (xs ys : List Lookahead) → some p (xs ++ ys) ≡ true → (some p xs ≡ true) ⊎ (some p ys ≡ true)
some_split p [] ys h = inr h
some_split p (x ∷ xs) ys h = elim (or_cases (p x) (some p (xs ++ ys)) h) [
  | inl g ↦ inl (or_one _ _ g)
  | inr g ↦ elim (some_split p xs ys g) [
    | inl e ↦ inl (or_other (p x) _ e)
    | inr e ↦ inr e
  ]
]

-- what follows one turn of a repetition
turn_behind : (o : Origin) (x : Start) (n : ℕ) (is : List Item) (xs more : List Token) → Led (of_items of (Many x n ∷ is)) xs more → refuse (of n).tails (of n).heads ≡ true
    → refuse (of_item of (Many x n)).tails (of_items of is).heads ≡ true → Refused o (of_items of (Many x n ∷ is)).tails more → Refused o (of n).tails (xs ++ more)
turn_behind o x n is xs more (inl g) own test refused = (behind o (Many x n) is xs more (inl g) test refused).1
turn_behind o x n is xs more (inr g) own test refused = elim (some_split (λ (f : Lookahead). is_ahead f (xs ++ more)) (of n).heads (of_items of is).heads g) [
  | inl e ↦ refused_lookaheads o (of n).tails (of n).heads (xs ++ more) own e
  | inr e ↦ (behind o (Many x n) is xs more (inr e) test refused).1
]

-- a repetition that ends
pub many_left : (ts : Trees) → Good ts → (o : Origin) → Chooses o → (most room l f : ℕ) (x : Start) (n : ℕ) (is : List Item) → Fits o most room is ts
    → (more : List Token) → Ready o most room l f (Many x n ∷ is) (In 0 Done ts) more → (k : ℕ) (s : Text) → Spells o (tokens ts ++ more) s
    → Runs o (and_then (many (reader o) x (reads_part o most room l f n) k s) (reads_row o most room l f is)) (In 0 Done ts) more
unfolding many
many_left ts gt o chooses most room l f x n is ft more r zero s spelled =
    let tests = and_right (settled_item of (Many x n) is) _ r.settles in
    let behind_ = branch_behind o most room l f 0 (Many x n) is Done ts more ft (and_left _ _ tests) r in
    runs_then o _ (reads_row o most room l f is) (In 0 Done Done) ts (tokens ts ++ more) more
    (s, (if_is (starts o x s) false _ _ (behind_.0 s spelled), spelled))
    (λ u spelled_. gt o chooses most room l f is ft more (ready_in o most room l f 0 (Many x n) is Done ts more refl (and_right (refuse (of_item of (Many x n)).tails (of_items of is).heads) _ tests) r) u spelled_)
many_left ts gt o chooses most room l f x n is ft more r (suc k) s spelled =
    let tests = and_right (settled_item of (Many x n) is) _ r.settles in
    let behind_ = branch_behind o most room l f 0 (Many x n) is Done ts more ft (and_left _ _ tests) r in
    runs_then o _ (reads_row o most room l f is) (In 0 Done Done) ts (tokens ts ++ more) more
    (s, (if_is (starts o x s) false _ _ (behind_.0 s spelled), spelled))
    (λ u spelled_. gt o chooses most room l f is ft more (ready_in o most room l f 0 (Many x n) is Done ts more refl (and_right (refuse (of_item of (Many x n)).tails (of_items of is).heads) _ tests) r) u spelled_)

-- the same with what follows it unchanged
ready_turn : (o : Origin) (most room l f : ℕ) (x : Start) (n : ℕ) (is : List Item) (inner ts : Trees) (more : List Token)
    → Ready o most room l f (Many x n ∷ is) (In 1 inner ts) more → Ready o most room l f (Many x n ∷ is) ts more
ready_turn o most room l f x n is inner ts more r = record {
  settles = r.settles;
  ranked = r.ranked;
  enough = λ h. let e = r.enough h in let m = length_append (tokens inner) (tokens ts) in omega (arith, e, m);
  refuses = r.refuses;
  remarks = (let P : List Token → Type 0 = λ l. RemarksEnd l in remarks_right (tokens inner) (tokens ts ++ more) (subst P (append_assoc (tokens inner) (tokens ts) more) r.remarks));
}

some_tokens : (inner : Trees) (o : Origin) (most room n : ℕ) → Fits o most room (row_items n) inner → not (of n).empty ≡ true → 0 < length (tokens inner)
some_tokens inner o most room n fits full = fills inner o most room (row_items n) fits (ap (λ (k : Known). k.empty) (known n) ∙ not_true _ full)

no_fuel : (a b n : ℕ) → n ≡ a + b → 0 < a → n ≤ 0 → ⊥
no_fuel a b n is h k = omega (arith, is, h, k)

less_fuel : (a b n k : ℕ) → n ≡ a + b → 0 < a → n ≤ suc k → b ≤ k
less_fuel a b n k is h e = omega (arith, is, h, e)

-- a repetition that goes on
pub many_more : (inner ts : Trees) → Good inner → GoodMany ts → (o : Origin) → Chooses o → (most room l f : ℕ) (x : Start) (n : ℕ) (is : List Item) → Fits o most room (row_items n) inner
    → Fits o most room (Many x n ∷ is) ts → (more : List Token) → Ready o most room l f (Many x n ∷ is) (In 1 inner ts) more → (k : ℕ) → length (tokens inner ++ tokens ts) ≤ k
    → (s : Text) → Spells o ((tokens inner ++ tokens ts) ++ more) s
    → Runs o (and_then (many (reader o) x (reads_part o most room l f n) k s) (reads_row o most room l f is)) (In 1 inner ts) more
unfolding many
many_more inner ts gi gt o chooses most room l f x n is fi ft more r zero fuel s spelled =
    let own = and_right (is_bound n) _ (and_left (settled_item of (Many x n) is) _ r.settles) in
    absurd (no_fuel (length (tokens inner)) (length (tokens ts)) (length (tokens inner ++ tokens ts)) (length_append (tokens inner) (tokens ts)) (some_tokens inner o most room n fi (and_left _ _ own)) fuel)
many_more inner ts gi gt o chooses most room l f x n is fi ft more r (suc k) fuel s spelled =
    let own = and_left (settled_item of (Many x n) is) _ r.settles in
    let choice = and_right (is_bound n) _ own in
    let rest = and_right (not (of n).empty) _ choice in
    let tests = and_right (settled_item of (Many x n) is) _ r.settles in
    let spelled_in = inner_spelled o inner ts more s spelled in
    let behind_ = turn_behind o x n is (tokens ts) more (leads ts o most room (Many x n ∷ is) ft more) (and_right (every (λ (f : Lookahead). surely x f true) (of n).heads) _ rest) (and_left _ _ tests) r.refuses in
    let asked = answers o x (of n).heads true (tokens inner ++ (tokens ts ++ more)) s (and_left _ _ rest) (row_lookaheads inner o most room n fi (and_left _ _ choice) (tokens ts ++ more)) spelled_in in
    let less = less_fuel (length (tokens inner)) (length (tokens ts)) (length (tokens inner ++ tokens ts)) k (length_append (tokens inner) (tokens ts))
    (some_tokens inner o most room n fi (and_left _ _ choice)) fuel in
    runs_is o _ (and_then (under 1 (reads_part o most room l f n s)) (λ (u : Text). and_then (many (reader o) x (reads_part o most room l f n) k u) (reads_row o most room l f is))) (In 1 inner ts) more
    (ap (λ (b : Bool). and_then (if b then and_then (under 1 (reads_part o most room l f n s)) (many (reader o) x (reads_part o most room l f n) k) else absent s) (reads_row o most room l f is)) asked
    ∙ then_then (under 1 (reads_part o most room l f n s)) (many (reader o) x (reads_part o most room l f n) k) (reads_row o most room l f is))
    (runs_then o (under 1 (reads_part o most room l f n s)) _ (In 1 inner Done) ts (tokens ts ++ more) more
    (runs_under o 1 (reads_part o most room l f n s) inner (tokens ts ++ more)
    (row_runs inner gi o chooses most room l f n fi (tokens ts ++ more) (and_left _ _ own) (rank_left (suc (of n).rank) (of_items of is).rank l r.ranked)
    (inner_enough o most room l f 1 (Many x n) is inner ts more refl r) behind_ (inner_remarks inner ts more r.remarks) s spelled_in))
    (λ u spelled_. gt o chooses most room l f x n is ft more (ready_turn o most room l f x n is inner ts more r) k less u spelled_))

-- a row's first tokens give fuel for the statements in it
abbrev pub first_lead : ℕ → ℕ
first_lead n = lead (row_items n)

-- a remark, or an image line, before nothing
free_item : (o : Origin) (i : Item) (t : Token) → is_remark_item i ≡ true → fits_token o i t ≡ true → is_remark t ≡ true
free_item o (Word c) (Coded d) h k = ap (λ (n : ℕ). n == word.REM || n == 37) (equal d c k) ∙ h
free_item o (Sign c code) (Coded d) h k = ap (λ (n : ℕ). n == word.REM || n == 37) (equal d c k) ∙ h
free_item o (Word c) (Plain j w) h k = cc
free_item o (Word c) (Short d) h k = cc
free_item o (Word c) (Lined x y) h k = cc
free_item o (Sign c code) (Plain j w) h k = cc
free_item o (Sign c code) (Short d) h k = cc
free_item o (Sign c code) (Lined x y) h k = cc
free_item o i t h k = cc

rest_closed : (more : List Token) → is_rest more ≡ true → is_closing more ≡ true → more ≡ []
rest_closed [] h k = refl
rest_closed (Coded c ∷ []) h k = cc
rest_closed (Plain j w ∷ []) h k = cc
rest_closed (Short c ∷ []) h k = cc
rest_closed (Lined x y ∷ []) h k = cc
rest_closed (t ∷ u ∷ ts) h k = cc

no_text : (o : Origin) (code : ℕ) (s : Text) → s ≡ [] → read_leaf o leaf.Text code s ≡ Ok (Done, [])
unfolding read_leaf
no_text o code s h = ap (text_to_end code) h

text_runs : (o : Origin) (most room l f code : ℕ) (t : Trees) (more : List Token) (s : Text) → Fits o most most (Typed leaf.Text code ∷ []) t → is_rest (tokens t ++ more) ≡ true → is_closing more ≡ true
    → Spells o (tokens t ++ more) s → Runs o (reads_row o most room l f (Typed leaf.Text code ∷ []) s) t more
unfolding items item
text_runs o most room l f code Done more s fits rest closed spelled =
    let none : more ≡ [] = rest_closed more rest closed in
    let P : List Token → Type 0 = λ ts. Spells o ts s in
    let Q : List Token → Type 0 = λ ts. Spells o ts [] in
    ([], (ap (λ (r : Outcome). and_then r (reads_row o most room l f [])) (no_text o code s (subst P none spelled)), subst Q (sym none) refl))
text_runs o most room l f code (Put t Done) more s fits rest closed spelled =
    next_runs o most room l f (Typed leaf.Text code) [] (Put t Done) Done more more s
    (put_runs o most room l f (Typed leaf.Text code) t more s fits.0 spelled) (λ u spelled_. (u, (refl, spelled_)))
text_runs o most room l f code (Put t (Put u ts)) more s fits rest closed spelled = absurd fits.1
text_runs o most room l f code (Put t (In m inner ts)) more s fits rest closed spelled = absurd fits.1
text_runs o most room l f code (In m inner ts) more s fits rest closed spelled = absurd fits

text_shape : (is : List Item) → is_text is ≡ true → (code : ℕ) × (is ≡ Typed leaf.Text code ∷ [])
text_shape (Typed leaf.Text code ∷ []) h = (code, refl)
text_shape is h = cc

free_put : (o : Origin) (most room l f : ℕ) (i : Item) (is : List Item) (t : Token) (ts : Trees) (more : List Token) (s : Text) → is_remark_item i ≡ true → is_text is ≡ true
    → fits_token o i t ≡ true → Fits o most most is ts → (is_remark t ≡ true → is_rest (tokens ts ++ more) ≡ true) → is_closing more ≡ true
    → Spells o (t ∷ (tokens ts ++ more)) s → Runs o (reads_row o most room l f (i ∷ is) s) (Put t ts) more
free_put o most room l f i is t ts more s remark text fits_t fits remarks closed spelled =
    let shape = text_shape is text in
    let P : List Item → Type 0 = λ js. Fits o most most js ts → Runs o (reads_row o most room l f (i ∷ js) s) (Put t ts) more in
    subst P (sym shape.1)
    (λ fits_. next_runs o most room l f i (Typed leaf.Text shape.0 ∷ []) (Put t Done) ts (tokens ts ++ more) more s (put_runs o most room l f i t (tokens ts ++ more) s fits_t spelled)
    (λ u spelled_. text_runs o most room l f shape.0 ts more u fits_ (remarks (free_item o i t remark fits_t)) closed spelled_)) fits

free_giving : (i : Item) (is : List Item) → is_remark_item i ≡ true → giving (i ∷ is) ≡ i ∷ is
free_giving (Word c) is h = refl
free_giving (Sign c code) is h = refl
free_giving i is h = cc

no_branch : (o : Origin) (most room m : ℕ) (i : Item) (is : List Item) (below : ℕ → List Item → Type 0) (rest : List Item → Type 0) → is_remark_item i ≡ true → FitsBranch o most room i is m below rest → ⊥
no_branch o most room m (Word c) is below rest h fits = fits
no_branch o most room m (Sign c code) is below rest h fits = fits
no_branch o most room m i is below rest h fits = cc

no_end : (i : Item) (is : List Item) → is_remark_item i ≡ true → may_end (i ∷ is) ≡ true → ⊥
no_end (Word c) is h k = cc
no_end (Sign c code) is h k = cc
no_end i is h k = cc

-- a remark is read
pub free_runs : (o : Origin) (most room l f : ℕ) (is : List Item) (t : Trees) (more : List Token) (s : Text) → is_free_row is ≡ true → Fits o most most is t → RemarksEnd (tokens t ++ more) → is_closing more ≡ true
    → Spells o (tokens t ++ more) s → Runs o (reads_row o most room l f is s) t more
free_runs o most room l f [] t more s free fits remarks closed spelled = cc
free_runs o most room l f (i ∷ is) Done more s free fits remarks closed spelled = absurd (no_end i is (and_left _ _ free) fits)
free_runs o most room l f (i ∷ is) (Put t ts) more s free fits remarks closed spelled =
    let P : List Item → Type 0 = λ js. FitsPut o js t (λ (rest : List Item). Fits o most most rest ts) in
    let there : P (i ∷ is) = subst P (free_giving i is (and_left _ _ free)) fits in
    free_put o most room l f i is t ts more s (and_left _ _ free) (and_right (is_remark_item i) _ free) there.0 there.1 remarks.0 closed spelled
free_runs o most room l f (i ∷ is) (In m inner ts) more s free fits remarks closed spelled =
    let P : List Item → Type 0 = λ js. FitsIn o most most js m (λ (deep : ℕ) (items : List Item). Fits o most deep items inner) (λ (rest : List Item). Fits o most most rest ts) in
    let there : P (i ∷ is) = subst P (free_giving i is (and_left _ _ free)) fits in
    absurd (no_branch o most most m i is (λ (deep : ℕ) (items : List Item). Fits o most deep items inner) (λ (rest : List Item). Fits o most most rest ts) (and_left _ _ free) there)
