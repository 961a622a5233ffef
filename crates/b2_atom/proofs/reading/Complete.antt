-- A tree that fits is read from each text that spells its tokens.
use Rattle.std.proofs.Common.{◌≡◌, ℕ, suc, ◌+◌, ◌≤◌, ◌==◌, ◌&&◌, not, nat_le, Bool, true, false, if◌then◌else◌, List, [], ◌∷◌, ◌++◌, length, refl, sym, ap, subst, ◌∙◌, arith, append_assoc, inl, inr, Ok, Err}
use Rattle.std.proofs.lemmas.Bool.Decides.{nat_tests}
use Rattle.b2_atom.specs.Words.{Text, skipped, ahead}
use Rattle.b2_atom.specs.Tokens.{Token}
use Rattle.b2_atom.specs.Tokens.Token.{Coded, Short, Plain, Lined}
use Rattle.b2_atom.specs.Tree.{Trees, tokens, Outcome, Parser, one, preceded, and_then, under, also}
use Rattle.b2_atom.specs.Tree.Trees.{Done, Put, In}
use Rattle.b2_atom.specs.Leaves.{refused}
use Rattle.b2_atom.specs.Grammar.{reader, items, item, level, deep, statement_within, row_items, starts, symbol, symbol_at, among, among_at, program_word, short_word, optional_comma, optional_comma_at, read_leaf, ignored, end_of_line, end_at, is_among}
use Rattle.b2_atom.specs.Spelling.{Spells}
use Rattle.b2_atom.specs.Fitting.{giving, may_end, fits_token, leaf_number, RemarksEnd}
use Rattle.b2_atom.specs.declared.words.Origin.{Origin}
use Rattle.b2_atom.specs.declared.words.Origin.TheVariants as origin
use Rattle.b2_atom.specs.declared.forms.Leaf.{Leaf}
use Rattle.b2_atom.specs.declared.forms.Leaf.TheVariants as leaf
use Rattle.b2_atom.specs.declared.forms.Start.TheVariants as start
use Rattle.b2_atom.specs.declared.forms.Position.{Position}
use Rattle.b2_atom.specs.declared.forms.Item.{Item}
use Rattle.b2_atom.specs.declared.forms.Item.TheVariants.{Word, Sign, Among, ProgramWord, Ignored, ShortWord, Comma, LeftOut, End, Typed, Part, Maybe, Either, Many, Nest, Statement}
use Rattle.b2_atom.proofs.Booleans.{and_left, and_right, or_cases, never, equal, not_true}
use Rattle.b2_atom.proofs.settled.Lookaheads.{Tail, Known, when, of_item, of_items, of, refuse, settled, is_symbol_item, is_last, is_free_row, of_row}
use Rattle.b2_atom.proofs.settled.LookaheadAnswers.{same_leaf}
use Rattle.b2_atom.proofs.settled.Computed.{row_settled}
use Rattle.b2_atom.proofs.settled.Heads.{known, Refused, refused_left, refused_right, refused_lookaheads, Led, may_end_empty, led_giving}

-- a reading that gives a tree, and leaves a text that spells some tokens
abbrev pub Runs : Origin → Outcome → Trees → List Token → Type 0
Runs o out t more = (rest : Text) × ((out ≡ Ok (t, rest)) × Spells o more rest)

pub runs_then : (o : Origin) (out : Outcome) (q : Parser Text) (a b : Trees) (mid more : List Token) → Runs o out a mid → ((u : Text) → Spells o mid u → Runs o (q u) b more)
    → Runs o (and_then out q) (also a b) more
runs_then o out q a b mid more h k =
    let next = k h.0 h.1.1 in
    (next.0, (ap (λ (r : Outcome). and_then r q) h.1.0 ∙ ap (preceded a) next.1.0, next.1.1))

pub runs_under : (o : Origin) (n : ℕ) (out : Outcome) (t : Trees) (more : List Token) → Runs o out t more → Runs o (under n out) (In n t Done) more
runs_under o n out t more h = (h.0, (ap (under n) h.1.0, h.1.1))

pub runs_is : (o : Origin) (out other : Outcome) (t : Trees) (more : List Token) → out ≡ other → Runs o other t more → Runs o out t more
runs_is o out other t more same h = (h.0, (same ∙ h.1.0, h.1.1))

pub if_is : (b c : Bool) (x y : Outcome) → b ≡ c → (if b then x else y) ≡ (if c then x else y)
if_is b c x y h = ap (λ (d : Bool). if d then x else y) h

-- a word or a sign
coded : (o : Origin) (c d code : ℕ) (ts : List Token) (s : Text) → (d == c) ≡ true → Spells o (Coded d ∷ ts) s → Runs o (symbol_at o c code (skipped o s)) (Put (Coded d) Done) ts
coded o c d code ts s h spelled =
    let there : ahead o (skipped o s) ≡ (d, spelled.0) = spelled.1.0.reads in
    let P : Trees → Type 0 = λ t. Runs o (symbol_at o c code (skipped o s)) t ts in
    subst P (ap (λ (n : ℕ). Put (Coded n) Done) (sym (equal d c h)))
    (spelled.0, (ap (λ (x : ℕ × Text). if x.0 == c then one (Coded c) x.1 else Err (refused o code (skipped o s))) there ∙ if_is (d == c) true _ _ h, spelled.1.1))

coded_among : (o : Origin) (a b d code : ℕ) (ts : List Token) (s : Text) → is_among a b d ≡ true → Spells o (Coded d ∷ ts) s → Runs o (among_at o a b code (skipped o s)) (Put (Coded d) Done) ts
coded_among o a b d code ts s h spelled =
    let there : ahead o (skipped o s) ≡ (d, spelled.0) = spelled.1.0.reads in
    (spelled.0, (ap (λ (x : ℕ × Text). if is_among a b x.0 then one (Coded x.0) x.1 else Err (refused o code (skipped o s))) there ∙ if_is (is_among a b d) true _ _ h, spelled.1.1))

coded_comma : (o : Origin) (d : ℕ) (ts : List Token) (s : Text) → (d == 44) ≡ true → Spells o (Coded d ∷ ts) s → Runs o (optional_comma_at o s (skipped o s)) (Put (Coded d) Done) ts
coded_comma o d ts s h spelled =
    let there : ahead o (skipped o s) ≡ (d, spelled.0) = spelled.1.0.reads in
    let P : Trees → Type 0 = λ t. Runs o (optional_comma_at o s (skipped o s)) t ts in
    let other : Outcome = optional_comma_at o s (skipped o s) in
    subst P (ap (λ (n : ℕ). Put (Coded n) Done) (sym (equal d 44 h)))
    (spelled.0, (if_is ((ahead o (skipped o s)).0 == 44) true _ _ (ap (λ (x : ℕ × Text). x.0 == 44) there ∙ h) ∙ ap (λ (x : ℕ × Text). one (Coded 44) x.1) there, spelled.1.1))

-- a short word
short_runs : (o : Origin) (c d : ℕ) (ts : List Token) (s : Text) → (d == c) ≡ true → Spells o (Short d ∷ ts) s → Runs o (short_word o c s) (Put (Short d) Done) ts
short_runs o c d ts s h spelled = (spelled.0, (ap (λ (n : ℕ). short_word o n s) (sym (equal d c h)) ∙ spelled.1.0.reads, spelled.1.1))

-- what is typed by hand
plain_leaf : (o : Origin) (k j : Leaf) (w : Text) (code : ℕ) (ts : List Token) (s : Text) → (leaf_number j == leaf_number k) ≡ true → Spells o (Plain j w ∷ ts) s
    → Runs o (read_leaf o k code s) (Put (Plain j w) Done) ts
plain_leaf o k j w code ts s h spelled =
    let same : j ≡ k = same_leaf k j h in
    let there : read_leaf o j code s ≡ one (Plain j w) spelled.0 = spelled.1.0.reads code in
    (spelled.0, (ap (λ (l : Leaf). read_leaf o l code s) (sym same) ∙ there, spelled.1.1))

lined_leaf : (o : Origin) (k : Leaf) (x y code : ℕ) (ts : List Token) (s : Text) → (leaf_number k == 7) ≡ true → Spells o (Lined x y ∷ ts) s
    → Runs o (read_leaf o k code s) (Put (Lined x y) Done) ts
lined_leaf o k x y code ts s h spelled =
    let same : k ≡ leaf.LineNumber = same_leaf leaf.LineNumber k h in
    let there : read_leaf o leaf.LineNumber code s ≡ one (Lined x y) spelled.0 = spelled.1.0.reads code in
    (spelled.0, (ap (λ (l : Leaf). read_leaf o l code s) same ∙ there, spelled.1.1))

-- a token is read by its item
pub token_runs : (st : Position → Parser Text) (d p : ℕ → Parser Text) (o : Origin) (i : Item) (t : Token) (ts : List Token) (s : Text) → fits_token o i t ≡ true → Spells o (t ∷ ts) s
    → Runs o (item st d p (reader o) i s) (Put t Done) ts
unfolding item symbol among program_word optional_comma
token_runs st dp p o (Word c) (Coded d) ts s h spelled = coded o c d 22 ts s h spelled
token_runs st dp p o (Sign c code) (Coded d) ts s h spelled = coded o c d code ts s h spelled
token_runs st dp p o (Among a b code) (Coded d) ts s h spelled = coded_among o a b d code ts s h spelled
token_runs st dp p origin.Immediate (ProgramWord c) (Coded d) ts s h spelled = cc
token_runs st dp p origin.Program (ProgramWord c) (Coded d) ts s h spelled = coded origin.Program c d 22 ts s h spelled
token_runs st dp p origin.Atoms (ProgramWord c) (Coded d) ts s h spelled = coded origin.Atoms c d 22 ts s h spelled
token_runs st dp p o (ShortWord c) (Short d) ts s h spelled = short_runs o c d ts s (and_left _ _ h) spelled
token_runs st dp p o Comma (Coded d) ts s h spelled = coded_comma o d ts s h spelled
token_runs st dp p o (Typed k code) (Plain j w) ts s h spelled = plain_leaf o k j w code ts s (and_left _ _ h) spelled
token_runs st dp p o (Typed k code) (Lined x y) ts s h spelled = lined_leaf o k x y code ts s (and_left _ _ h) spelled
token_runs st dp p o (Typed k code) (Coded d) ts s h spelled = cc
token_runs st dp p o (Typed k code) (Short d) ts s h spelled = cc
token_runs st dp p o (Word c) t ts s h spelled = cc
token_runs st dp p o (Sign c code) t ts s h spelled = cc
token_runs st dp p o (Among a b code) t ts s h spelled = cc
token_runs st dp p o (ProgramWord c) t ts s h spelled = cc
token_runs st dp p o (Ignored c) t ts s h spelled = cc
token_runs st dp p o (ShortWord c) t ts s h spelled = cc
token_runs st dp p o Comma t ts s h spelled = cc
token_runs st dp p o LeftOut t ts s h spelled = cc
token_runs st dp p o End t ts s h spelled = cc
token_runs st dp p o (Part n) t ts s h spelled = cc
token_runs st dp p o (Maybe x n) t ts s h spelled = cc
token_runs st dp p o (Either x n m) t ts s h spelled = cc
token_runs st dp p o (Many x n) t ts s h spelled = cc
token_runs st dp p o (Nest n) t ts s h spelled = cc
token_runs st dp p o (Statement x) t ts s h spelled = cc

-- the items of a row, where `most room` parentheses, l levels and f statements may still be in it
abbrev pub reads_row : Origin → ℕ → ℕ → ℕ → ℕ → List Item → Parser Text
reads_row o most room l f is =
    items (statement_within most (reader o) f) (deep (reader o) (statement_within most (reader o) f) room) (level (reader o) (statement_within most (reader o) f) (deep (reader o) (statement_within most (reader o) f) room) l) (reader o) is

abbrev pub reads_item : Origin → ℕ → ℕ → ℕ → ℕ → Item → Parser Text
reads_item o most room l f i =
    item (statement_within most (reader o) f) (deep (reader o) (statement_within most (reader o) f) room) (level (reader o) (statement_within most (reader o) f) (deep (reader o) (statement_within most (reader o) f) room) l) (reader o) i

-- a statement's word or sign counts where fuel is needed for the statements after it
abbrev pub lead : List Item → ℕ
lead [] = 0
lead (i ∷ is) = if is_symbol_item i then 1 else 0

-- what is known where items are read
pub record Ready (o : Origin) (most room l f : ℕ) (is : List Item) (t : Trees) (more : List Token) : Type 0 where
  pub settles : settled of is ≡ true
  pub ranked : (of_items of is).rank ≤ l
  pub enough : (of_items of is).plain ≡ false → length (tokens t) ≤ lead is + f
  pub refuses : Refused o (of_items of is).tails more
  pub remarks : RemarksEnd (tokens t ++ more)

when_true : (b : Bool) (xs : List Tail) (ys : List Tail) (o : Origin) (more : List Token) → b ≡ true → Refused o (when b xs ++ ys) more → Refused o xs more
when_true true xs ys o more h k = refused_left o xs ys more k
when_true false xs ys o more h k = cc

-- what follows an item refuses what it must
pub behind : (o : Origin) (i : Item) (is : List Item) (xs more : List Token) → Led (of_items of is) xs more → refuse (of_item of i).tails (of_items of is).heads ≡ true
    → Refused o (of_items of (i ∷ is)).tails more → Refused o (of_item of i).tails (xs ++ more)
behind o i is xs more (inl h) test refused =
    let P : List Token → Type 0 = λ l. Refused o (of_item of i).tails (l ++ more) in
    subst P (sym h.0) (when_true (of_items of is).empty (of_item of i).tails (of_items of is).tails o more h.1 refused)
behind o i is xs more (inr h) test refused = refused_lookaheads o (of_item of i).tails (of_items of is).heads (xs ++ more) test h

pub rank_left : (a b n : ℕ) → (if nat_le a b then b else a) ≤ n → a ≤ n
rank_left a b n h = grind (arith, nat_tests)

rank_right : (a b n : ℕ) → (if nat_le a b then b else a) ≤ n → b ≤ n
rank_right a b n h = grind (arith, nat_tests)

pub remarks_right : (xs ys : List Token) → RemarksEnd (xs ++ ys) → RemarksEnd ys
remarks_right [] ys h = h
remarks_right (x ∷ xs) ys h = remarks_right xs ys h.1

-- one item and then the others
pub next_runs : (o : Origin) (most room l f : ℕ) (i : Item) (is : List Item) (a b : Trees) (mid more : List Token) (s : Text) → Runs o (reads_item o most room l f i s) a mid
    → ((u : Text) → Spells o mid u → Runs o (reads_row o most room l f is u) b more) → Runs o (reads_row o most room l f (i ∷ is) s) (also a b) more
unfolding items
next_runs o most room l f i is a b mid more s h k = runs_then o (reads_item o most room l f i s) (reads_row o most room l f is) a b mid more h k

-- no token where none is given
pub ignored_runs : (o : Origin) (most room l f c : ℕ) (more : List Token) (s : Text) → starts o (start.Code c) s ≡ false → Spells o more s → Runs o (reads_item o most room l f (Ignored c) s) Done more
unfolding item ignored starts
ignored_runs origin.Program most room l f c more s h spelled = (s, (if_is ((ahead origin.Program (skipped origin.Program s)).0 == c) false _ _ h, spelled))
ignored_runs origin.Immediate most room l f c more s h spelled = (s, (if_is ((ahead origin.Immediate (skipped origin.Immediate s)).0 == c) false _ _ h, spelled))
ignored_runs origin.Atoms most room l f c more s h spelled = (s, (refl, spelled))

end_there : (o : Origin) → end_at o (skipped o []) ≡ Ok (Done, [])
end_there origin.Program = refl
end_there origin.Immediate = refl
end_there origin.Atoms = refl

pub end_runs : (o : Origin) (most room l f : ℕ) (more : List Token) (s : Text) → more ≡ [] → Spells o more s → Runs o (reads_item o most room l f End s) Done more
unfolding item end_of_line
end_runs o most room l f more s none spelled =
    let P : List Token → Type 0 = λ ts. Spells o ts s in
    let Q : List Token → Type 0 = λ ts. Spells o ts [] in
    let is : s ≡ [] = subst P none spelled in
    ([], (ap (λ (u : Text). end_at o (skipped o u)) is ∙ end_there o, subst Q (sym none) refl))

-- items that give nothing
pub done_runs : (o : Origin) (most room l f : ℕ) (is : List Item) (more : List Token) → may_end is ≡ true → settled of is ≡ true → Refused o (of_items of is).tails more
    → (s : Text) → Spells o more s → Runs o (reads_row o most room l f is s) Done more
unfolding items
done_runs o most room l f [] more h ok refused s spelled = (s, (refl, spelled))
done_runs o most room l f (Ignored c ∷ is) more h ok refused s spelled =
    let asked = when_true (of_items of is).empty (of_item of (Ignored c)).tails (of_items of is).tails o more (may_end_empty is h) refused in
    next_runs o most room l f (Ignored c) is Done Done more more s (ignored_runs o most room l f c more s (asked.0 s spelled) spelled)
    (done_runs o most room l f is more h (and_right (refuse (of_item of (Ignored c)).tails (of_items of is).heads) _ ok) (refused_right o (when (of_items of is).empty (of_item of (Ignored c)).tails) _ more refused))
done_runs o most room l f (End ∷ is) more h ok refused s spelled =
    let asked = when_true (of_items of is).empty (of_item of End).tails (of_items of is).tails o more (may_end_empty is h) refused in
    next_runs o most room l f End is Done Done more more s (end_runs o most room l f more s asked.0 spelled)
    (done_runs o most room l f is more h (and_right (refuse (of_item of End).tails (of_items of is).heads) _ (and_right (is_last is) _ ok)) (refused_right o (when (of_items of is).empty (of_item of End).tails) _ more refused))
done_runs o most room l f (Typed leaf.Text code ∷ is) more h ok refused s spelled = cc
done_runs o most room l f (i ∷ is) more h ok refused s spelled = cc

pub length_append : (xs ys : List Token) → length (xs ++ ys) ≡ length xs + length ys
length_append [] ys = omega arith
length_append (x ∷ xs) ys = let more = length_append xs ys in omega arith

and_false : (a b : Bool) → b ≡ false → (a && b) ≡ false
and_false true b h = h
and_false false b h = refl

and_first : (a b : Bool) → a ≡ false → (a && b) ≡ false
and_first true b h = cc
and_first false b h = refl

less_behind : (b : Bool) (n m f : ℕ) → b ≡ false → n ≤ (if b then 1 else 0) + f → n ≤ m + f
less_behind true n m f h e = cc
less_behind false n m f h e = omega (arith, e)

less_in : (b : Bool) (a c n m f : ℕ) → b ≡ false → n ≡ a + c → n ≤ (if b then 1 else 0) + f → c ≤ m + f
less_in true a c n m f h is e = cc
less_in false a c n m f h is e = omega (arith, e, is)

-- after the items that give nothing
ready_behind : (o : Origin) (most room l f : ℕ) (i : Item) (is : List Item) (t : Trees) (more : List Token) → is_symbol_item i ≡ false → (tests : settled of is ≡ true) → Ready o most room l f (i ∷ is) t more → Ready o most room l f is t more
ready_behind o most room l f i is t more led_by_none tests r = record {
  settles = tests;
  ranked = rank_right (of_item of i).rank (of_items of is).rank l r.ranked;
  enough = λ h. let e = r.enough (and_false (of_item of i).plain (of_items of is).plain h) in
      less_behind (is_symbol_item i) (length (tokens t)) (lead is) f led_by_none e;
  refuses = refused_right o (when (of_items of is).empty (of_item of i).tails) _ more r.refuses;
  remarks = r.remarks;
}

abbrev pub RunsFrom : Origin → ℕ → ℕ → ℕ → ℕ → List Item → Trees → List Token → Type 0
RunsFrom o most room l f is t more = Ready o most room l f is t more → (s : Text) → Spells o (tokens t ++ more) s → Runs o (reads_row o most room l f is s) t more

led_from : (is : List Item) (t : Trees) (more : List Token) → Led (of_items of (giving is)) (tokens t) more → Led (of_items of is) (tokens t) more
led_from is t more h = led_giving is (tokens t) more h

pub by_giving : (o : Origin) (most room l f : ℕ) (is : List Item) (t : Trees) (more : List Token) → Led (of_items of (giving is)) (tokens t) more → is_last (giving is) ≡ false
    → RunsFrom o most room l f (giving is) t more → RunsFrom o most room l f is t more
by_giving o most room l f [] t more led some_item run ready s spelled = cc
by_giving o most room l f (Ignored c ∷ is) t more led some_item run ready s spelled =
    let refuses_ = behind o (Ignored c) is (tokens t) more (led_from is t more led) (and_left _ _ ready.settles) ready.refuses in
    let ready_ = ready_behind o most room l f (Ignored c) is t more refl (and_right (refuse (of_item of (Ignored c)).tails (of_items of is).heads) _ ready.settles) ready in
    next_runs o most room l f (Ignored c) is Done t (tokens t ++ more) more s (ignored_runs o most room l f c (tokens t ++ more) s (refuses_.0 s spelled) spelled)
    (λ u spelled_. by_giving o most room l f is t more led some_item run ready_ u spelled_)
by_giving o most room l f (End ∷ []) t more led some_item run ready s spelled = cc
by_giving o most room l f (End ∷ i ∷ is) t more led some_item run ready s spelled = cc
by_giving o most room l f (i ∷ is) t more led some_item run ready s spelled = run ready s spelled

put_enough : (b : Bool) (n m f : ℕ) → suc n ≤ (if b then 1 else 0) + f → n ≤ m + f
put_enough true n m f h = omega (arith, h)
put_enough false n m f h = omega (arith, h)

-- what a token's item leaves to the items after it
pub ready_put : (o : Origin) (most room l f : ℕ) (i : Item) (is : List Item) (t : Token) (ts : Trees) (more : List Token) → settled of is ≡ true
    → Ready o most room l f (i ∷ is) (Put t ts) more → Ready o most room l f is ts more
ready_put o most room l f i is t ts more tests r = record {
  settles = tests;
  ranked = rank_right (of_item of i).rank (of_items of is).rank l r.ranked;
  enough = λ h. let e = r.enough (and_false (of_item of i).plain (of_items of is).plain h) in put_enough (is_symbol_item i) (length (tokens ts)) (lead is) f e;
  refuses = refused_right o (when (of_items of is).empty (of_item of i).tails) _ more r.refuses;
  remarks = r.remarks.1;
}

-- and what a branch leaves to them
pub ready_in : (o : Origin) (most room l f m : ℕ) (i : Item) (is : List Item) (inner ts : Trees) (more : List Token) → is_symbol_item i ≡ false → settled of is ≡ true
    → Ready o most room l f (i ∷ is) (In m inner ts) more → Ready o most room l f is ts more
ready_in o most room l f m i is inner ts more led_by_none tests r = record {
  settles = tests;
  ranked = rank_right (of_item of i).rank (of_items of is).rank l r.ranked;
  enough = λ h. let e = r.enough (and_false (of_item of i).plain (of_items of is).plain h) in
      let n = length_append (tokens inner) (tokens ts) in
      less_in (is_symbol_item i) (length (tokens inner)) (length (tokens ts)) (length (tokens inner ++ tokens ts)) (lead is) f led_by_none n e;
  refuses = refused_right o (when (of_items of is).empty (of_item of i).tails) _ more r.refuses;
  remarks = (let P : List Token → Type 0 = λ l. RemarksEnd l in remarks_right (tokens inner) (tokens ts ++ more) (subst P (append_assoc (tokens inner) (tokens ts) more) r.remarks));
}

pub bound_row : (n : ℕ) → not (is_free_row (row_items n)) ≡ true → settled of (row_items n) ≡ true
bound_row n h = elim (or_cases (is_free_row (row_items n)) (settled of (row_items n)) (and_right (nat_le (of_items (of_row 39) (row_items n)).rank 39) _ (row_settled n))) [
  | inl g ↦ never (is_free_row (row_items n)) g (not_true _ h)
  | inr g ↦ g
]

-- what is known where a row is read inside an item
pub ready_row : (o : Origin) (most room l f n : ℕ) (inner : Trees) (more : List Token) → not (is_free_row (row_items n)) ≡ true → (of n).rank ≤ l
    → ((of n).plain ≡ false → length (tokens inner) ≤ f) → Refused o (of n).tails more → RemarksEnd (tokens inner ++ more) → Ready o most room l f (row_items n) inner more
ready_row o most room l f n inner more bound rank_is enough_is refuses_ remarks_ = record {
  settles = bound_row n bound;
  ranked = (let P : Known → Type 0 = λ k. k.rank ≤ l in subst P (sym (known n)) rank_is);
  enough = λ h. let e = enough_is (ap (λ (k : Known). k.plain) (sym (known n)) ∙ h) in omega (arith, e);
  refuses = (let P : Known → Type 0 = λ k. Refused o k.tails more in subst P (sym (known n)) refuses_);
  remarks = remarks_;
}

pub put_runs : (o : Origin) (most room l f : ℕ) (i : Item) (t : Token) (ts : List Token) (s : Text) → fits_token o i t ≡ true → Spells o (t ∷ ts) s → Runs o (reads_item o most room l f i s) (Put t Done) ts
put_runs o most room l f i t ts s fits spelled =
    token_runs (statement_within most (reader o) f) (deep (reader o) (statement_within most (reader o) f) room) (level (reader o) (statement_within most (reader o) f) (deep (reader o) (statement_within most (reader o) f) room) l) o i t ts s fits spelled
