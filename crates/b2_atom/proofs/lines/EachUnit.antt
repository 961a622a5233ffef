-- The units of a line are those of its tree, and each is one statement by itself.
use Rattle.std.proofs.Common.{◌≡◌, ℕ, zero, suc, ◌-◌, ◌==◌, if◌then◌else◌, true, false, List, [], ◌∷◌, ◌++◌, length, take, refl, sym, ap, subst, ◌∙◌, arith, append-nil, inl, inr, ◌≤◌, map, Ok, is_ok}
use Rattle.std.proofs.lemmas.List.{length-append}
use Rattle.std.proofs.lemmas.List.Elements.{All-nil, All-cons, All-head, All-tail}
use Rattle.std.proofs.Math.Seq.{take-append_seam}
use Rattle.std.specs.List.{All}
use Rattle.b2_base.specs.Lexical.{first}
use Rattle.b2_atom.specs.Words.{Text}
use Rattle.b2_atom.specs.Tokens.{Token}
use Rattle.b2_atom.specs.Tokens.Token.{Coded, Short, Plain, Lined}
use Rattle.b2_atom.specs.Tree.{Trees, Outcome, atoms, tokens}
use Rattle.b2_atom.specs.Tree.Trees.{Done, Put, In}
use Rattle.b2_atom.specs.Grammar.{reader, statement, statement_within, statement_row, row_items, starts}
use Rattle.b2_atom.specs.Lines.{LineUnit, leading_unit, units_from, units_after, after_unit, left_after, units_of}
use Rattle.b2_atom.specs.Spelling.{Spells, atoms_of_tokens}
use Rattle.b2_atom.specs.Fitting.{Fits, is_statement}
use Rattle.b2_atom.specs.Units.{TreeUnit, own, units_in, units_on, unit_atoms}
use Rattle.b2_atom.specs.Laws.{IsTree, IsStatement, EachUnitIsAStatement, IsReadAlone, EachTreeIsCutIntoUnits}
use Rattle.b2_atom.specs.Table.{forms}
use Rattle.b2_atom.specs.declared.rows.TheConstants as row
use Rattle.b2_atom.specs.declared.words.Origin.TheVariants.{Atoms}
use Rattle.b2_atom.specs.declared.forms.Start.TheVariants as start
use Rattle.b2_atom.specs.declared.forms.Position.{Position}
use Rattle.b2_atom.specs.declared.forms.Position.TheVariants as position
use Rattle.b2_atom.specs.declared.forms.Item.{Item}
use Rattle.b2_atom.specs.declared.forms.Item.TheVariants.{Sign, Many, End, Statement}
use Rattle.b2_atom.proofs.Booleans.{never}
use Rattle.b2_atom.proofs.reading.Sound.{Takes, takes_statement}
use Rattle.b2_atom.proofs.settled.Lookaheads.{some, Lookahead, is_ahead, statement_heads}
use Rattle.b2_atom.proofs.settled.LookaheadAnswers.{answers}
use Rattle.b2_atom.proofs.settled.Heads.{is_closing}
use Rattle.b2_atom.proofs.settled.Beside.{good_tree}
use Rattle.b2_atom.proofs.reading.FittedLines.{further_is, line_is}
use Rattle.b2_atom.proofs.reading.Branches.{done_of}
use Rattle.b2_atom.proofs.spelling.SpellsAtoms.{spells_atoms}
use Rattle.b2_atom.proofs.lines.LineLaws.{spells_tree, tree_atoms, append_atoms}
use Rattle.b2_atom.proofs.lines.OneUnit.{Stand, stand_behind, UnitRead, FirstUnit, Next, first_unit}

-- a unit's bytes are what was read
front_taken : (a b : Text) → take (length (a ++ b) - length b) (a ++ b) ≡ a
front_taken a b =
    let both = length-append a b in
    let less : length (a ++ b) - length b ≡ length a = omega (arith, both) in
    ap (λ (n : ℕ). take n (a ++ b)) less ∙ take-append_seam a b

behind_read : (p : Position) (m : ℕ) (t : Trees) (xs more : List Token) → UnitRead p m t xs more → after_unit p (atoms_of_tokens (xs ++ more)) ≡ atoms_of_tokens more
unfolding after_unit
behind_read p m t xs more h = ap left_after h.here

unit_bytes : (p : Position) (m : ℕ) (t : Trees) (xs more : List Token) → UnitRead p m t xs more → (leading_unit p (atoms_of_tokens (xs ++ more))).bytes ≡ atoms_of_tokens xs
unit_bytes p m t xs more h =
    ap (λ (rest : Text). take (length (atoms_of_tokens (xs ++ more)) - length rest) (atoms_of_tokens (xs ++ more))) (behind_read p m t xs more h)
    ∙ ap (λ (s : Text). take (length s - length (atoms_of_tokens more)) s) (append_atoms xs more)
    ∙ front_taken (atoms_of_tokens xs) (atoms_of_tokens more)

unit_atoms_are : (p : Position) (m : ℕ) (t : Trees) (xs more : List Token) → UnitRead p m t xs more → atoms t ≡ atoms_of_tokens xs
unit_atoms_are p m t xs more h =
    let takes : (atoms t ++ []) ++ [] ≡ atoms_of_tokens xs = subst (λ (o : Outcome). Takes (atoms_of_tokens xs) o) h.alone (takes_statement 1 p (atoms_of_tokens xs)) in
    sym (append-nil (atoms t)) ∙ sym (append-nil (atoms t ++ [])) ∙ takes

-- nothing is read as a statement of no bytes
none_there : (p : Position) → is_ok (statement (reader Atoms) 1 p []) ≡ false
unfolding statement_within statement_row starts
none_there p = refl

some_bytes : (p : Position) (t : Trees) (s rest : Text) → statement (reader Atoms) 1 p s ≡ Ok (t, rest) → 1 ≤ length s
some_bytes p t [] rest h = never (is_ok (statement (reader Atoms) 1 p [])) (ap is_ok h) (none_there p)
some_bytes p t (b ∷ s) rest h = omega arith

-- units of a line's bytes that are those of a tree
record Cut (us : List LineUnit) (vs : List TreeUnit) : Type 0 where
  units : us ≡ map unit_atoms vs
  alone : All IsReadAlone vs

cut_none : Cut [] []
cut_none = record { units = refl; alone = All-nil IsReadAlone }

cut_one : (p : Position) (m : ℕ) (t : Trees) (xs more : List Token) (us : List LineUnit) (vs : List TreeUnit) → UnitRead p m t xs more → Cut us vs
    → Cut (leading_unit p (atoms_of_tokens (xs ++ more)) ∷ us) (record { position = p; row = m; tree = t } ∷ vs)
cut_one p m t xs more us vs h cut = record {
  units = (λ i. record { position = p; bytes = (unit_bytes p m t xs more h ∙ sym (unit_atoms_are p m t xs more h)) i } ∷ cut.units i);
  alone = All-cons IsReadAlone (record { position = p; row = m; tree = t }) vs (ap (statement (reader Atoms) 1 p) (unit_atoms_are p m t xs more h) ∙ h.alone) cut.alone;
}

-- the items after a statement, and one of them
abbrev FurtherItems : List Item
FurtherItems = Many (start.Code 58) row.FURTHER_STATEMENT ∷ End ∷ []

abbrev FurtherRows : Trees → Type 0
FurtherRows ts = Fits Atoms 32 32 FurtherItems ts

abbrev FurtherRow : Trees → Type 0
FurtherRow q = Fits Atoms 32 32 (Sign 58 25 ∷ Statement position.Further ∷ []) q

-- the units from a statement on
abbrev units_from_it : Position → ℕ → Trees → Trees → List TreeUnit
units_from_it p m t ts = record { position = p; row = m; tree = own (row_items m) t } ∷ (units_in (row_items m) t ++ units_in FurtherItems ts)

-- what gives the units from where a statement stands, in at most n bytes
abbrev AllOf : ℕ → (Position → Text → List LineUnit) → Type 0
AllOf n f = (p : Position) (m : ℕ) (t ts : Trees) → is_statement forms Atoms p m ≡ true → Fits Atoms 32 32 (row_items m) t → FurtherRows ts
    → Stand (tokens t ++ tokens ts) → length (atoms_of_tokens (tokens t ++ tokens ts)) ≤ n → Cut (f p (atoms_of_tokens (tokens t ++ tokens ts))) (units_from_it p m t ts)

-- after a `:`
colon_next : (f : Position → Text → List LineUnit) (d : ℕ) (s : Text) → (d == 58) ≡ true → units_after f (d ∷ s) ≡ f position.Further s
colon_next f d s h = (λ i. f (if h i then position.Further else position.Following) (if h i then s else d ∷ s))

-- where a statement follows
following_next : (f : Position → Text → List LineUnit) (b : ℕ) (s : Text) → (b == 58) ≡ false → units_after f (b ∷ s) ≡ f position.Following (b ∷ s)
following_next f b s h = (λ i. f (if h i then position.Further else position.Following) (if h i then s else b ∷ s))

further_bytes : (n d : ℕ) (s : Text) → length (d ∷ s) ≤ n → length s ≤ n
further_bytes n d s h = omega (arith, h)

further_units : (n : ℕ) (f : Position → Text → List LineUnit) → AllOf n f → (q ts : Trees) → FurtherRow q → FurtherRows ts
    → Stand (tokens q ++ tokens ts) → length (atoms_of_tokens (tokens q ++ tokens ts)) ≤ n
    → Cut (units_after f (atoms_of_tokens (tokens q ++ tokens ts))) (units_in (Sign 58 25 ∷ Statement position.Further ∷ []) q ++ units_in FurtherItems ts)
further_units n f all (Put (Coded d) (In m t Done)) ts fits more st few =
    let same : (tokens t ++ []) ++ tokens ts ≡ tokens t ++ tokens ts = ap (λ (l : List Token). l ++ tokens ts) (append-nil (tokens t)) in
    let st_ = subst (λ (l : List Token). Stand l) same (stand_behind (Coded d ∷ []) ((tokens t ++ []) ++ tokens ts) st) in
    let few_ = subst (λ (l : List Token). length (atoms_of_tokens l) ≤ n) same (further_bytes n d (atoms_of_tokens ((tokens t ++ []) ++ tokens ts)) few) in
    let vs : List TreeUnit = units_in (row_items m) t in
    subst (λ (us : List LineUnit). Cut us (record { position = position.Further; row = m; tree = own (row_items m) t } ∷ ((vs ++ []) ++ units_in FurtherItems ts)))
    (sym (colon_next f d (atoms_of_tokens ((tokens t ++ []) ++ tokens ts)) fits.0 ∙ ap (λ (l : List Token). f position.Further (atoms_of_tokens l)) same))
    (subst (λ (ws : List TreeUnit). Cut (f position.Further (atoms_of_tokens (tokens t ++ tokens ts))) (record { position = position.Further; row = m; tree = own (row_items m) t } ∷ (ws ++ units_in FurtherItems ts)))
    (sym (append-nil vs)) (all position.Further m t ts fits.1.0 fits.1.1.0 more st_ few_))
further_units n f all (Put (Coded d) (In m t (Put u us))) ts fits more st few = absurd fits.1.1.1
further_units n f all (Put (Coded d) (In m t (In k u us))) ts fits more st few = absurd fits.1.1.1
further_units n f all (Put (Coded d) (Put u us)) ts fits more st few = cc
further_units n f all (Put (Coded d) Done) ts fits more st few = cc
further_units n f all (Put (Plain k w) us) ts fits more st few = cc
further_units n f all (Put (Short d) us) ts fits more st few = cc
further_units n f all (Put (Lined h l) us) ts fits more st few = cc
further_units n f all (In m t us) ts fits more st few = absurd fits
further_units n f all Done ts fits more st few = cc

further_row : (q : Trees) → Fits Atoms 32 32 (row_items row.FURTHER_STATEMENT) q → FurtherRow q
further_row q fits = subst (λ (is : List Item). Fits Atoms 32 32 is q) further_is fits

-- the units after a statement
behind_units : (n : ℕ) (f : Position → Text → List LineUnit) → AllOf n f → (ts : Trees) → FurtherRows ts → Stand (tokens ts) → length (atoms_of_tokens (tokens ts)) ≤ n
    → Cut (units_after f (atoms_of_tokens (tokens ts))) (units_in FurtherItems ts)
behind_units n f all (In zero q Done) fits st few =
    let P : Trees → Type 0 = λ x. Cut (units_after f (atoms_of_tokens (tokens (In 0 x Done)))) (units_in FurtherItems (In 0 x Done)) in subst P (sym (done_of Atoms 32 32 q fits.0)) cut_none
behind_units n f all (In zero q (Put t ts)) fits st few = absurd fits.1
behind_units n f all (In zero q (In k t ts)) fits st few = absurd fits.1
behind_units n f all (In (suc zero) q ts) fits st few =
    subst (λ (is : List Item). Cut (units_after f (atoms_of_tokens (tokens q ++ tokens ts))) (units_in is q ++ units_in FurtherItems ts)) (sym further_is)
    (further_units n f all q ts (further_row q fits.0) fits.1 st few)
behind_units n f all (In (suc (suc k)) q ts) fits st few = absurd fits
behind_units n f all Done fits st few = cc
behind_units n f all (Put t ts) fits st few = cc

-- which begin with `:`
further_closes : (q ts : Trees) → FurtherRow q → is_closing (tokens q ++ tokens ts) ≡ true
further_closes (Put (Coded d) us) ts fits = fits.0
further_closes (Put (Plain k w) us) ts fits = cc
further_closes (Put (Short d) us) ts fits = cc
further_closes (Put (Lined h l) us) ts fits = cc
further_closes (In m t us) ts fits = absurd fits
further_closes Done ts fits = cc

rows_close : (ts : Trees) → FurtherRows ts → is_closing (tokens ts) ≡ true
rows_close (In zero q Done) fits = let P : Trees → Type 0 = λ x. is_closing (tokens (In 0 x Done)) ≡ true in subst P (sym (done_of Atoms 32 32 q fits.0)) refl
rows_close (In zero q (Put t ts)) fits = absurd fits.1
rows_close (In zero q (In n t ts)) fits = absurd fits.1
rows_close (In (suc zero) q ts) fits = further_closes q ts (further_row q fits.0)
rows_close (In (suc (suc k)) q ts) fits = absurd fits
rows_close Done fits = cc
rows_close (Put t ts) fits = cc

-- a statement that follows begins with no `:`
no_colon : (ts : List Token) (s : Text) → some (λ (f : Lookahead). is_ahead f ts) statement_heads ≡ true → Spells Atoms ts s → (first s == 58) ≡ false
unfolding starts
no_colon ts s heads spelled = answers Atoms (start.Code 58) statement_heads false ts s refl heads spelled

following_units : (f : Position → Text → List LineUnit) (s : Text) (vs : List TreeUnit) → (first s == 58) ≡ false → 1 ≤ length s → Cut (f position.Following s) vs → Cut (units_after f s) vs
following_units f [] vs h some_ cut = absurd (omega arith)
following_units f (b ∷ s) vs h some_ cut = subst (λ (us : List LineUnit). Cut us vs) (sym (following_next f b s h)) cut

next_units : (n : ℕ) (f : Position → Text → List LineUnit) → AllOf n f → (us : List TreeUnit) (ts : Trees) (here : List Token) → FurtherRows ts → Next us (tokens ts) here → Stand here
    → length (atoms_of_tokens here) ≤ n → Cut (units_after f (atoms_of_tokens here)) (us ++ units_in FurtherItems ts)
next_units n f all us ts here fits next st few =
    let s : Text = atoms_of_tokens here in
    let st_ = subst (λ (l : List Token). Stand l) next.same st in
    let one = first_unit position.Following next.row next.tree (tokens ts) next.stated next.fits (rows_close ts fits) st_ in
    let same_ : s ≡ atoms_of_tokens (one.front ++ one.behind) = ap atoms_of_tokens (next.same ∙ one.same) in
    let some_ = some_bytes position.Following _ s _ (ap (statement (reader Atoms) 1 position.Following) same_ ∙ one.read.here) in
    let vs : List TreeUnit = units_from_it position.Following next.row next.tree ts in
    subst (λ (ws : List TreeUnit). Cut (units_after f s) (ws ++ units_in FurtherItems ts)) (sym next.units)
    (following_units f s vs (no_colon here s next.heads (spells_atoms here st.good st.neighbours)) some_
    (subst (λ (l : List Token). Cut (f position.Following (atoms_of_tokens l)) vs) (sym next.same)
    (all position.Following next.row next.tree ts next.stated next.fits fits st_ (subst (λ (l : List Token). length (atoms_of_tokens l) ≤ n) next.same few))))

fewer : (n : ℕ) (xs ys : List Token) → 1 ≤ length (atoms_of_tokens xs) → length (atoms_of_tokens (xs ++ ys)) ≤ suc n → length (atoms_of_tokens ys) ≤ n
fewer n xs ys some_ few =
    let parts = ap (λ (l : Text). length l) (append_atoms xs ys) in
    let both = length-append (atoms_of_tokens xs) (atoms_of_tokens ys) in
    omega (arith, parts, both, some_, few)

-- all units from a statement on
units_from_one : (n : ℕ) (f : Position → Text → List LineUnit) → AllOf n f → (p : Position) (m : ℕ) (t ts : Trees) (all : List Token) → FurtherRows ts → FirstUnit p m t all (tokens ts)
    → Stand all → length (atoms_of_tokens all) ≤ suc n
    → Cut (leading_unit p (atoms_of_tokens all) ∷ units_after f (after_unit p (atoms_of_tokens all))) (units_from_it p m t ts)
units_from_one n f all_of p m t ts all fits one st few =
    let s : Text = atoms_of_tokens (one.front ++ one.behind) in
    let st_ = stand_behind one.front one.behind (subst (λ (l : List Token). Stand l) one.same st) in
    let some_ = some_bytes p _ (atoms_of_tokens one.front) _ one.read.alone in
    let few_ = fewer n one.front one.behind some_ (subst (λ (l : List Token). length (atoms_of_tokens l) ≤ suc n) one.same few) in
    let vs : List TreeUnit = units_in (row_items m) t ++ units_in FurtherItems ts in
    let behind_ : Cut (units_after f (atoms_of_tokens one.behind)) vs = elim one.next [
      | inl g ↦ subst (λ (us : List TreeUnit). Cut (units_after f (atoms_of_tokens one.behind)) (us ++ units_in FurtherItems ts)) (sym g.1)
          (subst (λ (l : List Token). Cut (units_after f (atoms_of_tokens l)) (units_in FurtherItems ts)) (sym g.0)
          (behind_units n f all_of ts fits (subst (λ (l : List Token). Stand l) g.0 st_) (subst (λ (l : List Token). length (atoms_of_tokens l) ≤ n) g.0 few_)))
      | inr next ↦ next_units n f all_of (units_in (row_items m) t) ts one.behind fits next st_ few_
    ] in
    subst (λ (l : List Token). Cut (leading_unit p (atoms_of_tokens l) ∷ units_after f (after_unit p (atoms_of_tokens l))) (units_from_it p m t ts)) (sym one.same)
    (cut_one p m (own (row_items m) t) one.front one.behind (units_after f (after_unit p s)) vs one.read
    (subst (λ (rest : Text). Cut (units_after f rest) vs) (sym (behind_read p m (own (row_items m) t) one.front one.behind one.read)) behind_))

all_units : (n : ℕ) → AllOf n (units_from n)
all_units zero p m t ts stated fits more st few =
    let one = first_unit p m t (tokens ts) stated fits (rows_close ts more) st in
    let some_ = some_bytes p _ (atoms_of_tokens (tokens t ++ tokens ts)) _ (ap (λ (l : List Token). statement (reader Atoms) 1 p (atoms_of_tokens l)) one.same ∙ one.read.here) in
    absurd (omega (arith, some_, few))
all_units (suc n) p m t ts stated fits more st few =
    units_from_one n (units_from n) (all_units n) p m t ts (tokens t ++ tokens ts) more (first_unit p m t (tokens ts) stated fits (rows_close ts more) st) st few

line_units : (n : ℕ) (t : Trees) → Fits Atoms 32 32 (Statement position.First ∷ FurtherItems) t → Stand (tokens t) → length (atoms_of_tokens (tokens t)) ≤ n
    → Cut (units_from n position.First (atoms_of_tokens (tokens t))) (units_in (Statement position.First ∷ FurtherItems) t)
line_units n Done fits st few = cc
line_units n (Put x ts) fits st few = cc
line_units n (In m t ts) fits st few = all_units n position.First m t ts fits.0 fits.1.0 fits.1.1 st few

tree_cut : (t : Trees) → IsTree t → Cut (units_of (atoms t)) (units_on t)
unfolding units_of units_on
tree_cut t h =
    let good = good_tree 32 Atoms t h in
    let st : Stand (tokens t) = record { good = good.0; neighbours = good.1; remarks = h.remarks } in
    let same : atoms_of_tokens (tokens t) ≡ atoms t = tree_atoms t in
    let few : length (atoms_of_tokens (tokens t)) ≤ length (atoms t) = (let e = ap (λ (l : Text). length l) same in omega (arith, e)) in
    subst (λ (s : Text). Cut (units_from (length (atoms t)) position.First s) (units_in (row_items row.LINE) t)) same
    (subst (λ (is : List Item). Cut (units_from (length (atoms t)) position.First (atoms_of_tokens (tokens t))) (units_in is t)) (sym line_is)
    (line_units (length (atoms t)) t (subst (λ (is : List Item). Fits Atoms 32 32 is t) line_is h.fits) st few))

pub tree_is_cut : EachTreeIsCutIntoUnits
tree_is_cut t h = let c = tree_cut t h in record { units = c.units; alone = c.alone }

-- so each unit of a line is a statement
each_of : (vs : List TreeUnit) → All IsReadAlone vs → All IsStatement (map unit_atoms vs)
each_of [] h = All-nil IsStatement
each_of (v ∷ vs) h =
    All-cons IsStatement (unit_atoms v) (map unit_atoms vs) (record { row = v.row; tree = v.tree; read = All-head IsReadAlone v vs h }) (each_of vs (All-tail IsReadAlone v vs h))

pub each_unit : EachUnitIsAStatement
each_unit line h =
    let spelled = spells_tree line h in
    let c = tree_cut spelled.tree spelled.is_tree in
    subst (λ (s : Text). All IsStatement (units_of s)) spelled.spelled
    (subst (λ (us : List LineUnit). All IsStatement us) (sym c.units) (each_of (units_on spelled.tree) c.alone))
