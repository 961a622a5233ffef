-- The row of a unit: a unit is read by the row that the table chooses for it, and a span keeps that row and what the unit uses.
use Rattle.std.proofs.Common.{◌≡◌, ◌∙◌, ℕ, List, [], ◌∷◌, ◌++◌, Result, Ok, Err, Some, ap, sym, subst}
use Rattle.std.specs.List.{All}
use Rattle.std.specs.Prelude.{slice_get}
use Rattle.std.specs.Option.{option_map}
use Rattle.std.proofs.lemmas.Option.{slice_get-map, slice_get_within, get_or_from_slice_get}
use Rattle.std.proofs.lemmas.List.Elements.{All-nil, All-cons, All-head, All-tail, All-append, All-get_or}
use Rattle.b2_atom.specs.Words.{Text}
use Rattle.b2_atom.specs.Tree.{Trees, Outcome, Parser, under}
use Rattle.b2_atom.specs.Tree.Trees.{Done, In}
use Rattle.b2_atom.specs.Grammar.{reader, part, statement, statement_within, statement_row, row_at, from, chosen}
use Rattle.b2_atom.specs.Lines.{LineUnit, IsReadBy, KeepsRow, KeepsUses, KeepsUnits, chosen_row, left_after, span_row, span_uses, spanned, unit_row, unit_uses, units_of}
use Rattle.b2_atom.specs.Laws.{IsStatement, IsReadByItsRow, EachUnitIsReadByItsRow}
use Rattle.b2_atom.specs.Table.{forms}
use Rattle.b2_atom.specs.declared.words.Origin.TheVariants.{Atoms}
use Rattle.b2_atom.specs.declared.output.Stop.{Stop}
use Rattle.b2_atom.specs.declared.forms.Position.{Position}
use Rattle.b2_atom.specs.declared.spans.Span.{Span}
use Rattle.b2_atom.proofs.lines.EachUnit.{each_unit}

-- a branch of a tree, and what is in it
same_number : (m n : ℕ) (a t : Trees) → In m a Done ≡ In n t Done → m ≡ n
same_number m n a t is = cc

same_inner : (m n : ℕ) (a t : Trees) → In m a Done ≡ In n t Done → a ≡ t
same_inner m n a t is = cc

abbrev tree_of : Outcome → Trees
tree_of (Ok p) = p.0
tree_of (Err e) = Done

of_under : (m n : ℕ) (t : Trees) (rest : Text) (o : Outcome) → under m o ≡ Ok (In n t Done, rest) → (m ≡ n) × (o ≡ Ok (t, rest))
of_under m n t rest (Ok p) is =
    let same : In m p.0 Done ≡ In n t Done = ap tree_of is in
    (same_number m n p.0 t same, (λ i. Ok (same_inner m n p.0 t same i, ap left_after is i)))
of_under m n t rest (Err e) is = cc

-- a statement is read by the row that is chosen for it
of_chosen : (r : Result ℕ Stop) (q : ℕ → Parser Text) (u : Text) (n : ℕ) (t : Trees) (rest : Text) → chosen (from u r) q ≡ Ok (In n t Done, rest)
    → (chosen_row (from u r) ≡ n) × (q n u ≡ Ok (t, rest))
of_chosen (Err e) q u n t rest is = cc
of_chosen (Ok m) q u n t rest is =
    let both = of_under m n t rest (q m u) is in
    (both.0, ap (λ (k : ℕ). q k u) (sym both.0) ∙ both.1)

read_by_row : (p : Position) (u : Text) (n : ℕ) (t : Trees) → statement (reader Atoms) 1 p u ≡ Ok (In n t Done, [])
    → (unit_row (record { position = p; bytes = u }) ≡ n) × (part Atoms 0 32 40 n u ≡ Ok (t, []))
unfolding statement_within statement_row unit_row
read_by_row p u n t is = of_chosen (row_at forms Atoms p u) (part Atoms 0 32 40) u n t [] is

by_its_row : (u : LineUnit) → IsStatement u → IsReadByItsRow u
by_its_row u h =
    let both = read_by_row u.position u.bytes h.row h.tree h.read in
    record {
      tree = h.tree;
      statement = h.read ∙ (λ i. Ok (In (sym both.0 i) h.tree Done, []));
      part = ap (λ (n : ℕ). part Atoms 0 32 40 n u.bytes) both.0 ∙ both.1;
    }

each_by_its_row : (us : List LineUnit) → All IsStatement us → All IsReadByItsRow us
each_by_its_row [] h = All-nil IsReadByItsRow
each_by_its_row (u ∷ us) h =
    All-cons IsReadByItsRow u us (by_its_row u (All-head IsStatement u us h)) (each_by_its_row us (All-tail IsStatement u us h))

pub each_unit_by_its_row : EachUnitIsReadByItsRow
each_unit_by_its_row line h = each_by_its_row (units_of line) (each_unit line h)

-- one more span that keeps something
one_more : (P : Span → Type 0) (spans more : List Span) (s : Span) → more ≡ spans ++ s ∷ [] → P s → All P spans → All P more
one_more P spans more s added kept all = subst (λ (ss : List Span). All P ss) (sym added) (All-append P spans (s ∷ []) all (All-cons P s [] kept (All-nil P)))

-- its row
pub one_more_row : (line : Text) (spans more : List Span) (s : Span) (u : LineUnit) → more ≡ spans ++ s ∷ [] → spanned line s ≡ u → span_row s ≡ unit_row u
    → All (KeepsRow line) spans → All (KeepsRow line) more
one_more_row line spans more s u added is kept rows = one_more (KeepsRow line) spans more s added (kept ∙ ap unit_row (sym is)) rows

-- what its unit uses
pub one_more_use : (line : Text) (spans more : List Span) (s : Span) (u : LineUnit) → more ≡ spans ++ s ∷ [] → spanned line s ≡ u → span_uses s ≡ unit_uses u
    → All (KeepsUses line) spans → All (KeepsUses line) more
one_more_use line spans more s u added is kept uses = one_more (KeepsUses line) spans more s added (kept ∙ ap unit_uses (sym is)) uses

-- what holds of each element holds of the one that is looked up
of_each : {X : Type 0} (P : X → Type 0) (xs : List X) (k : ℕ) (x : X) → slice_get xs k ≡ Some x → All P xs → P x
of_each {X = X} P xs k x is h = subst P (get_or_from_slice_get xs k x x is) (All-get_or P xs k x (slice_get_within xs k x is) h)

-- the unit that is looked up by its span
found_unit : (line : Text) (spans : List Span) (k : ℕ) (s : Span) → KeepsUnits line spans → slice_get spans k ≡ Some s → slice_get (units_of line) k ≡ Some (spanned line s)
found_unit line spans k s kept is =
    ap (λ (us : List LineUnit). slice_get us k) (sym kept.units)
    ∙ slice_get-map (spanned line) spans k
    ∙ ap (option_map (spanned line)) is

-- is read by the row that the span keeps
pub found_read : (line : Text) (spans : List Span) (k : ℕ) (s : Span) (number : ℕ) (bytes : Text) → KeepsUnits line spans → slice_get spans k ≡ Some s → number ≡ span_row s
    → bytes ≡ (spanned line s).bytes → IsReadBy number bytes
found_read line spans k s number bytes kept is numbered cut =
    let by = of_each IsReadByItsRow (units_of line) k (spanned line s) (found_unit line spans k s kept is) (each_unit_by_its_row line kept.line_is) in
    let same : number ≡ unit_row (spanned line s) = numbered ∙ of_each (KeepsRow line) spans k s is kept.rows in
    record { tree = by.tree; read = (λ i. part Atoms 0 32 40 (same i) (cut i)) ∙ by.part }
