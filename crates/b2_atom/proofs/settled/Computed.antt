-- The table is settled, as computed: each choice of a row by what stands next.
use Rattle.std.proofs.Common.{◌≡◌, zero, suc, ◌==◌, ◌&&◌, not, ◌/◌, Bool, true, false, if◌then◌else◌, List, [], ◌∷◌, get_or, refl, sym, subst, inl, inr, ℕ}
use Rattle.b2_atom.specs.Grammar.{row_items, rows_of, row_place}
use Rattle.b2_atom.specs.Table.{rows_0, rows_1, rows_2, rows_3, forms}
use Rattle.b2_atom.specs.Fitting.{is_statement, is_allowed}
use Rattle.b2_atom.specs.declared.rows.TheConstants as row
use Rattle.b2_atom.specs.declared.words.Origin.{Origin}
use Rattle.b2_atom.specs.declared.forms.Position.{Position}
use Rattle.b2_atom.specs.declared.forms.Form.{Form}
use Rattle.b2_atom.specs.declared.forms.Item.{Item}
use Rattle.b2_atom.proofs.Booleans.{and_left, and_right, or_cases, equal}
use Rattle.b2_atom.proofs.settled.Lookaheads.{of_row, of, settled_row, settled_rows, good_statement, every_statement, chosen_statement, chosen_row, leading, paired, beside, Beside, before_good, good_lookahead, every, covered, statement_heads}

settled_0 : settled_rows rows_0 ≡ true
unfolding of_row of row_items
settled_0 = refl

settled_1 : settled_rows rows_1 ≡ true
unfolding of_row of row_items
settled_1 = refl

settled_2 : settled_rows rows_2 ≡ true
unfolding of_row of row_items
settled_2 = refl

settled_3 : settled_rows rows_3 ≡ true
unfolding of_row of row_items
settled_3 = refl

no_row : settled_row [] ≡ true
unfolding of_row of row_items
no_row = refl

one_of_rows : (rs : List (List Item)) (k : ℕ) → settled_rows rs ≡ true → settled_row (get_or rs k []) ≡ true
one_of_rows [] k h = no_row
one_of_rows (r ∷ rs) zero h = and_left (settled_row r) _ h
one_of_rows (r ∷ rs) (suc k) h = one_of_rows rs k (and_right (settled_row r) _ h)

either_rows : (b : Bool) (rs ss : List (List Item)) → settled_rows rs ≡ true → settled_rows ss ≡ true → settled_rows (if b then rs else ss) ≡ true
either_rows true rs ss h k = h
either_rows false rs ss h k = k

all_rows : (k : ℕ) → settled_rows (rows_of k) ≡ true
all_rows k = either_rows (k == 0) rows_0 _ settled_0 (either_rows (k == 1) rows_1 _ settled_1 (either_rows (k == 2) rows_2 rows_3 settled_2 settled_3))

pub row_settled : (n : ℕ) → settled_row (row_items n) ≡ true
unfolding row_items
row_settled n = one_of_rows (rows_of (n / 64)) (row_place n) (all_rows (n / 64))

-- a test that holds for the row of each form holds for that of each statement
pub one_of_statements : (test : ℕ → Bool) (o : Origin) (p : Position) (m : ℕ) (fs : List Form) → every_statement test fs ≡ true → is_statement fs o p m ≡ true → test m ≡ true
one_of_statements test o p m [] h k = let P : ℕ → Type 0 = λ n. test n ≡ true in subst P (sym (equal m row.ASSIGNMENT k)) h
one_of_statements test o p m (f ∷ fs) h k = elim (or_cases (f.row == m && is_allowed o p f.rule) (is_statement fs o p m) k) [
  | inl g ↦ (let P : ℕ → Type 0 = λ n. test n ≡ true in subst P (equal f.row m (and_left _ _ g)) (and_left _ _ h))
  | inr g ↦ one_of_statements test o p m fs (and_right (test f.row) _ h) g
]

forms_good : every_statement good_statement forms ≡ true
unfolding of_row of row_items
forms_good = refl

pub statement_good : (o : Origin) (p : Position) (m : ℕ) → is_statement forms o p m ≡ true → good_statement m ≡ true
statement_good o p m h = one_of_statements good_statement o p m forms forms_good h

forms_chosen : every_statement chosen_statement forms ≡ true
unfolding of_row of row_items
forms_chosen = refl

pub statement_chosen : (o : Origin) (p : Position) (m : ℕ) → is_statement forms o p m ≡ true → chosen_row m (leading (row_items m)) ≡ true
statement_chosen o p m h = one_of_statements chosen_statement o p m forms forms_chosen h

-- the tokens of each row may stand side by side, and are good tokens
abbrev pub paired_rows : Beside → List (List Item) → Bool
paired_rows p [] = true
paired_rows p (r ∷ rs) = paired (λ n. true) p r && paired_rows p rs

paired_0 : paired_rows beside rows_0 ≡ true
unfolding of_row of row_items
paired_0 = refl

paired_1 : paired_rows beside rows_1 ≡ true
unfolding of_row of row_items
paired_1 = refl

paired_2 : paired_rows beside rows_2 ≡ true
unfolding of_row of row_items
paired_2 = refl

paired_3 : paired_rows beside rows_3 ≡ true
unfolding of_row of row_items
paired_3 = refl

good_0 : paired_rows before_good rows_0 ≡ true
unfolding of_row of row_items
good_0 = refl

good_1 : paired_rows before_good rows_1 ≡ true
unfolding of_row of row_items
good_1 = refl

good_2 : paired_rows before_good rows_2 ≡ true
unfolding of_row of row_items
good_2 = refl

good_3 : paired_rows before_good rows_3 ≡ true
unfolding of_row of row_items
good_3 = refl

one_paired : (p : Beside) (rs : List (List Item)) (k : ℕ) → paired_rows p rs ≡ true → paired (λ n. true) p (get_or rs k []) ≡ true
one_paired p [] k h = refl
one_paired p (r ∷ rs) zero h = and_left (paired (λ n. true) p r) _ h
one_paired p (r ∷ rs) (suc k) h = one_paired p rs k (and_right (paired (λ n. true) p r) _ h)

either_paired : (p : Beside) (b : Bool) (rs ss : List (List Item)) → paired_rows p rs ≡ true → paired_rows p ss ≡ true → paired_rows p (if b then rs else ss) ≡ true
either_paired p true rs ss h k = h
either_paired p false rs ss h k = k

all_paired : (p : Beside) → paired_rows p rows_0 ≡ true → paired_rows p rows_1 ≡ true → paired_rows p rows_2 ≡ true → paired_rows p rows_3 ≡ true → (k : ℕ) → paired_rows p (rows_of k) ≡ true
all_paired p a b c d k = either_paired p (k == 0) rows_0 _ a (either_paired p (k == 1) rows_1 _ b (either_paired p (k == 2) rows_2 rows_3 c d))

pub row_paired : (n : ℕ) → paired (λ m. true) beside (row_items n) ≡ true
unfolding row_items
row_paired n = one_paired beside (rows_of (n / 64)) (row_place n) (all_paired beside paired_0 paired_1 paired_2 paired_3 (n / 64))

pub row_good : (n : ℕ) → paired (λ m. true) before_good (row_items n) ≡ true
unfolding row_items
row_good n = one_paired before_good (rows_of (n / 64)) (row_place n) (all_paired before_good good_0 good_1 good_2 good_3 (n / 64))

-- a line begins with good tokens, as statements do
pub line_heads : (covered statement_heads (of row.LINE).heads && (every good_lookahead (of row.LINE).heads && not (of row.LINE).empty)) ≡ true
unfolding of_row of row_items
line_heads = refl
