-- MAT SEARCH, by its row.
use Rattle.std.proofs.Common.{◌≡◌, ◌==◌, Bool, true, false, List, [], ◌∷◌, drop, Ok, refl, ap, ◌∙◌}
use Rattle.b2_base.specs.Byte as byte
use Rattle.b2_base.specs.Lexical.{first}
use Rattle.b2_atom.specs.Words.{Text}
use Rattle.b2_atom.specs.Leaves.{leaf_width}
use Rattle.b2_atom.specs.Tree.Trees.{Done, In}
use Rattle.b2_atom.specs.Grammar.{row_items, starts}
use Rattle.b2_atom.specs.declared.words.Origin.TheVariants.{Atoms}
use Rattle.b2_atom.specs.declared.words.TheConstants as word
use Rattle.b2_atom.specs.declared.rows.TheConstants as row
use Rattle.b2_atom.specs.declared.forms.Start.TheVariants as start
use Rattle.b2_atom.specs.declared.forms.Leaf.TheVariants as leaf
use Rattle.b2_atom.specs.declared.forms.Item.{Item}
use Rattle.b2_atom.specs.Tree.{Trees}
use Rattle.b2_atom.specs.declared.forms.Item.TheVariants.{Word, Sign, Typed, Part, Maybe}
use Rattle.b2_base.specs.declared.codes.TheConstants.{S13_SEPARATOR, S21_COMPARISON}
use Rattle.b2_rows.specs.Leaves.{is_leaf, leaf_bytes}
use Rattle.b2_rows.specs.Optional.{maybe_phrase, maybe_tree}
use Rattle.b2_rows.specs.Rows.{is_phrase, tree_at, after_phrase}
use Rattle.b2_rows.specs.Values.{relation_of}
use Rattle.b2_rows.proofs.Optional.{begun_part, begun_tree, left_out_tree, maybe_stands}
use Rattle.b2_rows.proofs.RowsRead.{stands_of}
use Rattle.b2_expr.specs.Answers.{◌>>=◌}
use Rattle.b2_expr.specs.Functions.{whole_between}
use Rattle.b2_expr.specs.Scope.{Context}
use Rattle.b2_expr.specs.Value.{text, value}
use Rattle.b2_expr.specs.declared.operators.Level.TheVariants as level
use Rattle.b2_receiver.specs.Receivers.{alpha_receiver, buffer}
use Rattle.b2_stmt_mat.specs.Searching.{search_in, step_in}

code_begins : (c : _) (t : Text) (b : Bool) → (first t == c) ≡ b → starts Atoms (start.Code c) t ≡ b
unfolding starts
code_begins c t b is = is

-- STEP
abbrev step_items : List Item
step_items = Word word.STEP ∷ Part row.SUM ∷ []

step_row : row_items row.STEP ≡ step_items
unfolding row_items
step_row = refl

abbrev IsStep : Text → Type 0
IsStep t = maybe_phrase (start.Code word.STEP) row.STEP t ≡ true

abbrev step_tree : Text → Trees
step_tree t = maybe_tree (start.Code word.STEP) row.STEP t

here : (t : Text) → IsStep t → (first t == word.STEP) ≡ true → is_phrase row.STEP t ≡ true
here t ok is = begun_part (start.Code word.STEP) row.STEP t ok (code_begins word.STEP t true is)

pub step_sum : (t : Text) → IsStep t → (first t == word.STEP) ≡ true → is_phrase row.SUM (drop 1 t) ≡ true
step_sum t ok is = (stands_of row.STEP step_items t step_row (here t ok is)).0.1.0

pub step_is : (s : Context) (t : Text) → IsStep t → (first t == word.STEP) ≡ true → step_in s (step_tree t) ≡ (value s level.Sum (tree_at row.SUM (drop 1 t)) >>= whole_between 1 65535)
unfolding step_in
step_is s t ok is =
    ap (step_in s) (begun_tree (start.Code word.STEP) row.STEP t (code_begins word.STEP t true is))
    ∙ ap (λ (a : Trees). step_in s (In 1 a Done)) (stands_of row.STEP step_items t step_row (here t ok is)).1

pub no_step : (s : Context) (t : Text) → (first t == word.STEP) ≡ false → step_in s (step_tree t) ≡ Ok 1
unfolding step_in
no_step s t is = ap (step_in s) (left_out_tree (start.Code word.STEP) row.STEP t (code_begins word.STEP t false is))

-- the statement
abbrev items : List Item
items = Word word.MAT ∷ Word word.SEARCH ∷ Part row.BUFFER ∷ Sign byte.comma S13_SEPARATOR ∷ Typed leaf.Relation S21_COMPARISON ∷ Part row.ALPHA ∷ Word word.TO ∷ Part row.ALPHA_RECEIVER ∷ Maybe (start.Code word.STEP) row.STEP ∷ []

row_is : row_items row.MAT_SEARCH ≡ items
unfolding row_items
row_is = refl

abbrev pub of_text : Text → Text
of_text t = drop 1 (drop 1 t)

abbrev pub sign_text : Text → Text
sign_text t = drop 1 (after_phrase row.BUFFER (of_text t))

abbrev pub want_text : Text → Text
want_text t = drop (leaf_width Atoms leaf.Relation (sign_text t)) (sign_text t)

abbrev pub receiver_text : Text → Text
receiver_text t = drop 1 (after_phrase row.ALPHA (want_text t))

abbrev pub step_text : Text → Text
step_text t = after_phrase row.ALPHA_RECEIVER (receiver_text t)

pub of_part : (t : Text) → is_phrase row.MAT_SEARCH t ≡ true → is_phrase row.BUFFER (of_text t) ≡ true
of_part t ok = (stands_of row.MAT_SEARCH items t row_is ok).0.1.1.0

pub relation_leaf : (t : Text) → is_phrase row.MAT_SEARCH t ≡ true → is_leaf leaf.Relation (sign_text t) ≡ true
relation_leaf t ok = (stands_of row.MAT_SEARCH items t row_is ok).0.1.1.1.1.0

pub want_part : (t : Text) → is_phrase row.MAT_SEARCH t ≡ true → is_phrase row.ALPHA (want_text t) ≡ true
want_part t ok = (stands_of row.MAT_SEARCH items t row_is ok).0.1.1.1.1.1.0

pub receiver_part : (t : Text) → is_phrase row.MAT_SEARCH t ≡ true → is_phrase row.ALPHA_RECEIVER (receiver_text t) ≡ true
receiver_part t ok = (stands_of row.MAT_SEARCH items t row_is ok).0.1.1.1.1.1.1.1.0

pub step_part : (t : Text) → is_phrase row.MAT_SEARCH t ≡ true → maybe_phrase (start.Code word.STEP) row.STEP (step_text t) ≡ true
step_part t ok = maybe_stands _ _ _ (stands_of row.MAT_SEARCH items t row_is ok).0.1.1.1.1.1.1.1.1

pub search_is : (s : Context) (t : Text) → is_phrase row.MAT_SEARCH t ≡ true → search_in s (tree_at row.MAT_SEARCH t)
    ≡ (buffer s (tree_at row.BUFFER (of_text t)) >>= (λ of. text s (tree_at row.ALPHA (want_text t)) >>= (λ want. alpha_receiver s (tree_at row.ALPHA_RECEIVER (receiver_text t)) >>= (λ to. step_in s (step_tree (step_text t))
    >>= (λ step. Ok (record { of = of; relation = relation_of (leaf_bytes leaf.Relation (sign_text t)); want = want; to = to; step = step }))))))
unfolding search_in maybe_tree
search_is s t ok = ap (search_in s) (stands_of row.MAT_SEARCH items t row_is ok).1
