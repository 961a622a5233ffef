-- MAT REDIM, by its row.
use Rattle.std.proofs.Common.{◌≡◌, ℕ, Bool, true, false, if◌then◌else◌, List, [], ◌∷◌, drop, Result, refl, ap, subst, ◌∙◌}
use Rattle.b2_atom.specs.Words.{Text}
use Rattle.b2_atom.specs.Leaves.{leaf_width}
use Rattle.b2_atom.specs.Tokens.Token.{Coded}
use Rattle.b2_atom.specs.Tree.{Trees}
use Rattle.b2_atom.specs.Tree.Trees.{Done, Put, In}
use Rattle.b2_atom.specs.Grammar.{row_items, starts}
use Rattle.b2_atom.specs.declared.words.Origin.TheVariants.{Atoms}
use Rattle.b2_atom.specs.declared.words.TheConstants as word
use Rattle.b2_atom.specs.declared.rows.TheConstants as row
use Rattle.b2_atom.specs.declared.forms.Start.TheVariants as start
use Rattle.b2_atom.specs.declared.forms.Leaf.TheVariants as leaf
use Rattle.b2_atom.specs.declared.forms.Item.{Item}
use Rattle.b2_atom.specs.declared.forms.Item.TheVariants.{Word, Typed, Part, Either}
use Rattle.b2_base.specs.declared.codes.TheConstants.{S20_VARIABLE}
use Rattle.b2_rows.specs.Leaves.{is_leaf, leaf_bytes}
use Rattle.b2_rows.specs.Rows.{is_phrase, tree_at, after_phrase, When}
use Rattle.b2_rows.proofs.RowsRead.{stands_of}
use Rattle.b2_expr.specs.Scope.{Context}
use Rattle.b2_stmt_mat.specs.Redimensioning.{redimensioned_in, redimensioned_of}
use Rattle.b2_stmt_mat.specs.declared.redimensioning.Redimensioned.{Redimensioned}

abbrev items : List Item
items = Word word.MAT ∷ Word word.REDIM ∷ Either start.Alpha row.ALPHA_NAME row.NUMERIC_NAME ∷ Part row.SUBSCRIPTS_AND_LENGTH ∷ []

row_is : row_items row.MAT_REDIM ≡ items
unfolding row_items
row_is = refl

abbrev alpha_items : List Item
alpha_items = Typed leaf.AlphaName S20_VARIABLE ∷ []

alpha_row : row_items row.ALPHA_NAME ≡ alpha_items
unfolding row_items
alpha_row = refl

abbrev number_items : List Item
number_items = Typed leaf.Name S20_VARIABLE ∷ []

number_row : row_items row.NUMERIC_NAME ≡ number_items
unfolding row_items
number_row = refl

-- the name stands after two words, and the dimensions after it
abbrev pub name_text : Text → Text
name_text t = drop 1 (drop 1 t)

taken_way : (b : Bool) (x y : Type 0) → b ≡ true → When b x y → x
taken_way true x y is h = h
taken_way false x y is h = cc

other_way : (b : Bool) (x y : Type 0) → b ≡ false → When b x y → y
other_way false x y is h = h
other_way true x y is h = cc

alpha_read : (t : Text) → is_phrase row.MAT_REDIM t ≡ true → starts Atoms start.Alpha (name_text t) ≡ true → is_phrase row.ALPHA_NAME (name_text t) ≡ true
alpha_read t ok is = (taken_way (starts Atoms start.Alpha (name_text t)) _ _ is (stands_of row.MAT_REDIM items t row_is ok).0.1.1).0

number_read : (t : Text) → is_phrase row.MAT_REDIM t ≡ true → starts Atoms start.Alpha (name_text t) ≡ false → is_phrase row.NUMERIC_NAME (name_text t) ≡ true
number_read t ok is = (other_way (starts Atoms start.Alpha (name_text t)) _ _ is (stands_of row.MAT_REDIM items t row_is ok).0.1.1).0

pub alpha_leaf : (t : Text) → is_phrase row.MAT_REDIM t ≡ true → starts Atoms start.Alpha (name_text t) ≡ true → is_leaf leaf.AlphaName (name_text t) ≡ true
alpha_leaf t ok is = (stands_of row.ALPHA_NAME alpha_items (name_text t) alpha_row (alpha_read t ok is)).0.0

pub number_leaf : (t : Text) → is_phrase row.MAT_REDIM t ≡ true → starts Atoms start.Alpha (name_text t) ≡ false → is_leaf leaf.Name (name_text t) ≡ true
number_leaf t ok is = (stands_of row.NUMERIC_NAME number_items (name_text t) number_row (number_read t ok is)).0.0

alpha_rest : (t : Text) → is_phrase row.MAT_REDIM t ≡ true → starts Atoms start.Alpha (name_text t) ≡ true → after_phrase row.ALPHA_NAME (name_text t) ≡ drop (leaf_width Atoms leaf.AlphaName (name_text t)) (name_text t)
alpha_rest t ok is = (stands_of row.ALPHA_NAME alpha_items (name_text t) alpha_row (alpha_read t ok is)).2

number_rest : (t : Text) → is_phrase row.MAT_REDIM t ≡ true → starts Atoms start.Alpha (name_text t) ≡ false → after_phrase row.NUMERIC_NAME (name_text t) ≡ drop (leaf_width Atoms leaf.Name (name_text t)) (name_text t)
number_rest t ok is = (stands_of row.NUMERIC_NAME number_items (name_text t) number_row (number_read t ok is)).2

pub alpha_shape : (t : Text) → is_phrase row.MAT_REDIM t ≡ true → starts Atoms start.Alpha (name_text t) ≡ true → is_phrase row.SUBSCRIPTS_AND_LENGTH (drop (leaf_width Atoms leaf.AlphaName (name_text t)) (name_text t)) ≡ true
alpha_shape t ok is =
    subst (λ (u : Text). is_phrase row.SUBSCRIPTS_AND_LENGTH u ≡ true) (alpha_rest t ok is) (taken_way (starts Atoms start.Alpha (name_text t)) _ _ is (stands_of row.MAT_REDIM items t row_is ok).0.1.1).1.0

pub number_shape : (t : Text) → is_phrase row.MAT_REDIM t ≡ true → starts Atoms start.Alpha (name_text t) ≡ false → is_phrase row.SUBSCRIPTS_AND_LENGTH (drop (leaf_width Atoms leaf.Name (name_text t)) (name_text t)) ≡ true
number_shape t ok is =
    subst (λ (u : Text). is_phrase row.SUBSCRIPTS_AND_LENGTH u ≡ true) (number_rest t ok is) (other_way (starts Atoms start.Alpha (name_text t)) _ _ is (stands_of row.MAT_REDIM items t row_is ok).0.1.1).1.0

-- the trees, by the kind
abbrev tree_by_kind : Text → Bool → Trees
tree_by_kind t b =
    Put (Coded word.MAT) (Put (Coded word.REDIM)
    (if b then In 1 (tree_at row.ALPHA_NAME (name_text t)) (In 2 (tree_at row.SUBSCRIPTS_AND_LENGTH (after_phrase row.ALPHA_NAME (name_text t))) Done)
    else In 0 (tree_at row.NUMERIC_NAME (name_text t)) (In 2 (tree_at row.SUBSCRIPTS_AND_LENGTH (after_phrase row.NUMERIC_NAME (name_text t))) Done)))

tree_is : (t : Text) (b : Bool) → is_phrase row.MAT_REDIM t ≡ true → starts Atoms start.Alpha (name_text t) ≡ b → tree_at row.MAT_REDIM t ≡ tree_by_kind t b
tree_is t b ok is = (stands_of row.MAT_REDIM items t row_is ok).1 ∙ ap (tree_by_kind t) is

abbrev named : Context → ℕ → Trees → Text → Result Redimensioned ℕ
named s n name rest = redimensioned_in s (Put (Coded word.MAT) (Put (Coded word.REDIM) (In n name (In 2 (tree_at row.SUBSCRIPTS_AND_LENGTH rest) Done))))

pub alpha_is : (s : Context) (t : Text) → is_phrase row.MAT_REDIM t ≡ true → starts Atoms start.Alpha (name_text t) ≡ true
    → redimensioned_in s (tree_at row.MAT_REDIM t) ≡ redimensioned_of s true (leaf_bytes leaf.AlphaName (name_text t)) (tree_at row.SUBSCRIPTS_AND_LENGTH (drop (leaf_width Atoms leaf.AlphaName (name_text t)) (name_text t)))
unfolding redimensioned_in
alpha_is s t ok is =
    ap (redimensioned_in s) (tree_is t true ok is)
    ∙ ap (λ (a : Trees). named s 1 a (after_phrase row.ALPHA_NAME (name_text t))) (stands_of row.ALPHA_NAME alpha_items (name_text t) alpha_row (alpha_read t ok is)).1
    ∙ ap (λ (u : Text). redimensioned_of s true (leaf_bytes leaf.AlphaName (name_text t)) (tree_at row.SUBSCRIPTS_AND_LENGTH u)) (alpha_rest t ok is)

pub number_is : (s : Context) (t : Text) → is_phrase row.MAT_REDIM t ≡ true → starts Atoms start.Alpha (name_text t) ≡ false
    → redimensioned_in s (tree_at row.MAT_REDIM t) ≡ redimensioned_of s false (leaf_bytes leaf.Name (name_text t)) (tree_at row.SUBSCRIPTS_AND_LENGTH (drop (leaf_width Atoms leaf.Name (name_text t)) (name_text t)))
unfolding redimensioned_in
number_is s t ok is =
    ap (redimensioned_in s) (tree_is t false ok is)
    ∙ ap (λ (a : Trees). named s 0 a (after_phrase row.NUMERIC_NAME (name_text t))) (stands_of row.NUMERIC_NAME number_items (name_text t) number_row (number_read t ok is)).1
    ∙ ap (λ (u : Text). redimensioned_of s false (leaf_bytes leaf.Name (name_text t)) (tree_at row.SUBSCRIPTS_AND_LENGTH u)) (number_rest t ok is)
