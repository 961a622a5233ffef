-- Dimensions and the length after them, by their rows.
use Rattle.std.proofs.Common.{◌≡◌, ℕ, ◌==◌, Bool, true, false, if◌then◌else◌, List, [], ◌∷◌, drop, Ok, refl, ap, ◌∙◌}
use Rattle.b2_base.specs.Byte as byte
use Rattle.b2_base.specs.Lexical.{first}
use Rattle.b2_base.specs.declared.codes.TheConstants.{S10_OPEN, S11_CLOSE, S13_SEPARATOR}
use Rattle.b2_atom.specs.Words.{Text}
use Rattle.b2_atom.specs.Tokens.Token.{Coded}
use Rattle.b2_atom.specs.Tree.{Trees}
use Rattle.b2_atom.specs.Tree.Trees.{Done, Put, In}
use Rattle.b2_atom.specs.Grammar.{row_items, starts}
use Rattle.b2_atom.specs.declared.words.Origin.TheVariants.{Atoms}
use Rattle.b2_atom.specs.declared.rows.TheConstants as row
use Rattle.b2_atom.specs.declared.forms.Start.TheVariants as start
use Rattle.b2_atom.specs.declared.forms.Item.{Item}
use Rattle.b2_atom.specs.declared.forms.Item.TheVariants.{Sign, Part, Maybe, Nest}
use Rattle.b2_rows.specs.Optional.{maybe_phrase, maybe_tree, after_maybe}
use Rattle.b2_rows.specs.Rows.{is_phrase, tree_at, after_phrase}
use Rattle.b2_rows.proofs.Optional.{begun_part, begun_rest, begun_tree, left_out_rest, left_out_tree, maybe_stands}
use Rattle.b2_expr.specs.Answers.{◌>>=◌}
use Rattle.b2_expr.specs.Functions.{fixed}
use Rattle.b2_expr.specs.Scope.{Context}
use Rattle.b2_expr.specs.Value.{branch_of, value}
use Rattle.b2_expr.specs.declared.operators.Level.TheVariants as level
use Rattle.b2_expr.proofs.Names.{one_first, one_second, one_tree, one_rest}
use Rattle.b2_rows.proofs.RowsRead.{stands_of}
use Rattle.b2_dims.specs.Dimensions.{array_shape, columns_in, dimension, dimensions_in, length_after, most_rows, tested_length}

loop_begins : (c : ℕ) (t : Text) (b : Bool) → (first t == c) ≡ b → starts Atoms (start.Code c) t ≡ b
unfolding starts
loop_begins c t b is = is

-- the second dimension
abbrev comma_items : List Item
comma_items = Sign byte.comma S13_SEPARATOR ∷ Part row.SUM ∷ []

comma_row : row_items row.COMMA_NUMBER ≡ comma_items
unfolding row_items
comma_row = refl

abbrev IsSecond : Text → Type 0
IsSecond t = maybe_phrase (start.Code byte.comma) row.COMMA_NUMBER t ≡ true

abbrev second_tree : Text → Trees
second_tree t = maybe_tree (start.Code byte.comma) row.COMMA_NUMBER t

abbrev after_second : Text → Text
after_second t = after_maybe (start.Code byte.comma) row.COMMA_NUMBER t

here : (t : Text) → IsSecond t → (first t == byte.comma) ≡ true → is_phrase row.COMMA_NUMBER t ≡ true
here t ok is = begun_part (start.Code byte.comma) row.COMMA_NUMBER t ok (loop_begins byte.comma t true is)

pub columns_part : (t : Text) → IsSecond t → (first t == byte.comma) ≡ true → is_phrase row.SUM (drop 1 t) ≡ true
columns_part t ok is = (stands_of row.COMMA_NUMBER comma_items t comma_row (here t ok is)).0.1.0

pub columns_is : (s : Context) (t : Text) → IsSecond t → (first t == byte.comma) ≡ true → columns_in s (second_tree t) ≡ (value s level.Sum (tree_at row.SUM (drop 1 t)) >>= (λ x. dimension 255 (fixed x)))
unfolding columns_in
columns_is s t ok is =
    ap (columns_in s) (begun_tree (start.Code byte.comma) row.COMMA_NUMBER t (loop_begins byte.comma t true is))
    ∙ ap (λ (a : Trees). columns_in s (In 1 a Done)) (stands_of row.COMMA_NUMBER comma_items t comma_row (here t ok is)).1

pub columns_rest : (t : Text) → IsSecond t → (first t == byte.comma) ≡ true → after_second t ≡ after_phrase row.SUM (drop 1 t)
columns_rest t ok is = begun_rest (start.Code byte.comma) row.COMMA_NUMBER t (loop_begins byte.comma t true is) ∙ (stands_of row.COMMA_NUMBER comma_items t comma_row (here t ok is)).2

pub no_columns : (s : Context) (t : Text) → (first t == byte.comma) ≡ false → columns_in s (second_tree t) ≡ Ok 0
unfolding columns_in
no_columns s t is = ap (columns_in s) (left_out_tree (start.Code byte.comma) row.COMMA_NUMBER t (loop_begins byte.comma t false is))

pub no_columns_rest : (t : Text) → (first t == byte.comma) ≡ false → after_second t ≡ t
no_columns_rest t is = left_out_rest (start.Code byte.comma) row.COMMA_NUMBER t (loop_begins byte.comma t false is)

-- whether it is there
branch_by : (b : Bool) (a : Trees) → (branch_of (if b then In 1 a Done else In 0 Done Done) == 1) ≡ b
branch_by true a = refl
branch_by false a = refl

two_written : (t : Text) → (branch_of (second_tree t) == 1) ≡ (first t == byte.comma)
unfolding maybe_tree starts
two_written t = branch_by (first t == byte.comma) (tree_at row.COMMA_NUMBER t)

-- both
abbrev pair_items : List Item
pair_items = Sign byte.opening S10_OPEN ∷ Nest row.ONE_OR_TWO_NUMBERS ∷ Sign byte.closing S11_CLOSE ∷ []

pair_row : row_items row.SUBSCRIPTS ≡ pair_items
unfolding row_items
pair_row = refl

inner : (t : Text) → is_phrase row.SUBSCRIPTS t ≡ true → is_phrase row.ONE_OR_TWO_NUMBERS (drop 1 t) ≡ true
inner t ok = (stands_of row.SUBSCRIPTS pair_items t pair_row ok).0.1.0

pub rows_part : (t : Text) → is_phrase row.SUBSCRIPTS t ≡ true → is_phrase row.SUM (drop 1 t) ≡ true
rows_part t ok = one_first (drop 1 t) (inner t ok)

pub columns_here : (t : Text) → is_phrase row.SUBSCRIPTS t ≡ true → maybe_phrase (start.Code byte.comma) row.COMMA_NUMBER (after_phrase row.SUM (drop 1 t)) ≡ true
columns_here t ok = one_second (drop 1 t) (inner t ok)

pub dimensions_is : (s : Context) (t : Text) → is_phrase row.SUBSCRIPTS t ≡ true → dimensions_in s (tree_at row.SUBSCRIPTS t)
    ≡ (value s level.Sum (tree_at row.SUM (drop 1 t)) >>= (λ x. dimension (most_rows (first (after_phrase row.SUM (drop 1 t)) == byte.comma)) (fixed x)
    >>= (λ rows. columns_in s (second_tree (after_phrase row.SUM (drop 1 t))) >>= (λ cols. Ok (record { rows = rows; cols = cols })))))
unfolding dimensions_in
dimensions_is s t ok =
    ap (dimensions_in s) (stands_of row.SUBSCRIPTS pair_items t pair_row ok).1
    ∙ ap (λ (a : Trees). dimensions_in s (Put (Coded byte.opening) (In 2 a (Put (Coded byte.closing) Done)))) (one_tree (drop 1 t) (inner t ok))
    ∙ ap (λ (b : Bool). value s level.Sum (tree_at row.SUM (drop 1 t)) >>= (λ x. dimension (most_rows b) (fixed x) >>= (λ rows. columns_in s (second_tree (after_phrase row.SUM (drop 1 t))) >>= (λ cols. Ok (record { rows = rows; cols = cols })))))
    (two_written (after_phrase row.SUM (drop 1 t)))

pub dimensions_rest : (t : Text) → is_phrase row.SUBSCRIPTS t ≡ true → after_phrase row.SUBSCRIPTS t ≡ drop 1 (after_second (after_phrase row.SUM (drop 1 t)))
dimensions_rest t ok = (stands_of row.SUBSCRIPTS pair_items t pair_row ok).2 ∙ ap (λ (u : Text). drop 1 u) (one_rest (drop 1 t) (inner t ok))

-- the length after them
pub length_part : (t : Text) → maybe_phrase start.Numeric row.SUM t ≡ true → starts Atoms start.Numeric t ≡ true → is_phrase row.SUM t ≡ true
length_part t ok is = begun_part start.Numeric row.SUM t ok is

pub length_is : (s : Context) (otherwise : ℕ) (alpha : Bool) (t : Text) → starts Atoms start.Numeric t ≡ true → length_after s otherwise alpha (maybe_tree start.Numeric row.SUM t) ≡ (value s level.Sum (tree_at row.SUM t) >>= (λ x. tested_length alpha (fixed x)))
unfolding length_after
length_is s otherwise alpha t is = ap (length_after s otherwise alpha) (begun_tree start.Numeric row.SUM t is)

pub length_rest : (t : Text) → starts Atoms start.Numeric t ≡ true → after_maybe start.Numeric row.SUM t ≡ after_phrase row.SUM t
length_rest t is = begun_rest start.Numeric row.SUM t is

pub no_length : (s : Context) (otherwise : ℕ) (alpha : Bool) (t : Text) → starts Atoms start.Numeric t ≡ false → length_after s otherwise alpha (maybe_tree start.Numeric row.SUM t) ≡ Ok otherwise
unfolding length_after
no_length s otherwise alpha t is = ap (length_after s otherwise alpha) (left_out_tree start.Numeric row.SUM t is)

pub no_length_rest : (t : Text) → starts Atoms start.Numeric t ≡ false → after_maybe start.Numeric row.SUM t ≡ t
no_length_rest t is = left_out_rest start.Numeric row.SUM t is

-- the shape of an array
abbrev shape_items : List Item
shape_items = Part row.SUBSCRIPTS ∷ Maybe start.Numeric row.SUM ∷ []

shape_row : row_items row.SUBSCRIPTS_AND_LENGTH ≡ shape_items
unfolding row_items
shape_row = refl

pub shape_dimensions : (t : Text) → is_phrase row.SUBSCRIPTS_AND_LENGTH t ≡ true → is_phrase row.SUBSCRIPTS t ≡ true
shape_dimensions t ok = (stands_of row.SUBSCRIPTS_AND_LENGTH shape_items t shape_row ok).0.0

pub shape_length : (t : Text) → is_phrase row.SUBSCRIPTS_AND_LENGTH t ≡ true → maybe_phrase start.Numeric row.SUM (after_phrase row.SUBSCRIPTS t) ≡ true
shape_length t ok = maybe_stands _ _ _ (stands_of row.SUBSCRIPTS_AND_LENGTH shape_items t shape_row ok).0.1

pub shape_is : (s : Context) (otherwise : ℕ) (alpha : Bool) (t : Text) → is_phrase row.SUBSCRIPTS_AND_LENGTH t ≡ true → array_shape s otherwise alpha (tree_at row.SUBSCRIPTS_AND_LENGTH t)
    ≡ (dimensions_in s (tree_at row.SUBSCRIPTS t) >>= (λ d. length_after s otherwise alpha (maybe_tree start.Numeric row.SUM (after_phrase row.SUBSCRIPTS t)) >>= (λ len. Ok (record { rows = d.rows; cols = d.cols; len = len }))))
unfolding array_shape maybe_tree
shape_is s otherwise alpha t ok = ap (array_shape s otherwise alpha) (stands_of row.SUBSCRIPTS_AND_LENGTH shape_items t shape_row ok).1

pub shape_rest : (t : Text) → is_phrase row.SUBSCRIPTS_AND_LENGTH t ≡ true → after_phrase row.SUBSCRIPTS_AND_LENGTH t ≡ after_maybe start.Numeric row.SUM (after_phrase row.SUBSCRIPTS t)
unfolding after_maybe
shape_rest t ok = (stands_of row.SUBSCRIPTS_AND_LENGTH shape_items t shape_row ok).2
