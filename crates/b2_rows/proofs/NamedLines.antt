-- The lines that are named from one to another: one, two or none.
use Rattle.std.proofs.Common.{◌≡◌, ℕ, Bool, true, false, ◌==◌, List, [], ◌∷◌, drop, get_or, Some, None, refl, ap, ◌∙◌}
use Rattle.b2_base.specs.Byte as byte
use Rattle.b2_base.specs.Lexical.{first}
use Rattle.b2_base.specs.declared.codes.TheConstants.{S13_SEPARATOR, S15_LINE_NUMBER}
use Rattle.b2_atom.specs.Words.{Text}
use Rattle.b2_atom.specs.Tree.{Trees}
use Rattle.b2_atom.specs.Tree.Trees.{Done, Put, In}
use Rattle.b2_atom.specs.Tokens.Token.{Lined}
use Rattle.b2_atom.specs.Grammar.{row_items, starts}
use Rattle.b2_atom.specs.declared.words.Origin.TheVariants.{Atoms}
use Rattle.b2_atom.specs.declared.rows.TheConstants as row
use Rattle.b2_atom.specs.declared.forms.Start.TheVariants as start
use Rattle.b2_atom.specs.declared.forms.Leaf.TheVariants as leaf
use Rattle.b2_atom.specs.declared.forms.Item.{Item}
use Rattle.b2_atom.specs.declared.forms.Item.TheVariants.{Sign, Typed, Maybe}
use Rattle.b2_rows.specs.Leaves.{is_leaf}
use Rattle.b2_rows.specs.Rows.{is_phrase}
use Rattle.b2_rows.specs.Optional.{maybe_phrase, maybe_tree}
use Rattle.b2_rows.specs.Values.{line_of}
use Rattle.b2_rows.specs.LineNumbers.{named_lines, lines_from, second_line}
use Rattle.b2_rows.proofs.Optional.{maybe_stands, begun_part, begun_tree, left_out_tree}
use Rattle.b2_rows.proofs.RowsRead.{stands_of}

abbrev lines_items : List Item
lines_items = Typed leaf.LineNumber S15_LINE_NUMBER ∷ Maybe (start.Code byte.comma) row.COMMA_LINE ∷ []

lines_row : row_items row.LINE_NUMBERS ≡ lines_items
unfolding row_items
lines_row = refl

abbrev comma_items : List Item
comma_items = Sign byte.comma S13_SEPARATOR ∷ Typed leaf.LineNumber S15_LINE_NUMBER ∷ []

comma_row : row_items row.COMMA_LINE ≡ comma_items
unfolding row_items
comma_row = refl

abbrev Named : Text → Type 0
Named t = maybe_phrase start.Line row.LINE_NUMBERS t ≡ true

here : (t : Text) → Named t → starts Atoms start.Line t ≡ true → is_phrase row.LINE_NUMBERS t ≡ true
here t ok is = begun_part start.Line row.LINE_NUMBERS t ok is

pub first_here : (t : Text) → Named t → starts Atoms start.Line t ≡ true → is_leaf leaf.LineNumber t ≡ true
first_here t ok is = (stands_of row.LINE_NUMBERS lines_items t lines_row (here t ok is)).0.0

begins : (c : ℕ) (t : Text) (b : Bool) → (first t == c) ≡ b → starts Atoms (start.Code c) t ≡ b
unfolding starts
begins c t b is = is

second : (t : Text) → Named t → starts Atoms start.Line t ≡ true → (first (drop 3 t) == byte.comma) ≡ true → is_phrase row.COMMA_LINE (drop 3 t) ≡ true
second t ok is comma =
    begun_part (start.Code byte.comma) row.COMMA_LINE (drop 3 t) (maybe_stands _ _ _ (stands_of row.LINE_NUMBERS lines_items t lines_row (here t ok is)).0.1) (begins byte.comma (drop 3 t) true comma)

pub second_here : (t : Text) → Named t → starts Atoms start.Line t ≡ true → (first (drop 3 t) == byte.comma) ≡ true → is_leaf leaf.LineNumber (drop 1 (drop 3 t)) ≡ true
second_here t ok is comma = (stands_of row.COMMA_LINE comma_items (drop 3 t) comma_row (second t ok is comma)).0.1.0

abbrev line_at : Text → ℕ
line_at t = line_of (get_or t 1 0) (get_or t 2 0)

tree : (t : Text) → Named t → starts Atoms start.Line t ≡ true → maybe_tree start.Line row.LINE_NUMBERS t ≡ In 1 (Put (Lined (get_or t 1 0) (get_or t 2 0)) (maybe_tree (start.Code byte.comma) row.COMMA_LINE (drop 3 t))) Done
unfolding maybe_tree
tree t ok is =
    begun_tree start.Line row.LINE_NUMBERS t is ∙ ap (λ (a : Trees). In 1 a Done) (stands_of row.LINE_NUMBERS lines_items t lines_row (here t ok is)).1

pub two_lines : (t : Text) → Named t → starts Atoms start.Line t ≡ true → (first (drop 3 t) == byte.comma) ≡ true
    → named_lines (maybe_tree start.Line row.LINE_NUMBERS t) ≡ (line_at t, Some (line_at (drop 1 (drop 3 t))))
two_lines t ok is comma =
    ap named_lines (tree t ok is)
    ∙ ap (λ (a : Trees). lines_from (Put (Lined (get_or t 1 0) (get_or t 2 0)) a)) (begun_tree (start.Code byte.comma) row.COMMA_LINE (drop 3 t) (begins byte.comma (drop 3 t) true comma))
    ∙ ap (λ (a : Trees). (line_at t, Some (second_line a))) (stands_of row.COMMA_LINE comma_items (drop 3 t) comma_row (second t ok is comma)).1

pub one_line : (t : Text) → Named t → starts Atoms start.Line t ≡ true → (first (drop 3 t) == byte.comma) ≡ false
    → named_lines (maybe_tree start.Line row.LINE_NUMBERS t) ≡ (line_at t, None)
one_line t ok is comma =
    ap named_lines (tree t ok is)
    ∙ ap (λ (a : Trees). lines_from (Put (Lined (get_or t 1 0) (get_or t 2 0)) a)) (left_out_tree (start.Code byte.comma) row.COMMA_LINE (drop 3 t) (begins byte.comma (drop 3 t) false comma))

pub all_lines : (t : Text) → starts Atoms start.Line t ≡ false → named_lines (maybe_tree start.Line row.LINE_NUMBERS t) ≡ (0, Some 9999)
all_lines t is = ap named_lines (left_out_tree start.Line row.LINE_NUMBERS t is)
