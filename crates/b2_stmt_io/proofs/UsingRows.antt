-- PRINTUSING by its rows: its image, and its items.
use Rattle.std.proofs.Common.{◌≡◌, ℕ, Bool, true, false, if◌then◌else◌, List, [], ◌∷◌, drop, get_or, Result, Ok, Err, refl, sym, ap, subst, ◌∙◌}
use Rattle.b2_base.specs.Byte as byte
use Rattle.b2_base.specs.Lexical.{first}
use Rattle.b2_base.specs.declared.codes.Fault.{Fault}
use Rattle.b2_base.specs.declared.codes.Fault.TheVariants as fault
use Rattle.b2_base.specs.declared.codes.TheConstants.{S13_SEPARATOR, S15_LINE_NUMBER}
use Rattle.b2_dec.specs.Number.{Number}
use Rattle.b2_dec.specs.declared.values.Value.{Value}
use Rattle.b2_dec.specs.declared.values.Value.TheVariants as kind
use Rattle.b2_atom.specs.Words.{Text}
use Rattle.b2_atom.specs.Leaves.{leaf_width}
use Rattle.b2_atom.specs.Tokens.Token.{Coded}
use Rattle.b2_atom.specs.Tree.{Trees}
use Rattle.b2_atom.specs.Tree.Trees.{Put, In}
use Rattle.b2_atom.specs.Grammar.{row_items, starts}
use Rattle.b2_atom.specs.declared.words.Origin.TheVariants.{Atoms}
use Rattle.b2_atom.specs.declared.words.TheConstants as word
use Rattle.b2_atom.specs.declared.rows.TheConstants as row
use Rattle.b2_atom.specs.declared.forms.Start.TheVariants as start
use Rattle.b2_atom.specs.declared.forms.Leaf.TheVariants as leaf
use Rattle.b2_atom.specs.declared.forms.Item.{Item}
use Rattle.b2_atom.specs.declared.forms.Item.TheVariants.{Word, Sign, Typed, Part, Maybe, Either, Many}
use Rattle.b2_rows.specs.Choices.{ReadAs}
use Rattle.b2_rows.specs.Leaves.{is_leaf, leaf_bytes}
use Rattle.b2_rows.specs.Optional.{maybe_tree}
use Rattle.b2_rows.specs.Rows.{is_phrase, tree_at, after_phrase, When}
use Rattle.b2_rows.specs.Values.{line_of, literal_of}
use Rattle.b2_expr.specs.Answers.{TextAnswer, ◌>>=◌}
use Rattle.b2_expr.specs.Scope.{Context}
use Rattle.b2_expr.specs.Value.{text, value}
use Rattle.b2_expr.specs.declared.operators.Level.TheVariants as level
use Rattle.b2_rows.proofs.RowsRead.{stands_of}
use Rattle.b2_base.specs.Refusals.{IsRefused}
use Rattle.b2_print.specs.Imaged.{appended, imaged}
use Rattle.b2_text.specs.Program.{Lines, line_at}
use Rattle.b2_rows.specs.LineNumbers.{line_in}
use Rattle.b2_stmt_io.specs.Imaging.{any_value, image_named, is_joined, items_named, items_using, values_joined, line_image, prints_using, values_of, written_image}
use Rattle.b2_rows.specs.CommaLists.{after_all_listed, commas}
use Rattle.b2_stmt_io.specs.Operands.{after_operands, after_image, are_operands, image_is_named, items_text, operands_at, operands_tree, past_operand}
use Rattle.b2_stmt_io.proofs.PrintRows.{is_bytes, is_number}

-- a line number, and an image that is written
abbrev line_items : List Item
line_items = Typed leaf.LineNumber S15_LINE_NUMBER ∷ []

line_row : row_items row.LINE_NUMBER ≡ line_items
unfolding row_items
line_row = refl

abbrev written_items : List Item
written_items = Typed leaf.Literal S15_LINE_NUMBER ∷ []

written_row : row_items row.IMAGE_LITERAL ≡ written_items
unfolding row_items
written_row = refl

-- PRINTUSING: what stands after its image in either case
abbrev using_items : List Item
using_items =
    Word word.PRINTUSING ∷ Either start.Line row.LINE_NUMBER row.IMAGE_LITERAL ∷ Sign byte.comma S13_SEPARATOR ∷ Part row.OPERAND_OF_ANY_KIND
    ∷ Many commas row.COMMA_OPERAND ∷ Maybe (start.Code byte.semicolon) row.SEMICOLON ∷ []

using_row : row_items row.PRINTUSING ≡ using_items
unfolding row_items
using_row = refl

abbrev further_tree : Text → Trees
further_tree w = Put (Coded byte.comma) (operands_tree (drop 1 w))

abbrev image_tree : Bool → Trees → Trees → Trees → Trees
image_tree b x y more = if b then In 1 x more else In 0 y more

-- how the items stand after the image
abbrev Further : Text → Type 0
Further w = (first w ≡ byte.comma) × ((is_phrase row.OPERAND_OF_ANY_KIND (drop 1 w) ≡ true) × ((are_operands (past_operand (drop 1 w)) ≡ true) × When (starts Atoms (start.Code byte.semicolon) (after_operands (past_operand (drop 1 w)))) ((is_phrase row.SEMICOLON (after_operands (past_operand (drop 1 w))) ≡ true) × Unit {0}) (Unit {0})))

further_by : (b x y : Bool) (u w : Text) → When b ((x ≡ true) × Further u) ((y ≡ true) × Further w) → Further (if b then u else w)
further_by true x y u w h = h.1
further_by false x y u w h = h.1

further : (t : Text) → is_phrase row.PRINTUSING t ≡ true → Further (after_image t)
further t ok = further_by (image_is_named t) (is_phrase row.LINE_NUMBER (drop 1 t)) (is_phrase row.IMAGE_LITERAL (drop 1 t)) (after_phrase row.LINE_NUMBER (drop 1 t)) (after_phrase row.IMAGE_LITERAL (drop 1 t)) (stands_of row.PRINTUSING using_items t using_row ok).0.1

pub items_part : (t : Text) → is_phrase row.PRINTUSING t ≡ true → is_phrase row.OPERAND_OF_ANY_KIND (items_text t) ≡ true
items_part t ok = (further t ok).1.0

pub items_list : (t : Text) → is_phrase row.PRINTUSING t ≡ true → are_operands (past_operand (items_text t)) ≡ true
items_list t ok = (further t ok).1.1.0

tree_of_image : (b : Bool) (x y : Trees) (u w : Text) → (if b then In 1 x (further_tree u) else In 0 y (further_tree w)) ≡ image_tree b x y (further_tree (if b then u else w))
tree_of_image true x y u w = refl
tree_of_image false x y u w = refl

using_tree : (t : Text) → is_phrase row.PRINTUSING t ≡ true
    → tree_at row.PRINTUSING t ≡ Put (Coded word.PRINTUSING) (image_tree (image_is_named t) (tree_at row.LINE_NUMBER (drop 1 t)) (tree_at row.IMAGE_LITERAL (drop 1 t)) (further_tree (after_image t)))
unfolding maybe_tree
using_tree t ok =
    (stands_of row.PRINTUSING using_items t using_row ok).1
    ∙ ap (Put (Coded word.PRINTUSING)) (tree_of_image (image_is_named t) (tree_at row.LINE_NUMBER (drop 1 t)) (tree_at row.IMAGE_LITERAL (drop 1 t)) (after_phrase row.LINE_NUMBER (drop 1 t)) (after_phrase row.IMAGE_LITERAL (drop 1 t)))

-- the image
line_part : (b : Bool) (x y : Type 0) → b ≡ true → When b x y → x
line_part true x y is h = h
line_part false x y is h = cc

other_part : (b : Bool) (x y : Type 0) → b ≡ false → When b x y → y
other_part true x y is h = cc
other_part false x y is h = h

line_answered : (t : Text) → is_phrase row.PRINTUSING t ≡ true → image_is_named t ≡ true → is_phrase row.LINE_NUMBER (drop 1 t) ≡ true
line_answered t ok is = (line_part (image_is_named t) _ _ is (stands_of row.PRINTUSING using_items t using_row ok).0.1).0

written_read : (t : Text) → is_phrase row.PRINTUSING t ≡ true → image_is_named t ≡ false → is_phrase row.IMAGE_LITERAL (drop 1 t) ≡ true
written_read t ok is = (other_part (image_is_named t) _ _ is (stands_of row.PRINTUSING using_items t using_row ok).0.1).0

pub line_here : (t : Text) → is_phrase row.PRINTUSING t ≡ true → image_is_named t ≡ true → is_leaf leaf.LineNumber (drop 1 t) ≡ true
line_here t ok is = (stands_of row.LINE_NUMBER line_items (drop 1 t) line_row (line_answered t ok is)).0.0

pub written_here : (t : Text) → is_phrase row.PRINTUSING t ≡ true → image_is_named t ≡ false → is_leaf leaf.Literal (drop 1 t) ≡ true
written_here t ok is = (stands_of row.IMAGE_LITERAL written_items (drop 1 t) written_row (written_read t ok is)).0.0

named_by : (lines : Lines) (b : Bool) (x y more : Trees) → image_named lines (Put (Coded word.PRINTUSING) (image_tree b x y more)) ≡ (if b then line_image (line_at (line_in x) lines) else Ok (written_image y))
named_by lines true x y more = refl
named_by lines false x y more = refl

image_is : (lines : Lines) (t : Text) → is_phrase row.PRINTUSING t ≡ true
    → image_named lines (tree_at row.PRINTUSING t) ≡ (if image_is_named t then line_image (line_at (line_in (tree_at row.LINE_NUMBER (drop 1 t))) lines) else Ok (written_image (tree_at row.IMAGE_LITERAL (drop 1 t))))
image_is lines t ok = ap (image_named lines) (using_tree t ok) ∙ named_by lines (image_is_named t) (tree_at row.LINE_NUMBER (drop 1 t)) (tree_at row.IMAGE_LITERAL (drop 1 t)) (further_tree (after_image t))

pub line_is : (lines : Lines) (t : Text) → is_phrase row.PRINTUSING t ≡ true → image_is_named t ≡ true
    → image_named lines (tree_at row.PRINTUSING t) ≡ line_image (line_at (line_of (get_or (drop 1 t) 1 0) (get_or (drop 1 t) 2 0)) lines)
line_is lines t ok is =
    image_is lines t ok
    ∙ ap (λ (b : Bool). if b then line_image (line_at (line_in (tree_at row.LINE_NUMBER (drop 1 t))) lines) else Ok (written_image (tree_at row.IMAGE_LITERAL (drop 1 t)))) is
    ∙ ap (λ (a : Trees). line_image (line_at (line_in a) lines)) (stands_of row.LINE_NUMBER line_items (drop 1 t) line_row (line_answered t ok is)).1

pub written_is : (lines : Lines) (t : Text) → is_phrase row.PRINTUSING t ≡ true → image_is_named t ≡ false
    → image_named lines (tree_at row.PRINTUSING t) ≡ Ok (literal_of (leaf_bytes leaf.Literal (drop 1 t)))
written_is lines t ok is =
    image_is lines t ok
    ∙ ap (λ (b : Bool). if b then line_image (line_at (line_in (tree_at row.LINE_NUMBER (drop 1 t))) lines) else Ok (written_image (tree_at row.IMAGE_LITERAL (drop 1 t)))) is
    ∙ ap (λ (a : Trees). Ok (written_image a)) (stands_of row.IMAGE_LITERAL written_items (drop 1 t) written_row (written_read t ok is)).1

pub after_line : (t : Text) → is_phrase row.PRINTUSING t ≡ true → image_is_named t ≡ true → items_text t ≡ drop 1 (drop 3 (drop 1 t))
after_line t ok is =
    ap (λ (b : Bool). drop 1 (if b then after_phrase row.LINE_NUMBER (drop 1 t) else after_phrase row.IMAGE_LITERAL (drop 1 t))) is
    ∙ ap (drop 1) (stands_of row.LINE_NUMBER line_items (drop 1 t) line_row (line_answered t ok is)).2

pub after_written : (t : Text) → is_phrase row.PRINTUSING t ≡ true → image_is_named t ≡ false → items_text t ≡ drop 1 (drop (leaf_width Atoms leaf.Literal (drop 1 t)) (drop 1 t))
after_written t ok is =
    ap (λ (b : Bool). drop 1 (if b then after_phrase row.LINE_NUMBER (drop 1 t) else after_phrase row.IMAGE_LITERAL (drop 1 t))) is
    ∙ ap (drop 1) (stands_of row.IMAGE_LITERAL written_items (drop 1 t) written_row (written_read t ok is)).2

-- operands of either kind
pub alpha_part : (t : Text) → is_phrase row.OPERAND_OF_ANY_KIND t ≡ true → starts Atoms start.Alpha t ≡ true → is_phrase row.ALPHA t ≡ true
alpha_part t ok is = ReadAs.part (is_bytes t ok is)

pub number_part : (t : Text) → is_phrase row.OPERAND_OF_ANY_KIND t ≡ true → starts Atoms start.Alpha t ≡ false → is_phrase row.SUM t ≡ true
number_part t ok is = ReadAs.part (is_number t ok is)

pub alpha_rest : (t : Text) → is_phrase row.OPERAND_OF_ANY_KIND t ≡ true → starts Atoms start.Alpha t ≡ true → past_operand t ≡ after_phrase row.ALPHA t
alpha_rest t ok is = ReadAs.rest (is_bytes t ok is)

pub number_rest : (t : Text) → is_phrase row.OPERAND_OF_ANY_KIND t ≡ true → starts Atoms start.Alpha t ≡ false → past_operand t ≡ after_phrase row.SUM t
number_rest t ok is = ReadAs.rest (is_number t ok is)

pub alpha_value : (s : Context) (t bytes : Text) → is_phrase row.OPERAND_OF_ANY_KIND t ≡ true → starts Atoms start.Alpha t ≡ true → text s (tree_at row.ALPHA t) ≡ Ok bytes
    → any_value s (tree_at row.OPERAND_OF_ANY_KIND t) ≡ Ok (kind.Alpha bytes)
alpha_value s t bytes ok is h = ap (any_value s) (ReadAs.tree (is_bytes t ok is)) ∙ ap (λ (r : TextAnswer). r >>= (λ b. Ok (kind.Alpha b))) h

pub alpha_code : (s : Context) (t : Text) (code : ℕ) → is_phrase row.OPERAND_OF_ANY_KIND t ≡ true → starts Atoms start.Alpha t ≡ true → text s (tree_at row.ALPHA t) ≡ Err code
    → any_value s (tree_at row.OPERAND_OF_ANY_KIND t) ≡ Err code
alpha_code s t code ok is h = ap (any_value s) (ReadAs.tree (is_bytes t ok is)) ∙ ap (λ (r : TextAnswer). r >>= (λ b. Ok (kind.Alpha b))) h

pub number_value : (s : Context) (t : Text) (x : Number) → is_phrase row.OPERAND_OF_ANY_KIND t ≡ true → starts Atoms start.Alpha t ≡ false → value s level.Sum (tree_at row.SUM t) ≡ Ok x
    → any_value s (tree_at row.OPERAND_OF_ANY_KIND t) ≡ Ok (kind.Number x)
number_value s t x ok is h = ap (any_value s) (ReadAs.tree (is_number t ok is)) ∙ ap (λ (r : Result Number ℕ). r >>= (λ y. Ok (kind.Number y))) h

pub number_code : (s : Context) (t : Text) (code : ℕ) → is_phrase row.OPERAND_OF_ANY_KIND t ≡ true → starts Atoms start.Alpha t ≡ false → value s level.Sum (tree_at row.SUM t) ≡ Err code
    → any_value s (tree_at row.OPERAND_OF_ANY_KIND t) ≡ Err code
number_code s t code ok is h = ap (any_value s) (ReadAs.tree (is_number t ok is)) ∙ ap (λ (r : Result Number ℕ). r >>= (λ y. Ok (kind.Number y))) h

-- the items of the statement
named_items : (b : Bool) (x y items : Trees) → items_named (Put (Coded word.PRINTUSING) (image_tree b x y (Put (Coded byte.comma) items))) ≡ items
named_items true x y items = refl
named_items false x y items = refl

items_are : (t : Text) → is_phrase row.PRINTUSING t ≡ true → items_named (tree_at row.PRINTUSING t) ≡ operands_tree (items_text t)
items_are t ok = ap items_named (using_tree t ok) ∙ named_items (image_is_named t) (tree_at row.LINE_NUMBER (drop 1 t)) (tree_at row.IMAGE_LITERAL (drop 1 t)) (operands_tree (items_text t))

-- what PRINTUSING shows, by its image, its values and its end
using_is : (s : Context) (t image : Text) → is_phrase row.PRINTUSING t ≡ true → image_named s.around.home.lines (tree_at row.PRINTUSING t) ≡ Ok image
    → prints_using s (tree_at row.PRINTUSING t) ≡ (values_of s (operands_at (items_text t)) >>= (λ xs. imaged image xs (is_joined (after_all_listed (operands_tree (items_text t))))))
using_is s t image ok is =
    ap (λ (r : TextAnswer). r >>= (λ i. items_using s i (items_named (tree_at row.PRINTUSING t)))) is
    ∙ ap (items_using s image) (items_are t ok)

pub image_refused : (s : Context) (t : Text) (code : ℕ) → image_named s.around.home.lines (tree_at row.PRINTUSING t) ≡ Err code → prints_using s (tree_at row.PRINTUSING t) ≡ Err code
image_refused s t code is = ap (λ (r : TextAnswer). r >>= (λ i. items_using s i (items_named (tree_at row.PRINTUSING t)))) is

values_by : (r : Result (List Value) ℕ) (f : List Value → TextAnswer) (e : Fault) → IsRefused r e → IsRefused (r >>= f) e
values_by r f (fault.Code code) h = ap (λ (q : Result (List Value) ℕ). q >>= f) h
values_by r f fault.NoMemory h = h

pub values_refused : (s : Context) (t image : Text) (e : Fault) → is_phrase row.PRINTUSING t ≡ true → image_named s.around.home.lines (tree_at row.PRINTUSING t) ≡ Ok image
    → IsRefused (values_of s (operands_at (items_text t))) e → IsRefused (prints_using s (tree_at row.PRINTUSING t)) e
values_refused s t image e ok is h =
    subst (λ (r : TextAnswer). IsRefused r e) (sym (using_is s t image ok is)) (values_by (values_of s (operands_at (items_text t))) (λ xs. imaged image xs (is_joined (after_all_listed (operands_tree (items_text t))))) e h)

from_none : (r : Result (List Value) ℕ) (xs : List Value) → values_joined [] r ≡ Ok xs → r ≡ Ok xs
from_none (Ok ys) xs h = h
from_none (Err code) xs h = cc

onto_none : (r : TextAnswer) → appended [] r ≡ r
onto_none (Ok bytes) = refl
onto_none (Err code) = refl

pub using_valued : (s : Context) (t image : Text) (xs : List Value) (more : Bool) → is_phrase row.PRINTUSING t ≡ true → image_named s.around.home.lines (tree_at row.PRINTUSING t) ≡ Ok image
    → values_joined [] (values_of s (operands_at (items_text t))) ≡ Ok xs → is_joined (after_all_listed (operands_tree (items_text t))) ≡ more → prints_using s (tree_at row.PRINTUSING t) ≡ imaged image xs more
using_valued s t image xs more ok is h joint =
    using_is s t image ok is
    ∙ ap (λ (r : Result (List Value) ℕ). r >>= (λ ys. imaged image ys (is_joined (after_all_listed (operands_tree (items_text t)))))) (from_none (values_of s (operands_at (items_text t))) xs h)
    ∙ ap (imaged image xs) joint

pub using_shown : (s : Context) (t image new : Text) (xs : List Value) (more : Bool) → is_phrase row.PRINTUSING t ≡ true → image_named s.around.home.lines (tree_at row.PRINTUSING t) ≡ Ok image
    → values_joined [] (values_of s (operands_at (items_text t))) ≡ Ok xs → is_joined (after_all_listed (operands_tree (items_text t))) ≡ more → Ok new ≡ appended [] (imaged image xs more)
    → prints_using s (tree_at row.PRINTUSING t) ≡ Ok new
using_shown s t image new xs more ok is h joint shown = using_valued s t image xs more ok is h joint ∙ sym (shown ∙ onto_none (imaged image xs more))

pub using_refused : (s : Context) (t image : Text) (xs : List Value) (more : Bool) (e : Fault) → is_phrase row.PRINTUSING t ≡ true → image_named s.around.home.lines (tree_at row.PRINTUSING t) ≡ Ok image
    → values_joined [] (values_of s (operands_at (items_text t))) ≡ Ok xs → is_joined (after_all_listed (operands_tree (items_text t))) ≡ more → IsRefused (imaged image xs more) e
    → IsRefused (prints_using s (tree_at row.PRINTUSING t)) e
using_refused s t image xs more e ok is h joint unassigned =
    subst (λ (r : TextAnswer). IsRefused r e) (sym (using_valued s t image xs more ok is h joint)) unassigned
