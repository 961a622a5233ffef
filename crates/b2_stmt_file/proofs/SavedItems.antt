-- The items of a record that is saved, by their rows: whole arrays and expressions, one after another.
use Rattle.std.proofs.Common.{◌≡◌, ◌<◌, ℕ, ◌==◌, true, false, List, [], ◌∷◌, length, drop, Ok, Err, refl, sym, ap, ◌∙◌}
use Rattle.std.proofs.lemmas.List.{append-nil}
use Rattle.b2_base.specs.Byte as byte
use Rattle.b2_base.specs.Lexical.{first}
use Rattle.b2_base.specs.declared.codes.TheConstants.{S13_SEPARATOR}
use Rattle.b2_dec.specs.declared.values.Value.{Value}
use Rattle.b2_atom.specs.Words.{Text}
use Rattle.b2_atom.specs.Tree.{Trees}
use Rattle.b2_atom.specs.Tree.Trees.{Done}
use Rattle.b2_atom.specs.Grammar.{row_items, starts}
use Rattle.b2_atom.specs.declared.words.Origin.TheVariants.{Atoms}
use Rattle.b2_atom.specs.declared.rows.TheConstants as row
use Rattle.b2_atom.specs.declared.forms.Start.TheVariants as start
use Rattle.b2_atom.specs.declared.forms.Item.{Item}
use Rattle.b2_atom.specs.declared.forms.Item.TheVariants.{Part, Many}
use Rattle.b2_rows.specs.Choices.{ReadAs, first_branch, second_branch}
use Rattle.b2_rows.specs.CommaLists.{all_listed, commas}
use Rattle.b2_rows.specs.Rows.{is_phrase, tree_at, after_phrase, is_list}
use Rattle.b2_rows.proofs.Choices.{either_first, either_second}
use Rattle.b2_rows.proofs.CommaLists.{IsComma, Other, item_shorter, items_of_other, no_items_left, other}
use Rattle.b2_rows.proofs.RowsRead.{stands_of}
use Rattle.b2_expr.specs.Scope.{Context}
use Rattle.b2_stmt_file.specs.SavedValues.{all_saved, alpha_saved, array_saved, item_saved, items_at, number_saved, operand_saved, other_items, values_before}
use Rattle.b2_stmt_file.proofs.SavedRows.{put_then, refused_then}

-- an expression of either kind
alpha_read : (t : Text) → is_phrase row.OPERAND_OF_ANY_KIND t ≡ true → starts Atoms start.Alpha t ≡ true → ReadAs row.OPERAND_OF_ANY_KIND row.ALPHA first_branch t
unfolding row_items
alpha_read t ok is = either_first row.OPERAND_OF_ANY_KIND row.ALPHA row.SUM start.Alpha t refl ok is

number_read : (t : Text) → is_phrase row.OPERAND_OF_ANY_KIND t ≡ true → starts Atoms start.Alpha t ≡ false → ReadAs row.OPERAND_OF_ANY_KIND row.SUM second_branch t
unfolding row_items
number_read t ok is = either_second row.OPERAND_OF_ANY_KIND row.ALPHA row.SUM start.Alpha t refl ok is

pub alpha_here : (t : Text) → is_phrase row.OPERAND_OF_ANY_KIND t ≡ true → starts Atoms start.Alpha t ≡ true → is_phrase row.ALPHA t ≡ true
alpha_here t ok is = ReadAs.part (alpha_read t ok is)

pub alpha_is : (s : Context) (t : Text) → is_phrase row.OPERAND_OF_ANY_KIND t ≡ true → starts Atoms start.Alpha t ≡ true → operand_saved s (tree_at row.OPERAND_OF_ANY_KIND t) ≡ alpha_saved s (tree_at row.ALPHA t)
alpha_is s t ok is = ap (operand_saved s) (ReadAs.tree (alpha_read t ok is))

pub alpha_rest : (t : Text) → is_phrase row.OPERAND_OF_ANY_KIND t ≡ true → starts Atoms start.Alpha t ≡ true → after_phrase row.OPERAND_OF_ANY_KIND t ≡ after_phrase row.ALPHA t
alpha_rest t ok is = ReadAs.rest (alpha_read t ok is)

pub number_here : (t : Text) → is_phrase row.OPERAND_OF_ANY_KIND t ≡ true → starts Atoms start.Alpha t ≡ false → is_phrase row.SUM t ≡ true
number_here t ok is = ReadAs.part (number_read t ok is)

pub number_is : (s : Context) (t : Text) → is_phrase row.OPERAND_OF_ANY_KIND t ≡ true → starts Atoms start.Alpha t ≡ false → operand_saved s (tree_at row.OPERAND_OF_ANY_KIND t) ≡ number_saved s (tree_at row.SUM t)
number_is s t ok is = ap (operand_saved s) (ReadAs.tree (number_read t ok is))

pub number_rest : (t : Text) → is_phrase row.OPERAND_OF_ANY_KIND t ≡ true → starts Atoms start.Alpha t ≡ false → after_phrase row.OPERAND_OF_ANY_KIND t ≡ after_phrase row.SUM t
number_rest t ok is = ReadAs.rest (number_read t ok is)

-- a whole array, or an expression
array_read : (t : Text) → is_phrase row.SAVED t ≡ true → starts Atoms start.Array t ≡ true → ReadAs row.SAVED row.WHOLE_ARRAY first_branch t
unfolding row_items
array_read t ok is = either_first row.SAVED row.WHOLE_ARRAY row.OPERAND_OF_ANY_KIND start.Array t refl ok is

operand_read : (t : Text) → is_phrase row.SAVED t ≡ true → starts Atoms start.Array t ≡ false → ReadAs row.SAVED row.OPERAND_OF_ANY_KIND second_branch t
unfolding row_items
operand_read t ok is = either_second row.SAVED row.WHOLE_ARRAY row.OPERAND_OF_ANY_KIND start.Array t refl ok is

pub array_here : (t : Text) → is_phrase row.SAVED t ≡ true → starts Atoms start.Array t ≡ true → is_phrase row.WHOLE_ARRAY t ≡ true
array_here t ok is = ReadAs.part (array_read t ok is)

pub array_is : (s : Context) (t : Text) → is_phrase row.SAVED t ≡ true → starts Atoms start.Array t ≡ true → item_saved s (tree_at row.SAVED t) ≡ array_saved s (tree_at row.WHOLE_ARRAY t)
array_is s t ok is = ap (item_saved s) (ReadAs.tree (array_read t ok is))

pub array_rest : (t : Text) → is_phrase row.SAVED t ≡ true → starts Atoms start.Array t ≡ true → after_phrase row.SAVED t ≡ after_phrase row.WHOLE_ARRAY t
array_rest t ok is = ReadAs.rest (array_read t ok is)

pub operand_here : (t : Text) → is_phrase row.SAVED t ≡ true → starts Atoms start.Array t ≡ false → is_phrase row.OPERAND_OF_ANY_KIND t ≡ true
operand_here t ok is = ReadAs.part (operand_read t ok is)

pub operand_is : (s : Context) (t : Text) → is_phrase row.SAVED t ≡ true → starts Atoms start.Array t ≡ false → item_saved s (tree_at row.SAVED t) ≡ operand_saved s (tree_at row.OPERAND_OF_ANY_KIND t)
operand_is s t ok is = ap (item_saved s) (ReadAs.tree (operand_read t ok is))

pub operand_rest : (t : Text) → is_phrase row.SAVED t ≡ true → starts Atoms start.Array t ≡ false → after_phrase row.SAVED t ≡ after_phrase row.OPERAND_OF_ANY_KIND t
operand_rest t ok is = ReadAs.rest (operand_read t ok is)

-- further items
comma_row : IsComma row.COMMA_SAVED row.SAVED S13_SEPARATOR
unfolding row_items
comma_row = refl

abbrev Others : Text → Type 0
Others t = is_list commas row.COMMA_SAVED t ≡ true

pub other_part : (t : Text) → Others t → (first t == byte.comma) ≡ true → is_phrase row.SAVED (drop 1 t) ≡ true
other_part t ok is = Other.part (other row.COMMA_SAVED row.SAVED S13_SEPARATOR t comma_row ok is)

pub other_list : (t : Text) → Others t → (first t == byte.comma) ≡ true → Others (after_phrase row.SAVED (drop 1 t))
other_list t ok is = Other.list (other row.COMMA_SAVED row.SAVED S13_SEPARATOR t comma_row ok is)

pub saved_shorter : (t : Text) → (first (after_phrase row.SAVED t) == byte.comma) ≡ true → length (drop 1 (after_phrase row.SAVED t)) < length t
saved_shorter t is = item_shorter row.SAVED t is

further_items : (t : Text) → Others t → (first t == byte.comma) ≡ true → other_items t ≡ items_at (drop 1 t)
further_items t ok is = items_of_other row.COMMA_SAVED row.SAVED S13_SEPARATOR Done t comma_row ok is

no_items : (t : Text) → (first t == byte.comma) ≡ false → other_items t ≡ []
no_items t is = no_items_left row.COMMA_SAVED Done t is

-- one that was put after others, and those that are left
pub one_put : (s : Context) (t : Text) (old new : List Value) → Others (after_phrase row.SAVED t) → (first (after_phrase row.SAVED t) == byte.comma) ≡ true → values_before old (item_saved s (tree_at row.SAVED t)) ≡ Ok new
    → values_before new (all_saved s (items_at (drop 1 (after_phrase row.SAVED t)))) ≡ values_before old (all_saved s (items_at t))
one_put s t old new ok is put =
    sym (ap (λ (ts : List Trees). values_before new (all_saved s ts)) (further_items (after_phrase row.SAVED t) ok is))
    ∙ put_then (item_saved s (tree_at row.SAVED t)) (all_saved s (other_items (after_phrase row.SAVED t))) old new put

pub last_put : (s : Context) (t : Text) (old new : List Value) → (first (after_phrase row.SAVED t) == byte.comma) ≡ false → values_before old (item_saved s (tree_at row.SAVED t)) ≡ Ok new
    → values_before old (all_saved s (items_at t)) ≡ Ok new
last_put s t old new is put =
    sym (put_then (item_saved s (tree_at row.SAVED t)) (all_saved s (other_items (after_phrase row.SAVED t))) old new put)
    ∙ ap (λ (ts : List Trees). values_before new (all_saved s ts)) (no_items (after_phrase row.SAVED t) is)
    ∙ ap Ok (append-nil new)

pub refused : (s : Context) (t : Text) (old : List Value) (c : ℕ) → item_saved s (tree_at row.SAVED t) ≡ Err c → values_before old (all_saved s (items_at t)) ≡ Err c
refused s t old c is = refused_then (item_saved s (tree_at row.SAVED t)) (all_saved s (other_items (after_phrase row.SAVED t))) old c is

-- the whole list
abbrev list_items : List Item
list_items = Part row.SAVED ∷ Many commas row.COMMA_SAVED ∷ []

list_row : row_items row.SAVED_LIST ≡ list_items
unfolding row_items
list_row = refl

pub first_item : (t : Text) → is_phrase row.SAVED_LIST t ≡ true → is_phrase row.SAVED t ≡ true
first_item t ok = (stands_of row.SAVED_LIST list_items t list_row ok).0.0

pub item_list : (t : Text) → is_phrase row.SAVED_LIST t ≡ true → Others (after_phrase row.SAVED t)
item_list t ok = (stands_of row.SAVED_LIST list_items t list_row ok).0.1.0

pub list_is : (t : Text) → is_phrase row.SAVED_LIST t ≡ true → all_listed (tree_at row.SAVED_LIST t) ≡ items_at t
list_is t ok = ap all_listed (stands_of row.SAVED_LIST list_items t list_row ok).1
