-- GOSUB and RETURN CLEAR, by their rows.
use Rattle.std.proofs.Common.{◌≡◌, ◌==◌, Bool, true, false, if◌then◌else◌, List, [], ◌∷◌, drop, get_or, refl, ap, ◌∙◌}
use Rattle.b2_base.specs.Lexical.{first}
use Rattle.b2_base.specs.declared.codes.TheConstants.{S15_LINE_NUMBER}
use Rattle.b2_atom.specs.Words.{Text}
use Rattle.b2_atom.specs.Tokens.Token.{Coded}
use Rattle.b2_atom.specs.Tree.{Trees}
use Rattle.b2_atom.specs.Tree.Trees.{Done, Put, In}
use Rattle.b2_atom.specs.Grammar.{row_items, starts}
use Rattle.b2_atom.specs.declared.words.TheConstants as word
use Rattle.b2_atom.specs.declared.rows.TheConstants as row
use Rattle.b2_atom.specs.declared.forms.Start.TheVariants as start
use Rattle.b2_atom.specs.declared.forms.Leaf.TheVariants as leaf
use Rattle.b2_atom.specs.declared.forms.Item.{Item}
use Rattle.b2_atom.specs.declared.forms.Item.TheVariants.{Word, Typed, Maybe}
use Rattle.b2_rows.specs.Leaves.{is_leaf}
use Rattle.b2_rows.specs.Rows.{is_phrase, tree_at}
use Rattle.b2_rows.specs.Values.{line_of}
use Rattle.b2_rows.proofs.RowsRead.{stands_of}
use Rattle.b2_stmt.specs.Calls.{line_called, has_all}

abbrev gosub_items : List Item
gosub_items = Word word.GOSUB ∷ Typed leaf.LineNumber S15_LINE_NUMBER ∷ []

gosub_row : row_items row.GOSUB ≡ gosub_items
unfolding row_items
gosub_row = refl

pub gosub_line : (t : Text) → is_phrase row.GOSUB t ≡ true → is_leaf leaf.LineNumber (drop 1 t) ≡ true
gosub_line t ok = (stands_of row.GOSUB gosub_items t gosub_row ok).0.1.0

pub gosub_is : (t : Text) → is_phrase row.GOSUB t ≡ true → line_called (tree_at row.GOSUB t) ≡ line_of (get_or (drop 1 t) 1 0) (get_or (drop 1 t) 2 0)
gosub_is t ok = ap line_called (stands_of row.GOSUB gosub_items t gosub_row ok).1

abbrev clear_items : List Item
clear_items = Word word.RETURN ∷ Word word.CLEAR ∷ Maybe (start.Code word.ALL) row.ALL ∷ []

clear_row : row_items row.RETURN_CLEAR ≡ clear_items
unfolding row_items
clear_row = refl

all_by : (b : Bool) (a : Trees) → has_all (Put (Coded word.RETURN) (Put (Coded word.CLEAR) (if b then In 1 a Done else In 0 Done Done))) ≡ b
all_by true a = refl
all_by false a = refl

pub all_is : (t : Text) → is_phrase row.RETURN_CLEAR t ≡ true → has_all (tree_at row.RETURN_CLEAR t) ≡ (first (drop 1 (drop 1 t)) == word.ALL)
unfolding starts
all_is t ok = ap has_all (stands_of row.RETURN_CLEAR clear_items t clear_row ok).1 ∙ all_by (first (drop 1 (drop 1 t)) == word.ALL) (tree_at row.ALL (drop 1 (drop 1 t)))
