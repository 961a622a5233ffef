-- The lines that LIST names stand after its word.
use Rattle.std.proofs.Common.{◌≡◌, true, List, [], ◌∷◌, drop, refl, ap}
use Rattle.b2_atom.specs.Words.{Text}
use Rattle.b2_atom.specs.Grammar.{row_items}
use Rattle.b2_atom.specs.declared.words.TheConstants as word
use Rattle.b2_atom.specs.declared.rows.TheConstants as row
use Rattle.b2_atom.specs.declared.forms.Start.TheVariants as start
use Rattle.b2_atom.specs.declared.forms.Item.{Item}
use Rattle.b2_atom.specs.declared.forms.Item.TheVariants.{Word, Maybe}
use Rattle.b2_rows.specs.LineNumbers.{named_lines}
use Rattle.b2_rows.specs.Rows.{is_phrase, tree_at}
use Rattle.b2_rows.specs.Optional.{maybe_phrase, maybe_tree}
use Rattle.b2_rows.proofs.Optional.{maybe_stands}
use Rattle.b2_rows.proofs.RowsRead.{stands_of}
use Rattle.b2_machine.specs.Listed.{named_range, range_of}

abbrev list_items : List Item
list_items = Word word.LIST ∷ Maybe start.Line row.LINE_NUMBERS ∷ []

list_row : row_items row.LIST ≡ list_items
unfolding row_items
list_row = refl

pub list_lines : (t : Text) → is_phrase row.LIST t ≡ true → maybe_phrase start.Line row.LINE_NUMBERS (drop 1 t) ≡ true
list_lines t ok = maybe_stands _ _ _ (stands_of row.LIST list_items t list_row ok).0.1

pub list_is : (t : Text) → is_phrase row.LIST t ≡ true → named_range (tree_at row.LIST t) ≡ range_of (named_lines (maybe_tree start.Line row.LINE_NUMBERS (drop 1 t)))
unfolding maybe_tree
list_is t ok = ap named_range (stands_of row.LIST list_items t list_row ok).1
