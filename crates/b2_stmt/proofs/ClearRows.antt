-- The lines that CLEAR P names stand after its letter.
use Rattle.std.proofs.Common.{◌≡◌, ℕ, true, List, [], ◌∷◌, drop, refl, ap}
use Rattle.b2_base.specs.Byte as byte
use Rattle.b2_base.specs.declared.codes.TheConstants.{S22_WORD}
use Rattle.b2_atom.specs.Words.{Text}
use Rattle.b2_atom.specs.Grammar.{row_items}
use Rattle.b2_atom.specs.declared.words.TheConstants as word
use Rattle.b2_atom.specs.declared.rows.TheConstants as row
use Rattle.b2_atom.specs.declared.forms.Start.TheVariants as start
use Rattle.b2_atom.specs.declared.forms.Item.{Item}
use Rattle.b2_atom.specs.declared.forms.Item.TheVariants.{Word, Sign, Maybe}
use Rattle.b2_rows.specs.LineNumbers.{named_lines}
use Rattle.b2_rows.specs.Rows.{is_phrase, tree_at}
use Rattle.b2_rows.specs.Optional.{maybe_phrase, maybe_tree}
use Rattle.b2_rows.proofs.Optional.{maybe_stands}
use Rattle.b2_rows.proofs.RowsRead.{stands_of}
use Rattle.b2_stmt.specs.Clearing.{asks_to_erase, erases_lines}

abbrev clear_items : List Item
clear_items = Word word.CLEAR ∷ Sign byte.upper_p S22_WORD ∷ Maybe start.Line row.LINE_NUMBERS ∷ []

clear_row : row_items row.CLEAR_P ≡ clear_items
unfolding row_items
clear_row = refl

pub clear_lines : (t : Text) → is_phrase row.CLEAR_P t ≡ true → maybe_phrase start.Line row.LINE_NUMBERS (drop 1 (drop 1 t)) ≡ true
clear_lines t ok = maybe_stands _ _ _ (stands_of row.CLEAR_P clear_items t clear_row ok).0.1.1

pub clear_is : (homes : ℕ) (t : Text) → is_phrase row.CLEAR_P t ≡ true → asks_to_erase homes (tree_at row.CLEAR_P t) ≡ erases_lines homes (named_lines (maybe_tree start.Line row.LINE_NUMBERS (drop 1 (drop 1 t))))
unfolding maybe_tree
clear_is homes t ok = ap (asks_to_erase homes) (stands_of row.CLEAR_P clear_items t clear_row ok).1
