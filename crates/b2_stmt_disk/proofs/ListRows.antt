-- LIST DC by its row: its drive.
use Rattle.std.proofs.Common.{◌≡◌, true, List, [], ◌∷◌, drop, Ok, refl, ap}
use Rattle.b2_atom.specs.Words.{Text}
use Rattle.b2_atom.specs.Grammar.{row_items}
use Rattle.b2_atom.specs.declared.words.TheConstants as word
use Rattle.b2_atom.specs.declared.rows.TheConstants as row
use Rattle.b2_atom.specs.declared.forms.Item.{Item}
use Rattle.b2_atom.specs.declared.forms.Item.TheVariants.{Word, Part}
use Rattle.b2_rows.specs.Rows.{is_phrase, tree_at}
use Rattle.b2_rows.proofs.RowsRead.{stands_of}
use Rattle.b2_expr.specs.Answers.{◌>>=◌}
use Rattle.b2_access.specs.declared.accesses.Access.TheVariants as access
use Rattle.b2_drive.specs.Drives.{DrivesSeen, drive_used}
use Rattle.b2_stmt_disk.specs.Listing.{asks_to_list}

abbrev items : List Item
items = Word word.LIST ∷ Word word.DC ∷ Part row.DRIVE ∷ []

list_row : row_items row.LIST_DISK ≡ items
unfolding row_items
list_row = refl

pub list_drive : (t : Text) → is_phrase row.LIST_DISK t ≡ true → is_phrase row.DRIVE (drop 1 (drop 1 t)) ≡ true
list_drive t ok = (stands_of row.LIST_DISK items t list_row ok).0.1.1.0

pub list_is : (d : DrivesSeen) (t : Text) → is_phrase row.LIST_DISK t ≡ true → asks_to_list d (tree_at row.LIST_DISK t) ≡ (drive_used d (tree_at row.DRIVE (drop 1 (drop 1 t))) >>= (λ addr. Ok (access.ListDisk addr)))
list_is d t ok = ap (asks_to_list d) (stands_of row.LIST_DISK items t list_row ok).1
