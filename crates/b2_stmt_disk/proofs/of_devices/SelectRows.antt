-- SELECT PRINT by its row: the address.
use Rattle.std.proofs.Common.{◌≡◌, ℕ, true, List, [], ◌∷◌, drop, Some, refl, ap}
use Rattle.b2_base.specs.declared.codes.TheConstants.{S23_DEVICE}
use Rattle.b2_atom.specs.Words.{Text}
use Rattle.b2_atom.specs.Grammar.{row_items}
use Rattle.b2_atom.specs.declared.words.TheConstants as word
use Rattle.b2_atom.specs.declared.rows.TheConstants as row
use Rattle.b2_atom.specs.declared.forms.Leaf.TheVariants as leaf
use Rattle.b2_atom.specs.declared.forms.Item.{Item}
use Rattle.b2_atom.specs.declared.forms.Item.TheVariants.{Word, Typed}
use Rattle.b2_rows.specs.Leaves.{is_leaf, leaf_bytes}
use Rattle.b2_rows.specs.Rows.{is_phrase, tree_at}
use Rattle.b2_rows.proofs.RowsRead.{stands_of}
use Rattle.b2_access.specs.declared.devices.Device.{Device}
use Rattle.b2_stmt_disk.specs.devices.Selecting.{device_if_shown, device_selected}

abbrev select_items : List Item
select_items = Word word.SELECT ∷ Word word.PRINT ∷ Typed leaf.Address S23_DEVICE ∷ []

select_row : row_items row.SELECT_PRINT ≡ select_items
unfolding row_items
select_row = refl

pub address_here : (t : Text) → is_phrase row.SELECT_PRINT t ≡ true → is_leaf leaf.Address (drop 1 (drop 1 t)) ≡ true
address_here t ok = (stands_of row.SELECT_PRINT select_items t select_row ok).0.1.1.0

pub selected_is : (devices : List Device) (who : ℕ) (t : Text) → is_phrase row.SELECT_PRINT t ≡ true
    → device_selected devices who (tree_at row.SELECT_PRINT t) ≡ device_if_shown devices who (Some (leaf_bytes leaf.Address (drop 1 (drop 1 t))))
selected_is devices who t ok = ap (device_selected devices who) (stands_of row.SELECT_PRINT select_items t select_row ok).1
