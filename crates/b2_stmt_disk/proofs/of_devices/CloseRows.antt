-- `$CLOSE` by its row: the devices that may be named.
use Rattle.std.proofs.Common.{◌≡◌, ◌==◌, true, false, List, [], ◌∷◌, drop, Some, None, refl, ap, ◌∙◌}
use Rattle.b2_base.specs.Byte as byte
use Rattle.b2_base.specs.Lexical.{first}
use Rattle.b2_atom.specs.Words.{Text}
use Rattle.b2_atom.specs.Tokens.Token.{Coded}
use Rattle.b2_atom.specs.Tree.{Trees}
use Rattle.b2_atom.specs.Tree.Trees.{Put}
use Rattle.b2_atom.specs.Grammar.{row_items}
use Rattle.b2_atom.specs.declared.words.TheConstants as word
use Rattle.b2_atom.specs.declared.rows.TheConstants as row
use Rattle.b2_atom.specs.declared.forms.Start.TheVariants as start
use Rattle.b2_atom.specs.declared.forms.Item.{Item}
use Rattle.b2_atom.specs.declared.forms.Item.TheVariants.{Word, Maybe}
use Rattle.b2_rows.specs.Rows.{is_phrase, tree_at}
use Rattle.b2_rows.specs.Optional.{maybe_phrase, maybe_tree}
use Rattle.b2_rows.proofs.Optional.{maybe_stands, begun_part, begun_tree, left_out_tree}
use Rattle.b2_rows.proofs.RowsRead.{stands_of}
use Rattle.b2_drive.proofs.DriveRows.{slash_starts}
use Rattle.b2_stmt_disk.specs.devices.Freeing.{devices_to_free}
use Rattle.b2_stmt_disk.specs.devices.Lists.{devices_in}

abbrev close_items : List Item
close_items = Word word.DOLLAR_CLOSE ∷ Maybe (start.Code byte.slash) row.DEVICES ∷ []

close_row : row_items row.CLOSE ≡ close_items
unfolding row_items
close_row = refl

named_here : (t : Text) → is_phrase row.CLOSE t ≡ true → maybe_phrase (start.Code byte.slash) row.DEVICES (drop 1 t) ≡ true
named_here t ok = maybe_stands (start.Code byte.slash) row.DEVICES (drop 1 t) (stands_of row.CLOSE close_items t close_row ok).0.1

close_tree : (t : Text) → is_phrase row.CLOSE t ≡ true → tree_at row.CLOSE t ≡ Put (Coded word.DOLLAR_CLOSE) (maybe_tree (start.Code byte.slash) row.DEVICES (drop 1 t))
unfolding maybe_tree
close_tree t ok = (stands_of row.CLOSE close_items t close_row ok).1

pub devices_here : (t : Text) → is_phrase row.CLOSE t ≡ true → (first (drop 1 t) == byte.slash) ≡ true → is_phrase row.DEVICES (drop 1 t) ≡ true
devices_here t ok is = begun_part (start.Code byte.slash) row.DEVICES (drop 1 t) (named_here t ok) (slash_starts (drop 1 t) true is)

pub named_is : (t : Text) → is_phrase row.CLOSE t ≡ true → (first (drop 1 t) == byte.slash) ≡ true → devices_to_free (tree_at row.CLOSE t) ≡ Some (devices_in (tree_at row.DEVICES (drop 1 t)))
named_is t ok is =
    ap devices_to_free (close_tree t ok)
    ∙ ap (λ (a : Trees). devices_to_free (Put (Coded word.DOLLAR_CLOSE) a)) (begun_tree (start.Code byte.slash) row.DEVICES (drop 1 t) (slash_starts (drop 1 t) true is))

pub none_named : (t : Text) → is_phrase row.CLOSE t ≡ true → (first (drop 1 t) == byte.slash) ≡ false → devices_to_free (tree_at row.CLOSE t) ≡ None
none_named t ok is =
    ap devices_to_free (close_tree t ok)
    ∙ ap (λ (a : Trees). devices_to_free (Put (Coded word.DOLLAR_CLOSE) a)) (left_out_tree (start.Code byte.slash) row.DEVICES (drop 1 t) (slash_starts (drop 1 t) false is))
