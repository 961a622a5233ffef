-- Receivers in a list: those after a comma.
use Rattle.std.proofs.Common.{◌≡◌, ◌<◌, ◌==◌, true, false, [], length, drop, refl}
use Rattle.b2_base.specs.Byte as byte
use Rattle.b2_base.specs.Lexical.{first}
use Rattle.b2_base.specs.declared.codes.TheConstants.{S13_SEPARATOR}
use Rattle.b2_atom.specs.Words.{Text}
use Rattle.b2_atom.specs.Tree.Trees.{Done}
use Rattle.b2_atom.specs.Grammar.{row_items}
use Rattle.b2_atom.specs.declared.rows.TheConstants as row
use Rattle.b2_rows.specs.Rows.{is_phrase, after_phrase}
use Rattle.b2_rows.specs.CommaLists.{are_others, others_at, past_first, receivers_at}
use Rattle.b2_rows.proofs.CommaLists.{IsComma, Other, other, item_shorter, items_of_other, no_items_left}

comma_row : IsComma row.COMMA_RECEIVER row.RECEIVER S13_SEPARATOR
unfolding row_items
comma_row = refl

pub other_part : (t : Text) → are_others t ≡ true → (first t == byte.comma) ≡ true → is_phrase row.RECEIVER (drop 1 t) ≡ true
other_part t ok is = Other.part (other row.COMMA_RECEIVER row.RECEIVER S13_SEPARATOR t comma_row ok is)

pub other_list : (t : Text) → are_others t ≡ true → (first t == byte.comma) ≡ true → are_others (past_first (drop 1 t)) ≡ true
other_list t ok is = Other.list (other row.COMMA_RECEIVER row.RECEIVER S13_SEPARATOR t comma_row ok is)

pub other_items : (t : Text) → are_others t ≡ true → (first t == byte.comma) ≡ true → others_at t ≡ receivers_at (drop 1 t)
other_items t ok is = items_of_other row.COMMA_RECEIVER row.RECEIVER S13_SEPARATOR Done t comma_row ok is

pub no_items : (t : Text) → (first t == byte.comma) ≡ false → others_at t ≡ []
no_items t is = no_items_left row.COMMA_RECEIVER Done t is

pub receiver_shorter : (t : Text) → (first (after_phrase row.RECEIVER t) == byte.comma) ≡ true → length (drop 1 (after_phrase row.RECEIVER t)) < length t
receiver_shorter t is = item_shorter row.RECEIVER t is
