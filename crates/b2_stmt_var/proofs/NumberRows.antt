-- The receivers of an assignment of a number and its expression, by its row.
use Rattle.std.proofs.Common.{◌≡◌, ◌<◌, ◌==◌, Bool, true, false, List, [], ◌∷◌, length, drop, refl, sym, ap, ◌∙◌}
use Rattle.b2_base.specs.Byte as byte
use Rattle.b2_base.specs.Lexical.{first}
use Rattle.b2_base.specs.declared.codes.TheConstants.{S12_EQUALS, S13_SEPARATOR}
use Rattle.b2_atom.specs.Words.{Text}
use Rattle.b2_atom.specs.Tokens.Token.{Coded}
use Rattle.b2_atom.specs.Tree.{Trees}
use Rattle.b2_atom.specs.Tree.Trees.{Done, Put, In}
use Rattle.b2_atom.specs.Grammar.{row_items}
use Rattle.b2_atom.specs.declared.rows.TheConstants as row
use Rattle.b2_atom.specs.declared.forms.Item.{Item}
use Rattle.b2_atom.specs.declared.forms.Item.TheVariants.{Sign, Part, Many}
use Rattle.b2_rows.specs.Rows.{is_phrase, tree_at, after_phrase, is_list, after_list, Ends}
use Rattle.b2_rows.proofs.RowsRead.{stands_of}
use Rattle.b2_stmt_var.specs.Assignments.{sum_of_assignment}
use Rattle.b2_rows.specs.CommaLists.{after_all_listed, after_further_listed, all_listed, further_listed, commas}
use Rattle.b2_rows.proofs.CommaLists.{IsComma, Other, other, no_other, tail_at, items_of_other, end_of_other, no_items_left, end_left, other_shorter as shorter, item_shorter}

abbrev items : List Item
items = Part row.NUMERIC_RECEIVER ∷ Many commas row.COMMA_NUMERIC_RECEIVER ∷ Sign byte.equals S12_EQUALS ∷ Part row.SUM ∷ []

row_is : row_items row.NUMERIC_ASSIGNMENT ≡ items
unfolding row_items
row_is = refl

comma_row : IsComma row.COMMA_NUMERIC_RECEIVER row.NUMERIC_RECEIVER S13_SEPARATOR
unfolding row_items
comma_row = refl

abbrev pub past_first : Text → Text
past_first t = after_phrase row.NUMERIC_RECEIVER t

abbrev pub are_others : Text → Bool
are_others t = is_list commas row.COMMA_NUMERIC_RECEIVER t

abbrev pub after_others : Text → Text
after_others t = after_list commas row.COMMA_NUMERIC_RECEIVER t

-- the end of an assignment whose other receivers stand at a text
abbrev pub end_at : Text → Trees
end_at t = Put (Coded byte.equals) (In 2 (tree_at row.SUM (drop 1 (after_others t))) Done)

-- the receivers that are left, and that end
abbrev pub left_at : Trees → Text → Trees
left_at e t = tail_at row.COMMA_NUMERIC_RECEIVER e t

pub first_part : (t : Text) → is_phrase row.NUMERIC_ASSIGNMENT t ≡ true → is_phrase row.NUMERIC_RECEIVER t ≡ true
first_part t ok = (stands_of row.NUMERIC_ASSIGNMENT items t row_is ok).0.0

pub first_list : (t : Text) → is_phrase row.NUMERIC_ASSIGNMENT t ≡ true → are_others (past_first t) ≡ true
first_list t ok = (stands_of row.NUMERIC_ASSIGNMENT items t row_is ok).0.1.0

pub other_part : (t : Text) → are_others t ≡ true → (first t == byte.comma) ≡ true → is_phrase row.NUMERIC_RECEIVER (drop 1 t) ≡ true
other_part t ok is = Other.part (other row.COMMA_NUMERIC_RECEIVER row.NUMERIC_RECEIVER S13_SEPARATOR t comma_row ok is)

pub other_list : (t : Text) → are_others t ≡ true → (first t == byte.comma) ≡ true → are_others (after_phrase row.NUMERIC_RECEIVER (drop 1 t)) ≡ true
other_list t ok is = Other.list (other row.COMMA_NUMERIC_RECEIVER row.NUMERIC_RECEIVER S13_SEPARATOR t comma_row ok is)

pub other_rest : (t : Text) → are_others t ≡ true → (first t == byte.comma) ≡ true → after_others (after_phrase row.NUMERIC_RECEIVER (drop 1 t)) ≡ after_others t
other_rest t ok is = sym (Other.rest (other row.COMMA_NUMERIC_RECEIVER row.NUMERIC_RECEIVER S13_SEPARATOR t comma_row ok is))

pub other_end : (e : Trees) (t : Text) → are_others t ≡ true → (first t == byte.comma) ≡ true → after_further_listed (left_at e (after_phrase row.NUMERIC_RECEIVER (drop 1 t))) ≡ after_further_listed (left_at e t)
other_end e t ok is = sym (end_of_other row.COMMA_NUMERIC_RECEIVER row.NUMERIC_RECEIVER S13_SEPARATOR e t comma_row ok is)

pub other_items : (e : Trees) (t : Text) → are_others t ≡ true → (first t == byte.comma) ≡ true
    → further_listed (left_at e t) ≡ tree_at row.NUMERIC_RECEIVER (drop 1 t) ∷ further_listed (left_at e (after_phrase row.NUMERIC_RECEIVER (drop 1 t)))
other_items e t ok is = items_of_other row.COMMA_NUMERIC_RECEIVER row.NUMERIC_RECEIVER S13_SEPARATOR e t comma_row ok is

pub no_items : (e : Trees) (t : Text) → (first t == byte.comma) ≡ false → further_listed (left_at e t) ≡ []
no_items e t is = no_items_left row.COMMA_NUMERIC_RECEIVER e t is

pub other_shorter : (t : Text) → (first t == byte.comma) ≡ true → length (after_phrase row.NUMERIC_RECEIVER (drop 1 t)) < length t
other_shorter t is = shorter row.NUMERIC_RECEIVER t is

pub receiver_shorter : (t : Text) → (first (after_phrase row.NUMERIC_RECEIVER t) == byte.comma) ≡ true → length (drop 1 (after_phrase row.NUMERIC_RECEIVER t)) < length t
receiver_shorter t is = item_shorter row.NUMERIC_RECEIVER t is

whole : (t : Text) → is_phrase row.NUMERIC_ASSIGNMENT t ≡ true → tree_at row.NUMERIC_ASSIGNMENT t ≡ In 2 (tree_at row.NUMERIC_RECEIVER t) (left_at (end_at (past_first t)) (past_first t))
whole t ok = (stands_of row.NUMERIC_ASSIGNMENT items t row_is ok).1

pub whole_items : (t : Text) → is_phrase row.NUMERIC_ASSIGNMENT t ≡ true → tree_at row.NUMERIC_RECEIVER t ∷ further_listed (left_at (end_at (past_first t)) (past_first t)) ≡ all_listed (tree_at row.NUMERIC_ASSIGNMENT t)
whole_items t ok = sym (ap all_listed (whole t ok))

pub whole_end : (t : Text) → is_phrase row.NUMERIC_ASSIGNMENT t ≡ true → after_further_listed (left_at (end_at (past_first t)) (past_first t)) ≡ after_all_listed (tree_at row.NUMERIC_ASSIGNMENT t)
whole_end t ok = sym (ap after_all_listed (whole t ok))

last_rest : (t : Text) → (first t == byte.comma) ≡ false → after_others t ≡ t
last_rest t is = Ends.rest (no_other row.COMMA_NUMERIC_RECEIVER t is)

end_part : (t : Text) → is_phrase row.NUMERIC_ASSIGNMENT t ≡ true → is_phrase row.SUM (drop 1 (after_others (past_first t))) ≡ true
end_part t ok = (stands_of row.NUMERIC_ASSIGNMENT items t row_is ok).0.1.1.1.0

pub found_part : (t left : Text) → is_phrase row.NUMERIC_ASSIGNMENT t ≡ true → (first left == byte.comma) ≡ false → after_others left ≡ after_others (past_first t) → is_phrase row.SUM (drop 1 left) ≡ true
found_part t left ok is same = ap (λ (u : Text). is_phrase row.SUM (drop 1 u)) (sym (last_rest left is) ∙ same) ∙ end_part t ok

pub found_tree : (t left : Text) → (first left == byte.comma) ≡ false → after_others left ≡ after_others (past_first t) → after_further_listed (left_at (end_at (past_first t)) left) ≡ after_all_listed (tree_at row.NUMERIC_ASSIGNMENT t)
    → sum_of_assignment (after_all_listed (tree_at row.NUMERIC_ASSIGNMENT t)) ≡ tree_at row.SUM (drop 1 left)
found_tree t left is same whole_is =
    ap sum_of_assignment (sym whole_is ∙ end_left row.COMMA_NUMERIC_RECEIVER (end_at (past_first t)) left is) ∙ ap (λ (u : Text). tree_at row.SUM (drop 1 u)) (sym same ∙ last_rest left is)
