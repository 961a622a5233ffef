-- READ by its row: its receivers one after another, and what they leave.
use Rattle.std.proofs.Common.{◌≡◌, ℕ, true, List, [], ◌∷◌, drop, Option, Some, None, refl, sym, ap, ◌∙◌}
use Rattle.b2_atom.specs.Words.{Text}
use Rattle.b2_atom.specs.Tree.{Trees}
use Rattle.b2_atom.specs.Grammar.{row_items}
use Rattle.b2_atom.specs.declared.words.TheConstants as word
use Rattle.b2_atom.specs.declared.rows.TheConstants as row
use Rattle.b2_atom.specs.declared.forms.Item.{Item}
use Rattle.b2_atom.specs.declared.forms.Item.TheVariants.{Word, Part, Many}
use Rattle.b2_rows.specs.Rows.{is_phrase, tree_at}
use Rattle.b2_text.specs.Program.{Lines}
use Rattle.b2_text.specs.declared.spots.Spot.{Spot}
use Rattle.b2_expr.specs.Workspace.{WorkState}
use Rattle.b2_rows.proofs.RowsRead.{stands_of}
use Rattle.b2_rows.specs.CommaLists.{are_others, past_first, receivers_at, commas}
use Rattle.b2_stmt_var.specs.Left.{Left}
use Rattle.b2_stmt_var.specs.Reading.{and_reads, read_each, reads_data, reads_one, unless_read_ended}

-- READ
abbrev read_items : List Item
read_items = Word word.READ ∷ Part row.RECEIVER ∷ Many commas row.COMMA_RECEIVER ∷ []

read_row : row_items row.READ ≡ read_items
unfolding row_items
read_row = refl

pub read_receiver : (t : Text) → is_phrase row.READ t ≡ true → is_phrase row.RECEIVER (drop 1 t) ≡ true
read_receiver t ok = (stands_of row.READ read_items t read_row ok).0.1.0

pub read_list : (t : Text) → is_phrase row.READ t ≡ true → are_others (past_first (drop 1 t)) ≡ true
read_list t ok = (stands_of row.READ read_items t read_row ok).0.1.1.0

pub read_is : (own : Lines) (t : Text) (w : WorkState) (next : Option (Spot × ℕ)) → is_phrase row.READ t ≡ true
    → reads_data own (tree_at row.READ t) w next ≡ read_each (reads_one own) (receivers_at (drop 1 t)) w next
read_is own t w next ok = ap (λ (u : Trees). reads_data own u w next) (stands_of row.READ read_items t read_row ok).1

-- the first receiver, and the others
abbrev One : Type 0
One = Trees → WorkState → Option (Spot × ℕ) → Left

pub one_more : (one : One) (t : Trees) (ts : List Trees) (old new : WorkState) (from to : Option (Spot × ℕ)) (code : Option ℕ) → record { work = new; next = to; code = code } ≡ one t old from → code ≡ None
    → read_each one ts new to ≡ read_each one (t ∷ ts) old from
one_more one t ts old new from to code is none =
    sym (ap (λ (c : Option ℕ). unless_read_ended c (record { work = new; next = to; code = code }) (read_each one ts)) none) ∙ ap (λ (r : Left). and_reads r (read_each one ts)) is

pub one_coded : (one : One) (t : Trees) (ts : List Trees) (old new : WorkState) (from to : Option (Spot × ℕ)) (code : Option ℕ) (c : ℕ) → record { work = new; next = to; code = code } ≡ one t old from → code ≡ Some c
    → read_each one (t ∷ ts) old from ≡ record { work = new; next = to; code = code }
one_coded one t ts old new from to code c is some =
    sym (ap (λ (r : Left). and_reads r (read_each one ts)) is) ∙ ap (λ (o : Option ℕ). unless_read_ended o (record { work = new; next = to; code = code }) (read_each one ts)) some
