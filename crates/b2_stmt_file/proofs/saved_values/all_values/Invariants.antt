use Rattle.std.proofs.Common.{◌≡◌, true, length}
use Rattle.b2_atom.specs.declared.rows.TheConstants as row
use Rattle.b2_rows.specs.CommaLists.{commas}
use Rattle.b2_rows.specs.Rows.{after_phrase, is_list, is_phrase}
use Rattle.b2_expr.specs.Scope.{surroundings}
use Rattle.b2_expr.specs.Value.{in_statement}
use Rattle.b2_stmt_file.specs.SavedValues.{all_saved, items_at, values_before}
use Rattle.b2_stmt_file.proofs.saved_values.all_values.Given as goal

-- the values so far before those of the items that are left are the values of all
abbrev pub invariant-loop-rest : goal.invariant-loop-rest
invariant-loop-rest l = record {
  part : is_phrase row.SAVED l.left ≡ true;
  list : is_list commas row.COMMA_SAVED (after_phrase row.SAVED l.left) ≡ true;
  values : values_before l.values.items (all_saved (in_statement (surroundings l.e)) (items_at l.left)) ≡ all_saved (in_statement (surroundings l.e)) (items_at l.text);
}

abbrev pub decreases-loop-rest : goal.decreases-loop-rest
decreases-loop-rest l = length l.left
