use Rattle.std.proofs.Common.{◌≡◌, true, length}
use Rattle.b2_atom.specs.declared.rows.TheConstants as row
use Rattle.b2_rows.specs.CommaLists.{commas}
use Rattle.b2_rows.specs.Rows.{after_phrase, is_list, is_phrase}
use Rattle.b2_expr.specs.Scope.{surroundings}
use Rattle.b2_stmt_file.specs.LoadedValues.{all_kinds, items_at}
use Rattle.b2_stmt_file.specs.SavedValues.{values_before}
use Rattle.b2_stmt_file.proofs.loaded_values.kinds_at.Given as goal

-- the kinds so far before those of the items that are left are the kinds of all
abbrev pub invariant-loop-rest : goal.invariant-loop-rest
invariant-loop-rest l = record {
  part : is_phrase row.LOADED l.left ≡ true;
  list : is_list commas row.COMMA_LOADED (after_phrase row.LOADED l.left) ≡ true;
  kinds : values_before l.kinds.items (all_kinds (surroundings l.e) (items_at l.left)) ≡ all_kinds (surroundings l.e) (items_at l.text);
}

abbrev pub decreases-loop-rest : goal.decreases-loop-rest
decreases-loop-rest l = length l.left
