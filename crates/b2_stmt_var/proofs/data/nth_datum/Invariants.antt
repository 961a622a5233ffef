use Rattle.std.proofs.Common.{◌≡◌, ◌-◌, true}
use Rattle.std.specs.Prelude.{slice_get}
use Rattle.b2_atom.specs.declared.rows.TheConstants as row
use Rattle.b2_rows.specs.Rows.{after_phrase, is_list, is_phrase}
use Rattle.b2_stmt_var.specs.Data.{data_at}
use Rattle.b2_rows.specs.CommaLists.{commas}
use Rattle.b2_stmt_var.proofs.data.nth_datum.Given as goal

-- the literal that is wanted of those that are left, by as many fewer as were passed
abbrev pub invariant-loop : goal.invariant-loop
invariant-loop l = record {
  part : is_phrase row.DATUM l.left ≡ true;
  list : is_list commas row.COMMA_DATUM (after_phrase row.DATUM l.left) ≡ true;
  datum : slice_get (data_at l.left) (l.k - l.counter) ≡ slice_get (data_at l.text) l.k;
}
