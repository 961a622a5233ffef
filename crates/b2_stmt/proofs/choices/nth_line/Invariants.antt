use Rattle.std.proofs.Common.{◌≡◌, ◌-◌, true, drop, slice_get}
use Rattle.b2_atom.specs.declared.forms.Leaf.TheVariants as leaf
use Rattle.b2_atom.specs.declared.rows.TheConstants as row
use Rattle.b2_rows.specs.Leaves.{is_leaf}
use Rattle.b2_rows.specs.Rows.{is_list}
use Rattle.b2_stmt.specs.Lines.{lines_at}
use Rattle.b2_rows.specs.CommaLists.{commas}
use Rattle.b2_stmt.proofs.choices.nth_line.Given as goal

-- the line that is wanted of the list that is left, by as many fewer as were passed
abbrev pub invariant-loop : goal.invariant-loop
invariant-loop l = record {
  first : is_leaf leaf.LineNumber l.left ≡ true;
  list : is_list commas row.COMMA_LINE (drop 3 l.left) ≡ true;
  line : slice_get (lines_at l.left) (l.k - l.counter) ≡ slice_get (lines_at l.text) l.k;
}
