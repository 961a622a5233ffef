use Rattle.std.proofs.Common.{◌≡◌, true, length}
use Rattle.b2_atom.specs.declared.rows.TheConstants as row
use Rattle.b2_rows.specs.Rows.{tree_at, is_list}
use Rattle.b2_expr.specs.Scope.{surroundings}
use Rattle.b2_expr.specs.Value.{in_statement}
use Rattle.b2_stmt_io.specs.Outlets.{column_of, width_of}
use Rattle.b2_stmt_io.specs.Printing.{further_in, shown_items, laid_after}
use Rattle.b2_stmt_io.proofs.Printed.{separators, further_at}
use Rattle.b2_stmt_io.proofs.printing.show_items.Given as goal

-- what is left shows what is still to be shown
abbrev pub invariant-loop-c : goal.invariant-loop-c
invariant-loop-c l = record {
  list : is_list separators row.FURTHER_ITEM l.c ≡ true;
  shown : laid_after (width_of l.outlet) l.out.items l.at (further_in (record { context = in_statement (surroundings l.e); outlet = l.outlet }) l.line (further_at l.c)) ≡ laid_after (width_of l.outlet) l.fn.out.items (column_of l.outlet) (shown_items (record { context = in_statement (surroundings l.e); outlet = l.outlet }) (tree_at row.PRINT l.unit));
}

abbrev pub decreases-loop-c : goal.decreases-loop-c
decreases-loop-c l = length l.c
