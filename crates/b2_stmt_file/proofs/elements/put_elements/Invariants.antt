use Rattle.std.proofs.Common.{◌≡◌, ◌+◌}
use Rattle.b2_vars.specs.Shapes.{cells}
use Rattle.b2_vars.specs.Tables.{shape_at}
use Rattle.b2_stmt_file.specs.Elements.{array_values, values_from}
use Rattle.b2_stmt_file.specs.SavedValues.{values_before}
use Rattle.b2_stmt_file.proofs.elements.put_elements.Given as goal

-- the elements so far before those that are left are all of them
abbrev pub invariant-loop-left : goal.invariant-loop-left
invariant-loop-left l = record {
  shape : l.shape ≡ shape_at l.array.var l.vars.table;
  count : l.k + l.left ≡ cells l.shape;
  values : values_before l.into.items (values_from l.vars l.array l.k l.left) ≡ values_before l.fn.into.items (array_values l.vars l.array);
}

abbrev pub decreases-loop-left : goal.decreases-loop-left
decreases-loop-left l = l.left
