use Rattle.std.proofs.Common.{◌≡◌, ◌+◌}
use Rattle.b2_vars.specs.Shapes.{cells}
use Rattle.b2_expr.specs.Workspace.{SameReferences, workspace}
use Rattle.b2_stmt_file.specs.LoadedValues.{array_takes, elements_take}
use Rattle.b2_stmt_file.proofs.loaded_values.take_elements.Given as goal

-- the elements that are left take from here on as all of them do from the first on
abbrev pub invariant-loop-left : goal.invariant-loop-left
invariant-loop-left l = record {
  count : l.k + l.left ≡ cells l.shape;
  taken : elements_take l.array l.shape l.values l.k l.left (workspace l.work) l.next ≡ array_takes l.array l.values (workspace l.fn.work) l.fn.next;
  held : SameReferences l.fn.work l.work;
}

abbrev pub decreases-loop-left : goal.decreases-loop-left
decreases-loop-left l = l.left
