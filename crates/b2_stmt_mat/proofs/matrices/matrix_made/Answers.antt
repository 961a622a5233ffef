use Rattle.std.proofs.Common.{◌∙◌, ap, sym}
use Rattle.b2_vars.specs.Shapes.{cells}
use Rattle.b2_vars.specs.declared.shape.Shape.{Shape}
use Rattle.b2_expr.specs.Scope.{surroundings}
use Rattle.b2_stmt_mat.specs.Arrays.{families}
use Rattle.b2_stmt_mat.proofs.MadeOf.{has_room}
use Rattle.b2_stmt_mat.proofs.matrices.matrix_made.Goals as goal

pub returns-clause-room : goal.returns-clause-room
returns-clause-room c =
    has_room c.args.asked.now (families (surroundings c.args.e.now)) c.dimensions_made-dimensions.result c.in_ok-numbers.numbers.items c.dimensions_made-dimensions.ensures (sym c.refusal.ensures ∙ c.in_default.is)
    (c.in_ok-numbers.ensures.count ∙ ap (λ (s : Shape). cells s) c.shape_with-shape.ensures)
