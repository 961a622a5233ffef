use Rattle.std.proofs.Common.{◌<◌, ◌∙◌, ap, sym, subst, ℕ}
use Rattle.b2_vars.specs.declared.shape.Shape.{Shape}
use Rattle.b2_vars.specs.Shapes.{cells}
use Rattle.b2_vars.specs.Tables.{table_of, shape_at}
use Rattle.b2_vars.proofs.Cells.{cell-lt, cell-room}
use Rattle.b2_vars.proofs.vars.Vars.alpha.Goals as goal

pub part-requires-clause-room : goal.part-requires-clause-room
part-requires-clause-room c =
    let t = table_of c.self.inside.block.entries in
    let v = c.args.v in
    let below : c.in_ok-cell.cell < cells (shape_at v t) = subst (λ (k : ℕ). k < cells (shape_at v t)) (sym c.in_ok-cell.ensures.place) (cell-lt (shape_at v t) c.args.r c.args.c c.in_ok-cell.ensures.there) in
    cell-room t v c.in_ok-cell.cell c.from-len.result c.shape.ensures.sound below (c.from-len.ensures ∙ ap (λ (s : Shape). s.len) c.shape.ensures.shape)
