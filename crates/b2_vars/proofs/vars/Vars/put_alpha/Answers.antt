use Rattle.std.proofs.Common.{◌∙◌, ap, sym, subst}
use Rattle.b2_vars.specs.declared.shape.Shape.{Shape}
use Rattle.b2_vars.specs.Tables.{VarsState, table_of}
use Rattle.b2_vars.specs.Calls.{IsCell}
use Rattle.b2_vars.proofs.Cells.{cell-room}
use Rattle.b2_vars.proofs.vars.Vars.put_alpha.Goals as goal

pub assign-requires-clause-room : goal.assign-requires-clause-room
assign-requires-clause-room c =
    let t = table_of c.self.inside.block.entries in
    let there : IsCell c.args.v c.args.cell t = subst (λ (s : VarsState). IsCell c.args.v c.args.cell s.table) (sym c.self.view_is) c.requires in
    cell-room t c.args.v c.args.cell c.from-len.result c.shape.ensures.sound there.below (c.from-len.ensures ∙ ap (λ (s : Shape). s.len) c.shape.ensures.shape)
