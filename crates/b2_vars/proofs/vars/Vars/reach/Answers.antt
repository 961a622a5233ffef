use Rattle.std.proofs.Common.{◌≡◌, ℕ, true, sym, subst, ◌∙◌, ap}
use Rattle.b2_vars.specs.Shapes.{has_cell, cell_at}
use Rattle.b2_vars.specs.Tables.{VarsState, shape_at}
use Rattle.b2_vars.specs.Calls.{IsCell}
use Rattle.b2_vars.proofs.Scalars.{cell-found}
use Rattle.b2_vars.proofs.vars.Vars.reach.Goals as goal

pub returns-clause-there : goal.returns-clause-there
returns-clause-there c =
    let s = c.args.self.now in
    let has : has_cell (shape_at c.args.v s.table) c.args.r c.args.c ≡ true = subst (λ (s : VarsState). has_cell (shape_at c.args.v s.table) c.args.r c.args.c ≡ true) c.self.view_is c.in_ok-cell.ensures.there in
    let place : c.in_ok-cell.cell ≡ cell_at (shape_at c.args.v s.table) c.args.r c.args.c = c.in_ok-cell.ensures.place ∙ ap (λ (s : VarsState). cell_at (shape_at c.args.v s.table) c.args.r c.args.c) c.self.view_is in
    subst (λ (cell : ℕ). IsCell c.args.v cell c.make_scalar.new.self.table) (sym place)
    (subst (λ (after : VarsState). IsCell c.args.v (cell_at (shape_at c.args.v s.table) c.args.r c.args.c) after.table) (sym c.in_ok-make_scalar.ensures.ok) (cell-found s c.args.v c.args.r c.args.c has))
