use Rattle.std.proofs.Common.{◌≡◌, true, None, sym, subst}
use Rattle.std.proofs.lemmas.Result.{on_ok_weaker}
use Rattle.b2_vars.specs.Shapes.{has_cell}
use Rattle.b2_vars.specs.Tables.{VarsState, shape_at}
use Rattle.b2_vars.specs.Calls.{IsPart, no_part}
use Rattle.b2_vars.proofs.Scalars.{part-found}
use Rattle.b2_vars.proofs.vars.Vars.reach_part.Goals as goal

pub returns-clause-part : goal.returns-clause-part
returns-clause-part c =
    let s = c.args.self.now in
    let has : has_cell (shape_at c.args.v s.table) c.args.r c.args.c ≡ true = subst (λ (s : VarsState). has_cell (shape_at c.args.v s.table) c.args.r c.args.c ≡ true) c.self.view_is c.in_ok-_cell.ensures.there in
    let part : no_part c.args.v c.args.from c.args.n s.table ≡ None = subst (λ (s : VarsState). no_part c.args.v c.args.from c.args.n s.table ≡ None) c.self.view_is c.in_ok-require_part.ensures in
    on_ok_weaker c.make_scalar.result
    (λ made. subst (λ (after : VarsState). IsPart c.args.v c.args.r c.args.c c.args.from c.args.n after.table) (sym made) (part-found s c.args.v c.args.r c.args.c c.args.from c.args.n has part))
    c.make_scalar.ensures.ok
