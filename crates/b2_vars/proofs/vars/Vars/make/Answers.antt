use Rattle.std.proofs.Common.{◌≡◌, ◌≤◌, None, subst, arith}
use Rattle.b2_vars.specs.Tables.{VarsState, table_of}
use Rattle.b2_vars.specs.Calls.{full, with_new}
use Rattle.b2_vars.proofs.Scalars.{some-found, full-there}
use Rattle.b2_vars.proofs.vars.Vars.make.Goals as goal

pub returns-then-place-gt0-clause-code : goal.returns-then-place-gt0-clause-code
returns-then-place-gt0-clause-code c =
    let b = c.self.inside.block in
    let t = table_of b.entries in
    let some : 1 ≤ c.place.result = omega (arith, c.if-place-gt0.true) in
    subst (λ (s : VarsState). full s.area (with_new c.args.v c.args.shape c.args.common s.table) ≡ None) c.self.view_is
    (full-there b.area t c.args.v c.args.shape c.args.common c.place.ensures.whole (some-found c.place.result t c.args.v c.place.ensures.there some))
