use Rattle.std.proofs.Common.{◌≡◌, ◌≤◌, ◌∙◌, false, IsSome, None, subst, arith}
use Rattle.std.proofs.lemmas.Bool.Decides.{nat_tests}
use Rattle.std.specs.FinMap as map
use Rattle.b2_vars.specs.Shapes.{scalar_shape}
use Rattle.b2_vars.specs.Tables.{VarsState, table_of}
use Rattle.b2_vars.specs.Calls.{no_array, no_cell, full, with_new, set_code}
use Rattle.b2_vars.proofs.Cells.{number-room}
use Rattle.b2_vars.proofs.Refusals.{third}
use Rattle.b2_vars.proofs.Scalars.{some-found, full-there}
use Rattle.b2_vars.proofs.Soundness.{found-variable}
use Rattle.b2_vars.proofs.vars.Vars.set_number.Goals as goal

pub set_number-requires-clause-room : goal.set_number-requires-clause-room
set_number-requires-clause-room c =
    let t = table_of c.self.inside.block.entries in
    let some : 1 ≤ c.place-place.result = grind (arith, nat_tests, c.if-place-eq0.false) in
    let is = found-variable t c.args.v c.place-place.ensures.sound (some-found c.place-place.result t c.args.v c.place-place.ensures.there some) in
    omega (arith, c.in_ok-cell.ensures.place, number-room t c.args.v c.args.r c.args.c is c.requires.number c.in_ok-cell.ensures.there)

pub returns-clause-code : goal.returns-clause-code
returns-clause-code c =
    let b = c.self.inside.block in
    let t = table_of b.entries in
    let v = c.args.v in
    let some : 1 ≤ c.place-place.result = grind (arith, nat_tests, c.if-place-eq0.false) in
    let found : IsSome (map.get t v) = some-found c.place-place.result t v c.place-place.ensures.there some in
    subst (λ (s : VarsState). set_code v c.args.r c.args.c s ≡ None) c.self.view_is
    (third (no_array v t) (no_cell v c.args.r c.args.c t) (full b.area (with_new v (scalar_shape v) false t)) c.in_ok-cell.ensures.code ∙ full-there b.area t v (scalar_shape v) false c.place-place.ensures.whole found)
