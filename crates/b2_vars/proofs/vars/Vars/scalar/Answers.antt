use Rattle.std.proofs.Common.{◌≤◌, refl, arith}
use Rattle.std.proofs.lemmas.Bool.Decides.{nat_tests}
use Rattle.b2_vars.specs.Names.{scalar_named}
use Rattle.b2_vars.specs.Tables.{table_of}
use Rattle.b2_vars.proofs.Scalars.{some-found, scalar-room}
use Rattle.b2_vars.proofs.vars.Vars.scalar.Goals as goal

pub scalar-requires-clause-room : goal.scalar-requires-clause-room
scalar-requires-clause-room c =
    let t = table_of c.self.inside.block.entries in
    let v = scalar_named c.args.letter c.args.digit in
    let some : 1 ≤ c.scalar_place-place.result = grind (arith, nat_tests, c.if-place-eq0.false) in
    scalar-room t v c.scalar_place-place.ensures.sound (some-found c.scalar_place-place.result t v c.scalar_place-place.ensures.there some) refl refl
