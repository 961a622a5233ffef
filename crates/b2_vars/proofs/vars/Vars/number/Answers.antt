use Rattle.std.proofs.Common.{◌≤◌, arith}
use Rattle.std.proofs.lemmas.Bool.Decides.{nat_tests}
use Rattle.b2_vars.specs.Tables.{table_of}
use Rattle.b2_vars.proofs.Cells.{number-room}
use Rattle.b2_vars.proofs.Soundness.{found-variable}
use Rattle.b2_vars.proofs.Scalars.{some-found}
use Rattle.b2_vars.proofs.vars.Vars.number.Goals as goal

pub number-requires-clause-room : goal.number-requires-clause-room
number-requires-clause-room c =
    let t = table_of c.self.inside.block.entries in
    let some : 1 ≤ c.place-place.result = grind (arith, nat_tests, c.if-place-eq0.false) in
    let is = found-variable t c.args.v c.place-place.ensures.sound (some-found c.place-place.result t c.args.v c.place-place.ensures.there some) in
    omega (arith, c.in_ok-cell.ensures.place, number-room t c.args.v c.args.r c.args.c is c.requires.number c.in_ok-cell.ensures.there)
