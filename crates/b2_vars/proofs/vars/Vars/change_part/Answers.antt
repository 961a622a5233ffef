use Rattle.std.proofs.Common.{ap, sym, subst, arith}
use Rattle.b2_vars.specs.Tables.{VarsState, table_of}
use Rattle.b2_vars.specs.Calls.{IsPart, part_place}
use Rattle.b2_vars.proofs.Cells.{part-within}
use Rattle.b2_vars.proofs.vars.Vars.change_part.Goals as goal

pub change-requires-clause-room : goal.change-requires-clause-room
change-requires-clause-room g c =
    let t = table_of c.self.inside.block.entries in
    let v = c.args.v in
    let there : IsPart v c.args.r c.args.c c.args.from c.args.n t = subst (λ (s : VarsState). IsPart v c.args.r c.args.c c.args.from c.args.n s.table) (sym c.self.view_is) c.requires.part in
    omega (arith, part-within t v c.args.r c.args.c c.args.from c.args.n c.known_place-place.ensures.sound there, c.part_place-at.ensures.place, ap (λ (s : VarsState). part_place v c.args.r c.args.c c.args.from s.table) c.self.view_is)
