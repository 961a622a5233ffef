use Rattle.std.proofs.Common.{length, ap, sym, subst, arith}
use Rattle.b2_vars.specs.Tables.{VarsState, table_of}
use Rattle.b2_vars.specs.Calls.{IsPart, part_place}
use Rattle.b2_vars.proofs.Cells.{part-within}
use Rattle.b2_vars.proofs.vars.Vars.set_part.Goals as goal

pub write-requires-clause-room : goal.write-requires-clause-room
write-requires-clause-room c =
    let t = table_of c.self.inside.block.entries in
    let v = c.args.v in
    let there : IsPart v c.args.r c.args.c c.args.from (length c.args.bytes.now) t = subst (λ (s : VarsState). IsPart v c.args.r c.args.c c.args.from (length c.args.bytes.now) s.table) (sym c.self.view_is) c.requires in
    omega (arith, part-within t v c.args.r c.args.c c.args.from (length c.args.bytes.now) c.known_place-place.ensures.sound there, c.part_place-at.ensures.place, ap (λ (s : VarsState). part_place v c.args.r c.args.c c.args.from s.table) c.self.view_is)
