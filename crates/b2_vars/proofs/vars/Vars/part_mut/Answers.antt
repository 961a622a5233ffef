use Rattle.std.proofs.Common.{◌≡◌, ◌∙◌, ℕ, ap, sym, subst, refl, arith}
use Rattle.b2_vars.specs.Variables.{bytes_from}
use Rattle.b2_vars.specs.Tables.{VarsState, table_of, variable_at}
use Rattle.b2_vars.specs.Calls.{IsPart, part_place, with_bytes_of}
use Rattle.b2_vars.proofs.Cells.{part-within}
use Rattle.b2_vars.proofs.Lending.{state-last}
use Rattle.b2_vars.proofs.vars.Vars.part_mut.Goals as goal

pub part_mut-requires-clause-room : goal.part_mut-requires-clause-room
part_mut-requires-clause-room c =
    let t = table_of c.self.inside.block.entries in
    let v = c.args.v in
    let there : IsPart v c.args.r c.args.c c.args.from c.args.n t = subst (λ (s : VarsState). IsPart v c.args.r c.args.c c.args.from c.args.n s.table) (sym c.self.view_is) c.requires in
    omega (arith, part-within t v c.args.r c.args.c c.args.from c.args.n c.known_place-place.ensures.sound there, c.part_place-at.ensures.place, ap (λ (s : VarsState). part_place v c.args.r c.args.c c.args.from s.table) c.self.view_is)

pub returns : goal.returns
returns c =
    let v = c.args.v in
    let s = c.args.self.now in
    let at : c.part_place-at.result ≡ part_place v c.args.r c.args.c c.args.from s.table = omega (arith, c.part_place-at.ensures.place, ap (λ (s : VarsState). part_place v c.args.r c.args.c c.args.from s.table) c.self.view_is) in (
      (refl, λ w. state-last v c.part_place-at.result c.self.inside.block w ∙ ap (λ (s : VarsState). with_bytes_of v c.part_place-at.result s w) c.self.view_is ∙ ap (λ (k : ℕ). with_bytes_of v k s w) at),
      record {
        writes_back = tt;
        part = c.part_mut.ensures.part ∙ ap (λ (s : VarsState). bytes_from c.part_place-at.result c.args.n (variable_at v s.table).bytes) c.self.view_is ∙ ap (λ (k : ℕ). bytes_from k c.args.n (variable_at v s.table).bytes) at;
      },
    )
