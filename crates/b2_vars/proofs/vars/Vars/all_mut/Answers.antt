use Rattle.std.proofs.Common.{◌≡◌, ◌∙◌, length, ap, sym, refl}
use Rattle.b2_vars.specs.Shapes.{alpha_bytes}
use Rattle.b2_vars.specs.Tables.{VarsState, table_of, variable_at}
use Rattle.b2_vars.specs.Calls.{with_bytes_of}
use Rattle.b2_vars.proofs.Lending.{state-last, whole-part}
use Rattle.b2_vars.proofs.vars.Vars.all_mut.Goals as goal

pub returns : goal.returns
returns c =
    let v = c.args.v in
    let bytes = (variable_at v (table_of c.self.inside.block.entries)).bytes in
    let n : c.alpha_bytes-n.result ≡ length bytes = c.alpha_bytes-n.ensures.count ∙ ap alpha_bytes c.shape.ensures.shape ∙ sym c.shape.ensures.sound.bytes in (
      (refl, λ w. state-last v 0 c.self.inside.block w ∙ ap (λ (s : VarsState). with_bytes_of v 0 s w) c.self.view_is),
      record {
        writes_back = tt;
        all = c.part_mut.ensures.part ∙ whole-part c.alpha_bytes-n.result bytes n ∙ ap (λ (s : VarsState). (variable_at v s.table).bytes) c.self.view_is;
      },
    )
