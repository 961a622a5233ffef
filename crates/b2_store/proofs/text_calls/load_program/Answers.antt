use Rattle.std.proofs.Common.{ap, ◌∙◌}
use Rattle.b2_store.proofs.Giving.{answered, program_loaded}
use Rattle.b2_store.proofs.text_calls.load_program.Goals as goal

pub returns : goal.returns
returns g c =
    let x = c.in_ok-answer.answer in
    ap (answered x) c.give_after.ensures
    ∙ program_loaded c.args.who (g.S.Lookups.state c.args.store.now) c.args.homes c.args.addr c.args.name c.args.replace c.args.declared (g.S.Lookups.state c.load_own.new.self) x c.in_ok-answer.ensures.loaded
