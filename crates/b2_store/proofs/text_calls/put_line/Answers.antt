use Rattle.std.proofs.Common.{ap, ◌∙◌}
use Rattle.b2_store.proofs.Giving.{answered, line_put}
use Rattle.b2_store.proofs.text_calls.put_line.Goals as goal

pub returns : goal.returns
returns g c =
    let x = c.in_ok-answer.answer in
    ap (answered x) c.give_after.ensures ∙ line_put c.args.who (g.S.Lookups.state c.args.store.now) c.args.homes c.args.line c.args.atoms.now (g.S.Lookups.state c.put_own_line.new.store) x c.in_ok-answer.ensures
