use Rattle.std.proofs.Common.{ap, ◌∙◌}
use Rattle.b2_access.specs.Borrowers.{homes_marked}
use Rattle.b2_access.proofs.Holders.{gone}
use Rattle.b2_store.specs.Inside.{given_back}
use Rattle.b2_store.proofs.Giving.{all_cleared}
use Rattle.b2_store.proofs.text_calls.clear_all.Goals as goal

pub returns : goal.returns
returns g c =
    let m = g.S.Lookups.state c.clear_own.new.store in
    ap gone (c.give_back.ensures ∙ ap (given_back c.args.who (homes_marked c.args.homes)) c.give_up.ensures) ∙ all_cleared c.args.who (g.S.Lookups.state c.args.store.now) c.args.homes c.args.name m c.clear_own.ensures
