use Rattle.std.proofs.Common.{ap, ◌∙◌}
use Rattle.b2_access.proofs.Holders.{gone}
use Rattle.b2_store.proofs.Giving.{lines_erased}
use Rattle.b2_store.proofs.text_calls.erase.Goals as goal

pub returns : goal.returns
returns g c =
    let m = g.S.Lookups.state c.erase_own.new.store in
    ap gone c.give_back.ensures ∙ lines_erased c.args.who (g.S.Lookups.state c.args.store.now) c.args.homes c.args.from c.args.to m c.erase_own.ensures
