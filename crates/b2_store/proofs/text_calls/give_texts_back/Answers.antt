use Rattle.std.proofs.Common.{ap, ◌∙◌}
use Rattle.b2_access.proofs.Holders.{gone}
use Rattle.b2_store.proofs.Giving.{dropped_texts}
use Rattle.b2_store.proofs.text_calls.give_texts_back.Goals as goal

pub returns : goal.returns
returns g c = ap gone c.give_back.ensures ∙ dropped_texts c.args.who (g.S.Lookups.state c.args.store.now) c.args.homes
