use Rattle.std.proofs.Common.{ap, ◌∙◌}
use Rattle.b2_access.proofs.Holders.{gone}
use Rattle.b2_store.proofs.Giving.{left_text}
use Rattle.b2_store.proofs.text_calls.leave.Goals as goal

pub returns : goal.returns
returns g c = ap gone c.leave_text.ensures ∙ left_text c.args.who (g.S.Lookups.state c.args.store.now) c.args.home
