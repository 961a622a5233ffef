use Rattle.std.proofs.Common.{refl}
use Rattle.b2_machine.proofs.Kept.{served_kept}
use Rattle.b2_machine.proofs.Results.{on_ok}
use Rattle.b2_machine.proofs.stepping.ask_store.Goals as goal

pub returns-clause-kept : goal.returns-clause-kept
returns-clause-kept g c =
    let shared = g.S.Shared in
    record {
      same = c.serve.ensures.same;
      part = refl;
      listed = on_ok c.serve.result _ _ (λ x is. served_kept shared.store shared.serving g.met.S.Shared.keeps_listed c.args.who c.args.access.now (shared.meaning c.args.s.now) (shared.meaning c.serve.new.self) x is) c.serve.ensures.served;
    }
