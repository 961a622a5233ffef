use Rattle.b2_world_tests.proofs.TextsKept.{on_ok, served_kept}
use Rattle.b2_world_tests.proofs.lending.asked.Goals as goal

pub returns-clause-kept : goal.returns-clause-kept
returns-clause-kept g c =
    let shared = g.S.Shared in
    on_ok c.serve.result _ _ (λ x is. served_kept shared.store shared.serving g.met.S.Shared.keeps_listed c.args.who c.args.access.now (shared.meaning c.args.stores.now) (shared.meaning c.serve.new.self) x is) c.serve.ensures.served
