use Rattle.std.proofs.Common.{◌-◌, ◌+◌, ℕ, List, ap, ◌∙◌}
use Rattle.b2_boot.specs.Quotas.{quota_at}
use Rattle.b2_sched.specs.World.{WorldState, Turn, does, does_all, turns_from}
use Rattle.b2_sched.proofs.Folds.{keeps_quotas, turn_first}
use Rattle.b2_sched.proofs.world.World.round.Goals as goal

pub loop-n-preserved : goal.loop-n-preserved
loop-n-preserved g c =
    let qs = c.args.self.now.quotas in
    let n = c.loop-n.n in
    let w = c.loop-n.self in
    let same = c.loop-n.invariant.quotas in
    let done = c.in_ok-turn_in_round.ensures.turned ∙ ap (λ (k : ℕ). does (Turn k (quota_at k w.quotas)) w) c.known.ensures ∙ ap (λ (rs : List (ℕ × ℕ)). does (Turn n (quota_at n rs)) w) same in
    record {
      quotas = ap (λ (w : WorldState). w.quotas) done ∙ keeps_quotas (Turn n (quota_at n qs)) w ∙ same;
      turned = ap (λ (w : WorldState). does_all (turns_from qs (n + 1) (17 - (n + 1))) w) done ∙ turn_first qs n w c.loop-n-test.true ∙ c.loop-n.invariant.turned;
    }
