use Rattle.std.proofs.Common.{◌-◌, ◌+◌, ℕ, List, ap, ◌∙◌}
use Rattle.b2_sched.specs.World.{WorldState, does_all, turns_from, rounds}
use Rattle.b2_sched.proofs.Folds.{all_keep_quotas, round_first}
use Rattle.b2_sched.proofs.world.World.rounds.Goals as goal

pub loop-preserved : goal.loop-preserved
loop-preserved g c =
    let qs = c.args.self.now.quotas in
    let w = c.loop.self in
    let same = c.loop.invariant.quotas in
    let done = c.in_ok-round.ensures.turned ∙ ap (λ (rs : List (ℕ × ℕ)). does_all (turns_from rs 1 16) w) same in
    record {
      quotas = ap (λ (w : WorldState). w.quotas) done ∙ all_keep_quotas (turns_from qs 1 16) w ∙ same;
      turned = ap (λ (w : WorldState). does_all (rounds qs (c.args.n - (c.loop.counter + 1))) w) done ∙ round_first qs c.args.n c.loop.counter w c.loop-test.true ∙ c.loop.invariant.turned;
    }
