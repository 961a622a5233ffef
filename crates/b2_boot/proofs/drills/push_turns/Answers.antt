use Rattle.std.proofs.Common.{◌≡◌, ℕ, suc, ◌+◌, ◌-◌, ◌*◌, ◌<◌, List, [], ◌∷◌, ◌++◌, ap, refl, append_assoc, arith}
use Rattle.std.proofs.lemmas.Nat.{mod_below}
use Rattle.b2_boot.specs.Drills.{next_of, turn_of, turns}
use Rattle.b2_boot.specs.declared.log.Event.{Event}
use Rattle.b2_boot.proofs.drills.push_turns.Goals as goal

-- the first of the turns that are left
first_left : (count counter x : ℕ) → counter < count → turns (count - counter) x ≡ turn_of (next_of x) ∷ turns (count - (counter + 1)) (next_of x)
first_left count counter x within =
    let more : count - counter ≡ suc (count - (counter + 1)) = omega arith in
    ap (λ k. turns k x) more

-- one more turn
turned_more : (count counter x : ℕ) (e : Event) (done grown all : List Event) → counter < count → e ≡ turn_of (next_of x) → grown ≡ done ++ e ∷ []
    → done ++ turns (count - counter) x ≡ all → grown ++ turns (count - (counter + 1)) (next_of x) ≡ all
turned_more count counter x e done grown all within is more before =
    let so_far = rw (first_left count counter x within) at before in
    rw (more, is, append_assoc done (turn_of (next_of x) ∷ []) (turns (count - (counter + 1)) (next_of x))) so_far

pub loop-preserved : goal.loop-preserved
loop-preserved c =
    let below = mod_below (75 * c.loop.x + 74) 65537 (omega arith) in
    (omega arith, turned_more c.args.count c.loop.counter c.loop.x _ c.loop.events.items c.push.new.self.items _ c.loop-test.true (rw c.known.ensures refl) c.in_ok-push.ensures.items c.loop.invariant.1)
