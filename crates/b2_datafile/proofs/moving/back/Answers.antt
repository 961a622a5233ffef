use Rattle.std.proofs.Common.{◌≡◌, ◌+◌, ◌-◌, ℕ, suc, subst, arith}
use Rattle.b2_datafile.specs.Moving.{Behind, NoneBehind}
use Rattle.b2_datafile.proofs.SkippedRecords.{behind-stop, behind-step, none-behind-step, none-behind-here}
use Rattle.b2_platter.proofs.Reading.{unspelled-more}
use Rattle.b2_datafile.proofs.moving.back.Goals as goal

pub returns-then-pos-e-clause-ok : goal.returns-then-pos-e-clause-ok
returns-then-pos-e-clause-ok c = c.loop-passed.invariant.behind c.loop-passed.pos (behind-stop c.args.p.now c.args.e.now (c.args.count - c.loop-passed._passed) c.loop-passed.pos c.if-pos-e.true)

pub returns-in-Err-clause-err : goal.returns-in-Err-clause-err
returns-in-Err-clause-err c =
    let step : c.args.count - c.loop-passed._passed ≡ suc (c.args.count - (c.loop-passed._passed + 1)) = omega (arith, c.loop-passed-test.true) in
    unspelled-more c.in-Err.fault
    (λ none. c.loop-passed.invariant.none (none-behind-here c.args.p.now c.args.e.now _ _ c.loop-passed.pos step c.if-pos-e.false none)) c.in-Err.ensures.err

pub loop-passed-preserved : goal.loop-passed-preserved
loop-passed-preserved c =
    let step : c.args.count - c.loop-passed._passed ≡ suc (c.args.count - (c.loop-passed._passed + 1)) = omega (arith, c.loop-passed-test.true) in
    let found = c.in-Ok.ensures.ok in
    record {
      behind = λ to a. c.loop-passed.invariant.behind to (behind-step c.args.p.now c.args.e.now _ (c.args.count - (c.loop-passed._passed + 1)) c.loop-passed.pos found.1 to found.0 step c.if-pos-e.false found.2
          (subst (λ (q : ℕ). Behind c.args.p.now c.args.e.now (c.args.count - (c.loop-passed._passed + 1)) q to) found.3 a));
      none = λ a. c.loop-passed.invariant.none (none-behind-step c.args.p.now c.args.e.now _ (c.args.count - (c.loop-passed._passed + 1)) c.loop-passed.pos found.1 found.0 step c.if-pos-e.false found.2
          (subst (λ (q : ℕ). NoneBehind c.args.p.now c.args.e.now (c.args.count - (c.loop-passed._passed + 1)) q) found.3 a));
      within = omega (arith, found.3, c.loop-passed.invariant.within);
    }
