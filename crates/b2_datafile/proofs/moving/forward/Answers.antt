use Rattle.std.proofs.Common.{◌≡◌, ◌+◌, ◌-◌, suc, true, false, refl, arith}
use Rattle.b2_datafile.specs.Files.{IsEndOfRecords}
use Rattle.b2_datafile.specs.Loading.{IsRecordAt}
use Rattle.b2_datafile.proofs.SkippedRecords.{ahead-stop, ahead-step, none-step, none-here}
use Rattle.b2_platter.proofs.Reading.{unspelled-more}
use Rattle.b2_datafile.proofs.moving.forward.Goals as goal

pub returns-then-is_end_of_records-clause-ok : goal.returns-then-is_end_of_records-clause-ok
returns-then-is_end_of_records-clause-ok c = c.loop-passed.invariant.ahead c.loop-passed.pos (ahead-stop c.args.p.now c.args.e.now (c.args.count - c.loop-passed._passed) c.loop-passed.pos (c.if-is_end_of_records.ensures.0 refl))

pub returns-in-Err-clause-err : goal.returns-in-Err-clause-err
returns-in-Err-clause-err c =
    let step : c.args.count - c.loop-passed._passed ≡ suc (c.args.count - (c.loop-passed._passed + 1)) = omega (arith, c.loop-passed-test.true) in
    unspelled-more c.in-Err.fault
    (λ none. c.loop-passed.invariant.none (none-here c.args.p.now c.args.e.now _ _ c.loop-passed.pos step (λ h. let bad : false ≡ true = c.if-is_end_of_records.ensures.1 h in cc) none)) c.in-Err.ensures.err

pub loop-passed-preserved : goal.loop-passed-preserved
loop-passed-preserved c =
    let step : c.args.count - c.loop-passed._passed ≡ suc (c.args.count - (c.loop-passed._passed + 1)) = omega (arith, c.loop-passed-test.true) in
    let there : IsRecordAt c.args.p.now c.args.e.now c.loop-passed.pos c.in-Ok.field-0-0.items c.in-Ok.sectors = record { spelled = c.in-Ok.ensures.ok; within = omega (arith, c.in-Ok.ensures.within, c.requires.order) } in
    let on : IsEndOfRecords c.args.p.now c.args.e.now c.loop-passed.pos → ⊥ = λ h. let bad : false ≡ true = c.if-is_end_of_records.ensures.1 h in cc in
    record {
      ahead = λ to a. c.loop-passed.invariant.ahead to (ahead-step c.args.p.now c.args.e.now _ _ c.loop-passed.pos c.in-Ok.sectors to c.in-Ok.field-0-0.items step on there a);
      none = λ a. c.loop-passed.invariant.none (none-step c.args.p.now c.args.e.now _ _ c.loop-passed.pos c.in-Ok.sectors c.in-Ok.field-0-0.items step on there a);
    }
