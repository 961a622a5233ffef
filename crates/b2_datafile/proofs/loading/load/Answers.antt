use Rattle.std.proofs.Common.{◌≡◌, ◌∙◌, true, false, refl, sym, ap, arith, inl, inr}
use Rattle.b2_datafile.specs.Files.{IsEndOfRecords}
use Rattle.b2_record.specs.Asking.{agree}
use Rattle.b2_datafile.specs.Loading.{IsRecordAt}
use Rattle.b2_datafile.proofs.Functions.{load-code, nothing-loaded, record-loaded, unspelled-load}
use Rattle.b2_datafile.proofs.loading.load.Goals as goal

pub returns-in_default-clause-fails : goal.returns-in_default-clause-fails
returns-in_default-clause-fails c = load-code c.args.p.now c.args.s.now c.args.kinds.now c.known.result (inl (c.known.ensures, sym c.in_default.ensures.entry))

pub returns-then-is_end_of_records-clause-value : goal.returns-then-is_end_of_records-clause-value
returns-then-is_end_of_records-clause-value c = nothing-loaded c.args.p.now c.args.s.now c.args.kinds.now c.in-Some.e (sym c.in-Some.ensures.entry) (c.if-is_end_of_records.ensures.0 refl)

pub returns-in-Err-clause-fails : goal.returns-in-Err-clause-fails
returns-in-Err-clause-fails c =
    let on : IsEndOfRecords c.args.p.now c.in-Some.e c.args.s.now.pos → ⊥ = λ h. let bad : false ≡ true = c.if-is_end_of_records.ensures.1 h in cc in
    unspelled-load c.args.p.now c.args.s.now c.args.kinds.now c.in-Some.e (sym c.in-Some.ensures.entry) on c.in-Err.fault c.in-Err.ensures.err

pub returns-then-not-agree-clause-fails : goal.returns-then-not-agree-clause-fails
returns-then-not-agree-clause-fails c =
    let on : IsEndOfRecords c.args.p.now c.in-Some.e c.args.s.now.pos → ⊥ = λ h. let bad : false ≡ true = c.if-is_end_of_records.ensures.1 h in cc in
    let there : IsRecordAt c.args.p.now c.in-Some.e c.args.s.now.pos c.in-Ok.found.0.items c.in-Ok.found.1 = record { spelled = c.in-Ok.ensures.ok; within = omega (arith, c.in-Ok.ensures.within, c.in-Some.ensures.order) } in
    let other : agree c.args.kinds.now c.in-Ok.found.0.items ≡ false = ap (agree c.args.kinds.now) (sym c.deref.ensures.value) ∙ sym c.if-not-agree.ensures in
    load-code c.args.p.now c.args.s.now c.args.kinds.now c.known-then-not-agree.result
    (inr (c.in-Some.e, sym c.in-Some.ensures.entry, on, inr (c.in-Ok.found.0.items, c.in-Ok.found.1, there, inl (c.known-then-not-agree.ensures, other))))

pub returns-then-len-kinds-clause-fails : goal.returns-then-len-kinds-clause-fails
returns-then-len-kinds-clause-fails c =
    let on : IsEndOfRecords c.args.p.now c.in-Some.e c.args.s.now.pos → ⊥ = λ h. let bad : false ≡ true = c.if-is_end_of_records.ensures.1 h in cc in
    let there : IsRecordAt c.args.p.now c.in-Some.e c.args.s.now.pos c.in-Ok.found.0.items c.in-Ok.found.1 = record { spelled = c.in-Ok.ensures.ok; within = omega (arith, c.in-Ok.ensures.within, c.in-Some.ensures.order) } in
    let fit : agree c.args.kinds.now c.in-Ok.found.0.items ≡ true = ap (agree c.args.kinds.now) (sym c.deref.ensures.value) ∙ sym c.if-not-agree.ensures in
    load-code c.args.p.now c.args.s.now c.args.kinds.now c.known-then-len-kinds.result
    (inr (c.in-Some.e, sym c.in-Some.ensures.entry, on, inr (c.in-Ok.found.0.items, c.in-Ok.found.1, there, inr (c.known-then-len-kinds.ensures, fit, omega (arith, c.if-len-kinds.true, c.len.ensures)))))

pub returns-clause-value : goal.returns-clause-value
returns-clause-value c =
    let on : IsEndOfRecords c.args.p.now c.in-Some.e c.args.s.now.pos → ⊥ = λ h. let bad : false ≡ true = c.if-is_end_of_records.ensures.1 h in cc in
    let there : IsRecordAt c.args.p.now c.in-Some.e c.args.s.now.pos c.in-Ok.found.0.items c.in-Ok.found.1 = record { spelled = c.in-Ok.ensures.ok; within = omega (arith, c.in-Ok.ensures.within, c.in-Some.ensures.order) } in
    let fit : agree c.args.kinds.now c.in-Ok.found.0.items ≡ true = ap (agree c.args.kinds.now) (sym c.deref.ensures.value) ∙ sym c.if-not-agree.ensures in
    record-loaded c.args.p.now c.args.s.now c.args.kinds.now c.in-Some.e c.truncate.new.self.items _ (sym c.in-Some.ensures.entry) on
    (record { values = c.in-Ok.found.0.items; n = c.in-Ok.found.1; there = there; after = refl; fit = fit; enough = omega (arith, c.if-len-kinds.false, c.len.ensures); first_ones = c.truncate.ensures.items })
