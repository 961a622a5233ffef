use Rattle.std.proofs.Common.{sym, arith}
use Rattle.b2_base.specs.declared.files.By.TheVariants as by
use Rattle.b2_datafile.proofs.Functions.{back-fails, back-value, err-as, forward-fails, forward-value, moved-as, no-file, ok-as}
use Rattle.b2_datafile.proofs.moving.skip.Goals as goal

pub returns-in_default-clause-fails : goal.returns-in_default-clause-fails
returns-in_default-clause-fails c = no-file c.args.p.now c.args.s.now c.args.by c.known.result c.known.ensures (sym c.in_default.ensures.entry)

pub returns-in-Forward-clause-value : goal.returns-in-Forward-clause-value
returns-in-Forward-clause-value c =
    ok-as c.forward.result _ _ (λ to h. forward-value c.args.p.now c.args.s.now c.args.by c.in-Some.e (sym c.in-Some.ensures.entry) c.in-Forward.count c.min.result to c.in-Forward.is (omega (arith, c.min.ensures)) h) c.forward.ensures.ok

pub returns-in-Forward-clause-fails : goal.returns-in-Forward-clause-fails
returns-in-Forward-clause-fails c =
    err-as c.forward.result _ _ (λ f h. forward-fails c.args.p.now c.args.s.now c.args.by c.in-Some.e (sym c.in-Some.ensures.entry) c.in-Forward.count c.min.result c.in-Forward.is (omega (arith, c.min.ensures)) f h) c.forward.ensures.err

pub returns-in-Back-clause-value : goal.returns-in-Back-clause-value
returns-in-Back-clause-value c =
    ok-as c.back.result _ _ (λ to h. back-value c.args.p.now c.args.s.now c.args.by c.in-Some.e (sym c.in-Some.ensures.entry) c.in-Back.count c.min-in-Back.result to c.in-Back.is (omega (arith, c.min-in-Back.ensures)) h) c.back.ensures.ok

pub returns-in-Back-clause-fails : goal.returns-in-Back-clause-fails
returns-in-Back-clause-fails c =
    err-as c.back.result _ _ (λ f h. back-fails c.args.p.now c.args.s.now c.args.by c.in-Some.e (sym c.in-Some.ensures.entry) c.in-Back.count c.min-in-Back.result c.in-Back.is (omega (arith, c.min-in-Back.ensures)) f h) c.back.ensures.err

pub returns-in-Begin-clause-value : goal.returns-in-Begin-clause-value
returns-in-Begin-clause-value c = moved-as c.args.p.now c.args.s.now c.args.by c.in-Some.e (sym c.in-Some.ensures.entry) by.Begin c.in-Begin.is

pub returns-in-End-clause-value : goal.returns-in-End-clause-value
returns-in-End-clause-value c = moved-as c.args.p.now c.args.s.now c.args.by c.in-Some.e (sym c.in-Some.ensures.entry) by.End c.in-End.is
