use Rattle.std.specs.Prelude.{ℕ}
use Rattle.std.proofs.Common.{ap, sym, ◌∙◌}
use Rattle.b2_access.specs.declared.lending.At.{At}
use Rattle.b2_access.specs.declared.lending.At.TheVariants as at
use Rattle.b2_access.specs.declared.private.Private.{Private}
use Rattle.b2_machine.specs.Endings.{counts}
use Rattle.b2_machine.specs.Step.{asks_and_finishes, by_itself, executes_by, executes_over, seen_by}
use Rattle.b2_machine.specs.declared.ends.Stepped.{Stepped}
use Rattle.b2_machine.specs.declared.statements.Opening.TheVariants as opening
use Rattle.b2_machine.specs.declared.statements.Progress.TheVariants as progress
use Rattle.b2_machine.proofs.Begins.{asks_so, executed_over, goes_as_begun, opened_so}
use Rattle.b2_machine.proofs.Results.{ok_map}
use Rattle.b2_machine.proofs.stepping.go_through.Goals as goal

-- it has ended over texts alone
pub returns-in-Leads-clause-ended : goal.returns-in-Leads-clause-ended
returns-in-Leads-clause-ended g c before m part opens is_lent =
    let shared = g.S.Shared in
    let ways = g.L.Language.ways c.args.d.now in
    let p = c.args.place in
    let opened = opened_so ways p before c.args.me.now (seen_by before.part p.home at.None (shared.store m)) c.args.access.now c.args.opening opening.Leads c.in-Leads.is opens in
    ap (λ (e : Stepped). by_itself shared.store shared.serving shared.lending (record { me = c.args.me.now; end = e }) (shared.meaning c.args.s.now)) c.counts.ensures
    ∙ goes_as_begun ways shared.store shared.serving shared.lending p before c.args.me.now m (shared.meaning c.args.s.now) (progress.Ended counts) is_lent opened.0 opened.1

pub returns-in-Ends-clause-ended : goal.returns-in-Ends-clause-ended
returns-in-Ends-clause-ended g c before m part opens is_lent =
    let shared = g.S.Shared in
    let ways = g.L.Language.ways c.args.d.now in
    let p = c.args.place in
    let opened = opened_so ways p before c.args.me.now (seen_by before.part p.home at.None (shared.store m)) c.args.access.now c.args.opening (opening.Ends c.in-Ends.end) c.in-Ends.is opens in
    goes_as_begun ways shared.store shared.serving shared.lending p before c.args.me.now m (shared.meaning c.args.s.now) (progress.Ended c.in-Ends.end) is_lent opened.0 opened.1

-- or asks for an access
pub returns-in-Some-clause-ended : goal.returns-in-Some-clause-ended
returns-in-Some-clause-ended g c before m part opens is_lent =
    let shared = g.S.Shared in
    let ways = g.L.Language.ways c.args.d.now in
    let me = c.args.me.now in
    let p = c.args.place in
    let b = c.in-Asks.builder in
    let w = c.in-Asks.onward in
    let x = c.in-Some.asked in
    let opened = asks_so ways p before me (seen_by before.part p.home at.None (shared.store m)) c.args.access.now c.args.opening x b w c.in-Asks.is c.in-Some.is opens in
    ok_map c.ask_and_finish.result _ _ (λ e is. is
    ∙ ap (λ (n : ℕ). asks_and_finishes ways shared.store shared.serving shared.lending n b x w p at.None me (shared.meaning c.args.s.now)) part
    ∙ goes_as_begun ways shared.store shared.serving shared.lending p before me m (shared.meaning c.args.s.now) (progress.Asks x b w) is_lent opened.0 opened.1) (c.ask_and_finish.ensures.ended c.args.d.now)

-- and then over the variables that it wants
pub returns-in-Wants-clause-ended : goal.returns-in-Wants-clause-ended
returns-in-Wants-clause-ended g c before m part opens is_lent =
    let shared = g.S.Shared in
    let ways = g.L.Language.ways c.args.d.now in
    let me = c.args.me.now in
    let p = c.args.place in
    let whose = c.in-Wants.whose in
    let opened = opened_so ways p before me (seen_by before.part p.home at.None (shared.store m)) c.args.access.now c.args.opening (opening.Wants whose) c.in-Wants.is opens in
    ok_map c.execute_over.result _ _ (λ e is. is
    ∙ ap (λ (x : Private). executes_over ways shared.store shared.serving shared.lending whose p x (shared.meaning c.args.s.now)) opened.2
    ∙ ap (λ (n : shared.Meaning). executes_over ways shared.store shared.serving shared.lending whose p before n) is_lent
    ∙ executed_over ways shared.store shared.serving shared.lending g.met.S.Shared.lends_globals whose p before m opened.1
    ∙ sym (ap (λ (x : At). executes_by ways shared.store shared.serving shared.lending x p before m) opened.0)) c.execute_over.ensures.ended
