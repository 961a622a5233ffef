use Rattle.std.proofs.Common.{rules, ◌≡◌, ◌∙◌, IfOk, Some, ap, subst, sym}
use Rattle.b2_access.specs.Lending.{globals_lent, seen_lent}
use Rattle.b2_access.specs.Placed.{line_named}
use Rattle.b2_access.specs.Planning.{Planning}
use Rattle.b2_access.proofs.Dispatch.{line_dispatch}
use Rattle.b2_stmt.specs.Plan.{does, is_refused, stops}
use Rattle.b2_stmt.proofs.planning.plan.Goals as goal

pub returns-in-Some-2-clause-planned : goal.returns-in-Some-2-clause-planned
returns-in-Some-2-clause-planned c =
    let globals = globals_lent c.plan_on-in-Some-2.new.lent in
    let s = seen_lent c.args.lent.now in
    let me = c.args.me.now in
    let p = c.in-Some.place in
    let line = c.lend-in-Some-2.result in
    let copied : me.immediate ≡ Some c.in-Some-2.line = search rules in
    let named : line_named me.immediate s.home.lines p.line ≡ Some line = ap (line_named me.immediate s.home.lines) c.in-None.is ∙ copied ∙ ap Some (sym c.lend-in-Some-2.ensures) in
    subst (λ (x : Planning). IfOk c.plan_on-in-Some-2.result (λ planned. ◌≡◌ {A = Planning} (record { me = c.plan_on-in-Some-2.new.me; globals = globals; planned = planned }) x))
    (line_dispatch is_refused (stops me s) (does me s) p me s (Some line) c.in-Some.is named) c.plan_on-in-Some-2.ensures.planned
