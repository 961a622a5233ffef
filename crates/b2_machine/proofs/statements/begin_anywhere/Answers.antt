use Rattle.std.proofs.Common.{ap, sym, ◌∙◌}
use Rattle.b2_access.specs.Lending.{seen_lent}
use Rattle.b2_access.specs.Placed.{statement_placed}
use Rattle.b2_access.specs.Planning.{Planning}
use Rattle.b2_machine.specs.Statements.{begun, has_ended}
use Rattle.b2_machine.proofs.Begins.{begins_nowhere, begins_somewhere, left_nowhere, left_somewhere}
use Rattle.b2_machine.proofs.Results.{ok_map, on_any}
use Rattle.b2_machine.proofs.statements.begin_anywhere.Goals as goal

pub returns-in_default-clause-begun : goal.returns-in_default-clause-begun
returns-in_default-clause-begun g c =
    let ways = g.L.Language.ways c.args.devices.now in
    let me = c.args.me.now in
    let seen = seen_lent c.args.lent.now in
    ap has_ended c.in_ok-become_ready_quietly.ensures.ended
    ∙ begins_nowhere ways c.args.place me seen (statement_placed c.args.place me.immediate seen.home.lines) (sym c.in_default.is ∙ c.builder_at.ensures c.args.devices.now)

pub returns-in_default-clause-left : goal.returns-in_default-clause-left
returns-in_default-clause-left g c =
    let me = c.args.me.now in
    let seen = seen_lent c.args.lent.now in
    left_nowhere (g.L.Language.ways c.args.devices.now) c.args.place me seen (statement_placed c.args.place me.immediate seen.home.lines) (sym c.in_default.is ∙ c.builder_at.ensures c.args.devices.now)

pub returns-clause-begun : goal.returns-clause-begun
returns-clause-begun g c =
    let ways = g.L.Language.ways c.args.devices.now in
    let me = c.args.me.now in
    let seen = seen_lent c.args.lent.now in
    ok_map c.begun.result _ _ (λ x is. is ∙ ap (λ p. begun p c.in-Some.builder c.args.place seen.home.lines) c.in_ok-planned.ensures.planned
    ∙ begins_somewhere ways c.args.place me seen (statement_placed c.args.place me.immediate seen.home.lines) c.in-Some.builder (sym c.in-Some.is ∙ c.builder_at.ensures c.args.devices.now)) c.begun.ensures.begun

pub returns-clause-left : goal.returns-clause-left
returns-clause-left g c =
    let me = c.args.me.now in
    let seen = seen_lent c.args.lent.now in
    on_any c.begun.result _ (ap (λ (p : Planning). p.globals) c.in_ok-planned.ensures.planned
    ∙ left_somewhere (g.L.Language.ways c.args.devices.now) c.args.place me seen (statement_placed c.args.place me.immediate seen.home.lines) c.in-Some.builder (sym c.in-Some.is ∙ c.builder_at.ensures c.args.devices.now))
