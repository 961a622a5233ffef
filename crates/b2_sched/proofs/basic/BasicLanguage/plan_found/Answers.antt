use Rattle.std.proofs.Common.{sym, ap, ◌∙◌}
use Rattle.b2_access.specs.Found.{statement_found}
use Rattle.b2_access.specs.Lending.{globals_lent, seen_lent}
use Rattle.b2_access.proofs.Dispatch.{ok_map}
use Rattle.b2_sched.specs.Choice.{plan_by}
use Rattle.b2_sched.specs.declared.choice.Family.{Family}
use Rattle.b2_sched.proofs.FoundUnits.{control_where_found, planned_where_found, variables_where_found}
use Rattle.b2_sched.proofs.basic.BasicLanguage.plan_found.Goals as goal

pub returns-in-Variables-clause-planned : goal.returns-in-Variables-clause-planned
returns-in-Variables-clause-planned c =
    let f = c.args.found.now in
    let found = c.requires.found in
    let seen = seen_lent c.args.lent.now in
    let family = ap (λ (k : Family). plan_by c.args.devices.now k c.args.me.now seen) (sym c.family_of.ensures ∙ c.in-Variables.is) in
    ok_map c.plan_found.result _ _ (λ p is. variables_where_found c.args.devices.now f.place c.args.me.now seen f.line.now (statement_found f) (record { me = c.plan_found.new.me; globals = globals_lent c.plan_found.new.lent; planned = p }) found.stands found.line found.statement family is) c.plan_found.ensures.planned

pub returns-in-Control-clause-planned : goal.returns-in-Control-clause-planned
returns-in-Control-clause-planned c =
    let f = c.args.found.now in
    let found = c.requires.found in
    let seen = seen_lent c.args.lent.now in
    let family = ap (λ (k : Family). plan_by c.args.devices.now k c.args.me.now seen) (sym c.family_of.ensures ∙ c.in-Control.is) in
    ok_map c.plan_found-in-Control.result _ _ (λ p is. control_where_found c.args.devices.now f.place c.args.me.now seen f.line.now (statement_found f) (record { me = c.plan_found-in-Control.new.me; globals = globals_lent c.plan_found-in-Control.new.lent; planned = p }) found.stands found.line found.statement family is) c.plan_found-in-Control.ensures.planned

pub returns-in-Printing-clause-planned : goal.returns-in-Printing-clause-planned
returns-in-Printing-clause-planned c =
    let f = c.args.found.now in
    let found = c.requires.found in
    let seen = seen_lent c.args.lent.now in
    let family = ap (λ (k : Family). plan_by c.args.devices.now k c.args.me.now seen) (sym c.family_of.ensures ∙ c.in-Printing.is) in
    ok_map c.plan_found-in-Printing.result _ _ (λ p is. planned_where_found c.args.devices.now f.place c.args.me.now seen f.line.now (statement_found f) (record { me = c.plan_found-in-Printing.new.me; globals = globals_lent c.plan_found-in-Printing.new.lent; planned = p }) found.stands found.program found.line found.statement family is) c.plan_found-in-Printing.ensures.planned

pub returns-in-Terminal-clause-planned : goal.returns-in-Terminal-clause-planned
returns-in-Terminal-clause-planned c =
    let f = c.args.found.now in
    let found = c.requires.found in
    let seen = seen_lent c.args.lent.now in
    let family = ap (λ (k : Family). plan_by c.args.devices.now k c.args.me.now seen) (sym c.family_of.ensures ∙ c.in-Terminal.is) in
    ok_map c.plan_found-in-Terminal.result _ _ (λ p is. planned_where_found c.args.devices.now f.place c.args.me.now seen f.line.now (statement_found f) (record { me = c.plan_found-in-Terminal.new.me; globals = globals_lent c.plan_found-in-Terminal.new.lent; planned = p }) found.stands found.program found.line found.statement family is) c.plan_found-in-Terminal.ensures.planned
