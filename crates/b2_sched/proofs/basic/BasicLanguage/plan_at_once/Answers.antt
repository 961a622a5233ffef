use Rattle.std.proofs.Common.{sym, ap, ◌∙◌, Option}
use Rattle.std.specs.Option.{option_map_or}
use Rattle.b2_access.specs.Found.{seen_found, statement_found}
use Rattle.b2_access.specs.Lending.{SeenLent, globals_lent}
use Rattle.b2_access.specs.Placed.{Statement}
use Rattle.b2_access.specs.declared.accesses.Access.{Access}
use Rattle.b2_access.specs.declared.planned.Planned.TheVariants as planned
use Rattle.b2_access.proofs.Dispatch.{ok_map}
use Rattle.b2_sched.proofs.FoundUnits.{control_at_once, control_built, variables_at_once}
use Rattle.b2_sched.proofs.basic.BasicLanguage.plan_at_once.Goals as goal

pub returns-then-is_built-clause-planned : goal.returns-then-is_built-clause-planned
returns-then-is_built-clause-planned c devices =
    let f = c.args.found.now in
    let u : Statement = statement_found f in
    let s : SeenLent = seen_found f (globals_lent c.args.lent.now) in
    let is = c.requires.found in
    let after = c.execute.new in
    ok_map c.execute.result _ _ (λ o same.
    ap (λ (a : Option Access). record { me = after.me; globals = globals_lent after.lent; planned = option_map_or planned.Ask a (planned.Done o) }) c.requires.empty
    ∙ variables_at_once devices f.place c.args.me.now s f.line.now u (record { me = after.me; globals = globals_lent after.lent; planned = planned.Done o }) is.stands is.line is.statement
    (sym c.is_built.ensures ∙ c.if-is_built.true) same) c.execute.ensures.ended

pub returns-else-is_built-clause-planned : goal.returns-else-is_built-clause-planned
returns-else-is_built-clause-planned c devices =
    let f = c.args.found.now in
    let u : Statement = statement_found f in
    let s : SeenLent = seen_found f (globals_lent c.args.lent.now) in
    let is = c.requires.found in
    let after = c.execute-else-is_built.new in
    let other = sym c.is_built.ensures ∙ c.if-is_built.false in
    ok_map c.execute-else-is_built.result _ _ (λ o same. control_at_once devices f.place c.args.me.now s f.line.now u
    (record { me = after.me; globals = globals_lent after.lent; planned = option_map_or planned.Ask after.access (planned.Done o) }) is.stands is.line is.statement
    other (control_built u.row other c.requires.at_once) same) c.execute-else-is_built.ensures.ended
