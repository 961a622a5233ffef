use Rattle.std.proofs.Common.{Bool, None, refl, sym, ap, subst, ◌∙◌}
use Rattle.b2_vars.specs.Globals.{unreached}
use Rattle.b2_access.specs.Found.{seen_found, statement_found}
use Rattle.b2_access.specs.JumpTargets.{lead_seen}
use Rattle.b2_access.specs.Lending.{SeenLent}
use Rattle.b2_access.specs.Fast.{DoneFast}
use Rattle.b2_access.specs.Placed.{Statement}
use Rattle.b2_access.specs.Planning.{Planning}
use Rattle.b2_access.specs.Working.{Ends, as_planned}
use Rattle.b2_stmt_var.specs.Plan as stmt_var
use Rattle.b2_stmt_var.specs.Plan.{ended_of}
use Rattle.b2_sched.specs.Choice.{is_built}
use Rattle.b2_sched.proofs.FoundUnits.{variables_at_once}
use Rattle.b2_sched.proofs.Fast.{control_is_built, control_fast, frames_change, variables_change}
use Rattle.b2_sched.proofs.basic.BasicLanguage.do_fast.Goals as goal

pub returns-then-row-eq-ASSIGNMENT-clause-fast : goal.returns-then-row-eq-ASSIGNMENT-clause-fast
returns-then-row-eq-ASSIGNMENT-clause-fast c devices =
    let f = c.args.found.now in
    let u : Statement = statement_found f in
    let s : SeenLent = seen_found f (unreached None) in
    let me = c.args.me.now in
    let is = c.requires.found in
    subst (λ (p : Planning). DoneFast (lead_seen c.do_fast.result) f me c.do_fast.new.me p)
    (variables_at_once devices f.place me s f.line.now u (as_planned me s (Ends (ended_of u me s))) is.stands is.line is.statement (ap stmt_var.is_built c.if-row-eq-ASSIGNMENT.true) refl)
    c.do_fast.ensures.fast

pub returns-then-row-eq-ASSIGNMENT-clause-built : goal.returns-then-row-eq-ASSIGNMENT-clause-built
returns-then-row-eq-ASSIGNMENT-clause-built c devices done = ap is_built c.if-row-eq-ASSIGNMENT.true

pub returns-then-row-eq-ASSIGNMENT-clause-undisturbed : goal.returns-then-row-eq-ASSIGNMENT-clause-undisturbed
returns-then-row-eq-ASSIGNMENT-clause-undisturbed c = variables_change c.args.me.now c.do_fast.new.me c.do_fast.ensures.undisturbed

pub returns-clause-fast : goal.returns-clause-fast
returns-clause-fast c devices =
    control_fast devices c.args.found.now c.args.me.now c.do_fast-2.new.me (lead_seen c.do_fast-2.result) c.requires.found (sym c.is_built.ensures ∙ c.if-is_built.false) c.do_fast-2.ensures.built c.do_fast-2.ensures.fast

pub returns-clause-built : goal.returns-clause-built
returns-clause-built c devices done = control_is_built c.args.found.now.unit.now.row (c.do_fast-2.ensures.built done)

pub returns-clause-undisturbed : goal.returns-clause-undisturbed
returns-clause-undisturbed c = frames_change c.args.me.now c.do_fast-2.new.me c.do_fast-2.ensures.undisturbed
