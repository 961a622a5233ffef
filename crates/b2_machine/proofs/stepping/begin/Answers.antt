use Rattle.std.proofs.Common.{ap, sym, subst, ◌∙◌}
use Rattle.std.specs.Prelude.{is_some}
use Rattle.b2_vars.specs.Globals.{Globals, unreached}
use Rattle.b2_access.specs.Lending.{SeenLent}
use Rattle.b2_access.specs.Loans.{left_at}
use Rattle.b2_machine.specs.Stays.{KeepsAll}
use Rattle.b2_machine.specs.Statements.{begins, leaves, seen_there}
use Rattle.b2_machine.specs.Step.{seen_by}
use Rattle.b2_machine.proofs.Begins.{left_found, lent_is_seen, loan_left}
use Rattle.b2_machine.proofs.Kept.{lent_kept}
use Rattle.b2_machine.proofs.LegalPlans.{legal_begun}
use Rattle.b2_machine.proofs.Reached.{leaves_become}
use Rattle.b2_machine.proofs.Results.{ok_map, on_map}
use Rattle.b2_machine.proofs.stepping.begin.Goals as goal

pub returns-clause-legal : goal.returns-clause-legal
returns-clause-legal g c =
    let lent = c.lend-globals.result in
    ok_map c.begin_with-begun.result.0 _ _
    (λ x is. legal_begun (g.L.Language.ways c.args.d.now) (g.met.L.Language.lawful c.args.d.now) c.args.place.now _ c.begin_with-begun.new.me (seen_there lent.own.now lent.home.now lent.found lent.globals.now) x is) c.begin_with-begun.ensures.begun

pub returns-clause-begun : goal.returns-clause-begun
returns-clause-begun g c =
    let shared = g.S.Shared in
    let ways = g.L.Language.ways c.args.d.now in
    let me = c.args.me.now in
    let p = c.args.place.now in
    let lent = c.lend-globals.result in
    let seen = lent_is_seen me.part p.home c.args.whose.now (shared.store (shared.meaning c.args.s.now)) (seen_there lent.own.now lent.home.now lent.found lent.globals.now) c.lend-globals.ensures.own c.lend-globals.ensures.home
    (ap (λ (x : Globals). unreached x.vars) c.lend-globals.ensures.globals) in
    ok_map c.begin_with-begun.result.0 _ _ (λ x is. is ∙ ap (λ (l : SeenLent). begins ways p me l) seen) c.begin_with-begun.ensures.begun

-- what it leaves of the variables that were lent is put back, and the store is told whether a receiver was reached
pub returns-clause-lent : goal.returns-clause-lent
returns-clause-lent g c =
    let shared = g.S.Shared in
    let ways = g.L.Language.ways c.args.d.now in
    let me = c.args.me.now in
    let p = c.args.place.now in
    let whose = c.args.whose.now in
    let m = shared.meaning c.args.s.now in
    let s = shared.store m in
    let lent = c.lend-globals.result in
    let x = seen_there lent.own.now lent.home.now lent.found lent.globals.now in
    let left = c.begin_with-begun.result.1 in
    let after = c.begin_with-begun.new.globals in
    let asked = ap (λ (y : Globals). y.vars) c.lend-globals.ensures.globals in
    let seen = lent_is_seen me.part p.home whose s x c.lend-globals.ensures.own c.lend-globals.ensures.home (ap unreached asked) in
    let leaving = leaves ways p me (seen_by me.part p.home whose s) in
    let there = sym (ap (λ (l : SeenLent). is_some (leaves ways p me l).vars) seen) ∙ (leaves_become ways (g.met.L.Language.lawful c.args.d.now) p me x).there in
    on_map c.begin_with-begun.result.0 _ _ (λ is. c.note_where_reached.ensures.noted m (left_at p.home whose s after) (g.met.S.Shared.loans me.part p.home whose c.args.s.now after)
    ∙ ap (λ (y : Globals). shared.lending me.part p.home whose m y)
    (loan_left p.home whose s lent.found left.reached lent.globals.now after leaving asked (left_found lent.found left.found left.reached lent.globals.now after leaving (is ∙ ap (λ (l : SeenLent). leaves ways p me l) seen) there))) c.begin_with-begun.ensures.left

pub returns-clause-kept : goal.returns-clause-kept
returns-clause-kept g c =
    let shared = g.S.Shared in
    let me = c.args.me.now in
    let home = c.args.place.now.home in
    let whose = c.args.whose.now in
    let m = shared.meaning c.args.s.now in
    record {
      same = c.note_where_reached.ensures.same ∙ g.met.S.Shared.loan_holds me.part home whose c.args.s.now _;
      part = c.begin_with-begun.ensures.part;
      listed = on_map c.begin_with-begun.result.0 _ _ (λ is. subst (λ (n : shared.Meaning). KeepsAll (shared.store m) (shared.store n)) (sym is) (lent_kept shared.store shared.lending g.met.S.Shared.lends_globals me.part home whose m _)) (returns-clause-lent g c);
    }
