use Rattle.std.proofs.Common.{refl, subst}
use Rattle.b2_access.specs.Lending.{SeenLent}
use Rattle.b2_access.specs.declared.lending.At.TheVariants as at
use Rattle.b2_machine.specs.StraightLine.{RunsOn}
use Rattle.b2_machine.specs.Statements.{texts_seen}
use Rattle.b2_machine.proofs.Begins.{lent_is_seen}
use Rattle.b2_machine.proofs.Results.{ok_map}
use Rattle.b2_machine.proofs.stepping.run_lent.Goals as goal

pub returns-clause-ran : goal.returns-clause-ran
returns-clause-ran g c =
    let shared = g.S.Shared in
    let me = c.args.me.now in
    let lent = c.lend-globals.result in
    let seen = lent_is_seen me.part c.args.home at.None (shared.store (shared.meaning c.args.s.now)) (texts_seen lent.own.now lent.home.now) c.lend-globals.ensures.own c.lend-globals.ensures.home refl in
    ok_map c.run_on.result _ _ (λ x is. subst (λ (s : SeenLent). RunsOn (g.L.Language.ways c.args.d.now) c.args.home s c.args.left me c.run_on.new.me c.run_on.new.access x) seen is) c.run_on.ensures.ran
