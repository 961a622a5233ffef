use Rattle.std.proofs.Common.{◌≡◌, true, sym, ◌∙◌}
use Rattle.std.proofs.lemmas.Result.{IfOk-weaker}
use Rattle.b2_access.specs.Answering.{can_answer}
use Rattle.b2_access.specs.Fitting.{AnswerFits}
use Rattle.b2_access.proofs.Fitting.{stop_fits}
use Rattle.b2_access.proofs.Locality.{serves_by_row}
use Rattle.b2_store.specs.DiskWork.{disks}
use Rattle.b2_store.proofs.Answered.{done-so, served-fits, stopped-so}
use Rattle.b2_store.proofs.serving.serve_access.Goals as goal

-- what stops an access is one of its answers and fits it, and so is what is done where nothing does
pub returns-in-Some-clause-possible : goal.returns-in-Some-clause-possible
returns-in-Some-clause-possible g c =
    let s = g.S.Lookups.state c.args.store.now in
    let a = c.args.access.now in
    stopped-so s c.args.who a (λ x. can_answer a x ≡ true) (serves_by_row disks s c.args.who a) c.in-Some.answer (sym c.stop.ensures ∙ c.in-Some.is)

pub returns-in-Some-clause-fits : goal.returns-in-Some-clause-fits
returns-in-Some-clause-fits g c = stop_fits c.args.access.now _ _ c.in-Some.answer (sym c.stop.ensures ∙ c.in-Some.is)

pub returns-in-None-clause-possible : goal.returns-in-None-clause-possible
returns-in-None-clause-possible g c =
    let s = g.S.Lookups.state c.args.store.now in
    let a = c.args.access.now in
    IfOk-weaker c.perform.result _ _ (λ x is. done-so s c.args.who a (λ x. can_answer a x ≡ true) (serves_by_row disks s c.args.who a) _ (sym c.stop.ensures ∙ c.in-None.is) is) c.perform.ensures.done

pub returns-in-None-clause-fits : goal.returns-in-None-clause-fits
returns-in-None-clause-fits g c =
    let s = g.S.Lookups.state c.args.store.now in
    let a = c.args.access.now in
    IfOk-weaker c.perform.result _ _ (λ x is. done-so s c.args.who a (AnswerFits a) (served-fits s c.args.who a c.requires.legal c.perform.ensures.good c.perform.ensures.good_read) _ (sym c.stop.ensures ∙ c.in-None.is) is) c.perform.ensures.done
