use Rattle.std.proofs.Common.{ap, ◌∙◌}
use Rattle.b2_access.specs.Sharing.{Gives}
use Rattle.b2_access.specs.declared.objects.Object.TheVariants as object
use Rattle.b2_machine.specs.Endings.{Ending}
use Rattle.b2_machine.specs.Statements.{finishes}
use Rattle.b2_machine.specs.Step.{by_itself, finishes_by, seen_by}
use Rattle.b2_machine.proofs.Results.{ok_both}
use Rattle.b2_machine.proofs.stepping.ask_and_finish.Goals as goal

-- the own text and that of the home are there after the access too, and its answer is one of its row
pub finish-requires : goal.finish-requires
finish-requires g c = record {
  own = c.in_ok-answer.ensures.kept.listed (object.Text c.args.me.now.part) c.requires.own;
  home = c.in_ok-answer.ensures.kept.listed (object.Text c.args.place.now.home) c.requires.home;
  possible = c.in_ok-answer.ensures.possible;
}

-- its statement finishes over what is lent again
pub returns-clause-ended : goal.returns-clause-ended
returns-clause-ended g c devices =
    let shared = g.S.Shared in
    let ways = g.L.Language.ways devices in
    let me = c.args.me.now in
    let p = c.args.place.now in
    let whose = c.args.whose.now in
    let access = c.args.access.now in
    let served = shared.meaning c.ask_store.new.s in
    let end = finishes ways c.args.builder access c.in_ok-answer.answer c.args.onward p me (seen_by me.part p.home whose (shared.store served)) in
    ok_both c.finish.result _ _ _ (λ e is lent. ap (λ (x : Ending). by_itself shared.store shared.serving shared.lending x (shared.meaning c.finish.new.s)) is
    ∙ ap (λ (m : shared.Meaning). by_itself shared.store shared.serving shared.lending end m) lent
    ∙ ap (λ (x : Gives shared.Meaning). finishes_by ways shared.store shared.serving shared.lending me.part c.args.builder access c.args.onward p whose me x) c.in_ok-answer.ensures.served) (c.finish.ensures.ended devices) (c.finish.ensures.lent devices)
