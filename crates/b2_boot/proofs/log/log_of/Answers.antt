use Rattle.std.proofs.Common.{ℕ, List, length, sym, ap, subst, ◌∙◌, arith}
use Rattle.std.specs.Option.{option_copied}
use Rattle.std.proofs.lemmas.Grind.{common_steps}
use Rattle.b2_boot.specs.LogLines.{text_lines, lines_beyond}
use Rattle.b2_boot.specs.Logs.{LineHolds}
use Rattle.b2_boot.proofs.Lines.{length-text_lines}
use Rattle.b2_boot.proofs.LogSteps.{kept, after_failure}
use Rattle.b2_boot.proofs.FirstFailing.{first_told}
use Rattle.b2_boot.proofs.log.log_of.Goals as goal

pub loop-left-init : goal.loop-left-init
loop-left-init c =
    let few = length-text_lines c.args.bytes.now in
    record { told = grind (arith, common_steps); granted = omega arith; in_all = grind (arith, common_steps); fit = grind (arith, common_steps); lines = omega arith }

pub loop-left-preserved : goal.loop-left-preserved
loop-left-preserved c =
    let cut_is = ap (λ o. lines_beyond (option_copied o)) c.in-Some.is ∙ c.first_line.ensures.lines in
    let says = sym c.in-Asks.is ∙ c.read_log_line.ensures.value in
    let passes = subst (LineHolds c.args.boot.now c.loop-left.granted) c.in-Asks.is c.read_log_line.ensures.holds in
    let shorter = ap (λ (ps : List (List ℕ)). length ps) cut_is in
    let (told, granted, in_all, fit) =
    kept c.args.boot.now c.loop-left.number c.loop-left.granted c.steps_asked-granted.result c.loop-left.events.items c.push_events.new.events.items c.in-Asks.asked _ _ _ _
    cut_is says passes c.steps_asked-granted.ensures c.in_ok-push_events-in-Asks.ensures c.loop-left.invariant.told c.loop-left.invariant.in_all c.loop-left.invariant.fit in
    record { told = told; granted = granted; in_all = in_all; fit = fit; lines = omega arith }

pub returns-in-Fails-clause-first : goal.returns-in-Fails-clause-first
returns-in-Fails-clause-first c =
    let cut_is = ap (λ o. lines_beyond (option_copied o)) c.in-Some.is ∙ c.first_line.ensures.lines in
    let says = sym c.in-Fails.is ∙ c.read_log_line.ensures.value in
    first_told c.args.boot.now (text_lines c.args.bytes.now) c.loop-left.number c.in-Fails.check
    (after_failure c.args.boot.now c.loop-left.number c.loop-left.granted c.loop-left.events.items c.in-Fails.check _ _ _ _ cut_is says c.loop-left.invariant.told)
