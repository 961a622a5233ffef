use Rattle.std.proofs.Common.{sym, ap, ◌∙◌}
use Rattle.b2_access.specs.Lending.{seen_lent}
use Rattle.b2_sched.specs.Choice.{finish_by}
use Rattle.b2_sched.specs.declared.choice.Family.{Family}
use Rattle.b2_sched.proofs.basic.BasicLanguage.finish.Goals as goal

pub returns-in-Printing-clause-finished : goal.returns-in-Printing-clause-finished
returns-in-Printing-clause-finished c devices =
    let seen = seen_lent c.args.lent.now in
    c.finish_printing.ensures.finished seen
    ∙ sym (ap (λ (k : Family). finish_by k c.args.access.now c.args.answer.now c.args.me.now seen) (sym c.family_of.ensures ∙ c.in-Printing.is))
