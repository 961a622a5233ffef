use Rattle.std.proofs.Common.{ap, sym, ◌∙◌}
use Rattle.b2_machine.specs.Step.{carries_out}
use Rattle.b2_machine.specs.declared.statements.Progress.{Progress}
use Rattle.b2_machine.proofs.Results.{ok_map}
use Rattle.b2_machine.proofs.stepping.carry_out.Goals as goal

pub returns-in-Asks-clause-ended : goal.returns-in-Asks-clause-ended
returns-in-Asks-clause-ended g c devices =
    let shared = g.S.Shared in
    ok_map c.ask_and_finish.result _ _ (λ e is. is
    ∙ ap (λ (x : Progress). carries_out (g.L.Language.ways devices) shared.store shared.serving shared.lending c.args.me.now.part x c.args.place c.args.whose.now c.args.me.now (shared.meaning c.args.s.now)) (sym c.in-Asks.is)) (c.ask_and_finish.ensures.ended devices)
