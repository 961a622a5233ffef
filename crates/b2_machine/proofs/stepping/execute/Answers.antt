use Rattle.b2_machine.proofs.stepping.execute.Goals as goal

pub returns-clause-ended : goal.returns-clause-ended
returns-clause-ended g c = c.go_through.ensures.ended c.args.me.now (g.S.Shared.meaning c.args.s.now) c.in_ok-opening.ensures.kept.part c.in_ok-opening.ensures.opened c.open.ensures.lent
