use Rattle.std.proofs.Common.{sym, subst}
use Rattle.b2_machine.specs.Advancing.{Advances}
use Rattle.b2_machine.proofs.Advances.{first_advances}
use Rattle.b2_machine.proofs.turning.advance.Goals as goal

pub step-requires : goal.step-requires
step-requires g c = record { own = c.requires.present.within.part; home = c.requires.present.within.place }

-- one step
pub returns-in_ok-end-in-None-clause-advances : goal.returns-in_ok-end-in-None-clause-advances
returns-in_ok-end-in-None-clause-advances g c =
    let shared = g.S.Shared in
    let laws = g.met.S.Shared in
    let devices = c.args.d.now in
    let ways = g.L.Language.ways devices in
    subst (Advances ways shared.store shared.serving shared.lending c.args.left c.args.me.now c.step.new.me (shared.meaning c.args.s.now) (shared.meaning c.step.new.s)) (sym c.went_on.ensures)
    (first_advances ways (g.met.L.Language.lawful devices) shared.store shared.serving shared.lending laws.lends_globals laws.answers_lead laws.names_lead c.args.left c.args.me.now c.step.new.me (shared.meaning c.args.s.now) (shared.meaning c.step.new.s) c.in_ok-end-in-None.end
    c.requires.some c.in_ok-end-in-None.ensures.stepped c.in_ok-end-in-None.ensures.kept.listed c.requires.present)
