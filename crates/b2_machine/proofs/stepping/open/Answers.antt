use Rattle.std.proofs.Common.{refl}
use Rattle.b2_access.specs.declared.lending.At.TheVariants as at
use Rattle.b2_machine.specs.Statements.{texts_seen}
use Rattle.b2_machine.proofs.Begins.{legal_opened, lent_is_seen, opens_seen}
use Rattle.b2_machine.proofs.Results.{ok_map}
use Rattle.b2_machine.proofs.stepping.open.Goals as goal

pub returns-clause-legal : goal.returns-clause-legal
returns-clause-legal g c =
    let lent = c.lend-globals.result in
    ok_map c.open_over.result _ _ (λ x is. legal_opened (g.L.Language.ways c.args.d.now) (g.met.L.Language.lawful c.args.d.now) c.args.place.now c.args.me.now c.open_over.new.me (texts_seen lent.own.now lent.home.now) c.open_over.new.access x is) c.open_over.ensures.opened

pub returns-clause-opened : goal.returns-clause-opened
returns-clause-opened g c =
    let shared = g.S.Shared in
    let me = c.args.me.now in
    let p = c.args.place.now in
    let lent = c.lend-globals.result in
    let seen = lent_is_seen me.part p.home at.None (shared.store (shared.meaning c.args.s.now)) (texts_seen lent.own.now lent.home.now) c.lend-globals.ensures.own c.lend-globals.ensures.home refl in
    ok_map c.open_over.result _ _ (λ x is. opens_seen (g.L.Language.ways c.args.d.now) p me c.open_over.new.me _ _ c.open_over.new.access x seen is) c.open_over.ensures.opened
