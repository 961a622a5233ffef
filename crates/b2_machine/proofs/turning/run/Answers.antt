use Rattle.std.specs.Prelude.{None}
use Rattle.std.proofs.Common.{◌∙◌, sym, subst}
use Rattle.b2_machine.specs.Advancing.{Advances}
use Rattle.b2_machine.specs.Step.{texts_lent}
use Rattle.b2_machine.specs.Stays.{KeepsAll}
use Rattle.b2_machine.proofs.Advances.{legal_mid, lent_mid, mid, opened_advances, opens_mid, run_advances, you_part}
use Rattle.b2_machine.proofs.turning.run.Goals as goal

-- nothing was opened after them
pub returns-in-None-clause-advances : goal.returns-in-None-clause-advances
returns-in-None-clause-advances g c =
    let shared = g.S.Shared in
    let laws = g.met.S.Shared in
    let devices = c.args.d.now in
    let m = shared.meaning c.args.s.now in
    subst (λ (n : shared.Meaning). Advances (g.L.Language.ways devices) shared.store shared.serving shared.lending c.args.left c.args.me.now c.run_lent.new.me m n (record { taken = c.in_ok-ran.ran.steps; counted = c.in_ok-ran.ran.steps; why = None })) (sym c.in_ok-ran.ensures.lent)
    (run_advances (g.L.Language.ways devices) (g.met.L.Language.lawful devices) shared.store shared.serving shared.lending laws.lends_globals laws.answers_lead laws.names_lead laws.lends_texts_again c.args.home c.args.left c.args.me.now c.run_lent.new.me m c.run_lent.new.access c.in_ok-ran.ran c.requires.there c.requires.some c.requires.present c.in_ok-ran.ensures.ran c.in-None.is)

pub go_through-requires-clause-legal : goal.go_through-requires-clause-legal
go_through-requires-clause-legal g c =
    let shared = g.S.Shared in
    let laws = g.met.S.Shared in
    let devices = c.args.d.now in
    legal_mid (g.L.Language.ways devices) (g.met.L.Language.lawful devices) shared.store shared.serving shared.lending laws.lends_globals laws.answers_lead laws.names_lead laws.lends_texts_again c.args.home c.args.left c.args.me.now c.run_lent.new.me (shared.meaning c.args.s.now) c.run_lent.new.access c.in_ok-ran.ran c.requires.there c.requires.some c.requires.present c.in_ok-ran.ensures.ran c.in-Some.opened c.in-Some.is

-- or the statement after them goes on
pub returns-clause-advances : goal.returns-clause-advances
returns-clause-advances g c =
    let shared = g.S.Shared in
    let laws = g.met.S.Shared in
    let devices = c.args.d.now in
    let ways = g.L.Language.ways devices in
    let lawful = g.met.L.Language.lawful devices in
    let m = shared.meaning c.args.s.now in
    let ran = c.in_ok-ran.ran in
    let is = c.in_ok-ran.ensures in
    let needs = c.requires in
    let o = c.in-Some.opened in
    let over = texts_lent shared.store shared.serving shared.lending c.args.me.now.part c.args.home m in
    let first = mid ways lawful shared.store shared.serving shared.lending laws.lends_globals laws.answers_lead laws.names_lead laws.lends_texts_again c.args.home c.args.left c.args.me.now c.run_lent.new.me m c.run_lent.new.access ran needs.there needs.some needs.present is.ran in
    let part = you_part ways lawful shared.store shared.serving shared.lending laws.lends_globals laws.answers_lead laws.names_lead laws.lends_texts_again c.args.home c.args.left c.args.me.now c.run_lent.new.me m c.run_lent.new.access ran needs.there needs.some needs.present is.ran o c.in-Some.is is.kept.part in
    let opens = opens_mid ways lawful shared.store shared.serving shared.lending laws.lends_globals laws.answers_lead laws.names_lead laws.lends_texts_again c.args.home c.args.left c.args.me.now c.run_lent.new.me m c.run_lent.new.access ran needs.there needs.some needs.present is.ran o c.in-Some.is in
    let lent = lent_mid ways lawful shared.store shared.serving shared.lending laws.lends_globals laws.answers_lead laws.names_lead laws.lends_texts_again c.args.home c.args.left c.args.me.now c.run_lent.new.me m c.run_lent.new.access ran needs.there needs.some needs.present is.ran o c.in-Some.is in
    let ended = c.in_ok-end-in-Some.ensures.ended first over part opens (is.lent ∙ lent) in
    let listed : KeepsAll (shared.store over) (shared.store (shared.meaning c.go_through.new.s)) =
    subst (λ (n : shared.Meaning). KeepsAll (shared.store n) (shared.store (shared.meaning c.go_through.new.s))) is.lent c.in_ok-end-in-Some.ensures.kept.listed in
    subst (Advances ways shared.store shared.serving shared.lending c.args.left c.args.me.now c.go_through.new.me m (shared.meaning c.go_through.new.s)) (sym c.went_on.ensures)
    (opened_advances ways lawful shared.store shared.serving shared.lending laws.lends_globals laws.answers_lead laws.names_lead laws.lends_texts_again c.args.home c.args.left c.args.me.now c.run_lent.new.me m c.run_lent.new.access ran needs.there needs.some needs.present is.ran o c.in-Some.is
    c.go_through.new.me (shared.meaning c.go_through.new.s) c.in_ok-end-in-Some.end ended listed)
