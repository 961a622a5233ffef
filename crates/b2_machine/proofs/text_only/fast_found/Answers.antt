use Rattle.std.proofs.Common.{◌≡◌, ℕ, Bool, true, false, Some, None, is_some, if◌then◌else◌, refl, sym, ap, subst, ◌∙◌}
use Rattle.b2_vars.specs.Globals.{unreached}
use Rattle.b2_access.specs.Found.{seen_found}
use Rattle.b2_access.specs.JumpTargets.{is_done}
use Rattle.b2_access.specs.Fast.{DoneFast}
use Rattle.b2_language.specs.Following.{moves_to}
use Rattle.b2_machine.specs.Statements.{WentFast, texts_seen}
use Rattle.b2_machine.proofs.FastSteps.{has_gone_fast}
use Rattle.b2_machine.proofs.text_only.fast_found.Goals as goal

pub returns-then-is_done-clause-gone_fast : goal.returns-then-is_done-clause-gone_fast
returns-then-is_done-clause-gone_fast g c devices =
    let f = c.args.found.now in
    let lead = c.do_fast-lead.result in
    let me = c.args.me.now in
    let mid = c.do_fast-lead.new.me in
    let ways = g.L.Language.ways devices in
    let s = texts_seen f.own.now f.home.now in
    let done : is_done lead ≡ true = sym c.is_done.ensures ∙ c.if-is_done.true in
    let passes = subst (λ (b : Bool). DoneFast (if b then Some (lead.line, lead.unit) else None) f me mid (ways.plan f.unit.now.row me (seen_found f (unreached None)))) done (c.do_fast-lead.ensures.fast devices) in
    let built = c.do_fast-lead.ensures.built devices (ap (λ (b : Bool). is_some {T = ℕ × ℕ} (if b then Some (lead.line, lead.unit) else None)) done) in
    let moved = c.move_to.ensures.changed ∙ ap (λ p. moves_to p mid) c.place.ensures in
    subst (λ (b : Bool). WentFast (if b then Some (lead.line, lead.unit) else None) ways f.place me c.move_to.new.me s) (sym done)
    (has_gone_fast ways (g.met.L.Language.lawful devices) f me c.requires.found c.requires.local built s refl (lead.line, lead.unit) mid c.move_to.new.me passes moved)

pub returns-else-is_done-clause-gone_fast : goal.returns-else-is_done-clause-gone_fast
returns-else-is_done-clause-gone_fast g c devices =
    let f = c.args.found.now in
    let lead = c.do_fast-lead.result in
    let me = c.args.me.now in
    let ways = g.L.Language.ways devices in
    let open_so : is_done lead ≡ false = sym c.is_done.ensures ∙ c.if-is_done.false in
    subst (λ (b : Bool). WentFast (if b then Some (lead.line, lead.unit) else None) ways f.place me c.do_fast-lead.new.me (texts_seen f.own.now f.home.now)) (sym open_so)
    (subst (λ (b : Bool). DoneFast (if b then Some (lead.line, lead.unit) else None) f me c.do_fast-lead.new.me (ways.plan f.unit.now.row me (seen_found f (unreached None)))) open_so (c.do_fast-lead.ensures.fast devices))
