use Rattle.std.proofs.Common.{◌≡◌, ◌∙◌, ℕ, true, List, ◌∷◌, Some, None, sym, ap, subst}
use Rattle.b2_atom.specs.declared.rows.TheConstants as row
use Rattle.b2_rows.specs.Rows.{tree_at}
use Rattle.b2_flow.specs.Stacks.{has_room}
use Rattle.b2_flow.specs.declared.frame.Frame.{Frame}
use Rattle.b2_flow.specs.declared.frame.Frame.TheVariants.{Call}
use Rattle.b2_flow.specs.declared.frame.Place.{Place}
use Rattle.b2_access.specs.JumpTargets.{is_done, lead_seen}
use Rattle.b2_access.specs.declared.private.Private.{Private}
use Rattle.b2_stmt.specs.Arguments.{arguments, operands_of}
use Rattle.b2_stmt.specs.Marked.{number_called}
use Rattle.b2_stmt.specs.Fast.{IsMarkLed, around_fast}
use Rattle.b2_stmt.proofs.FastCalls.{call_steers}
use Rattle.b2_stmt.proofs.fast.fast_gosub_marked.Goals as goal

pub returns-in-Ok-clause-fast : goal.returns-in-Ok-clause-fast
returns-in-Ok-clause-fast c =
    let f = c.args.found.now in
    let me = c.args.me.now in
    let t = tree_at row.GOSUB_MARKED f.unit.now.bytes.now in
    let leads : IsMarkLed (lead_seen c.lead_to_mark-to.result) (number_called t) f = subst (λ (n : ℕ). IsMarkLed (lead_seen c.lead_to_mark-to.result) n f) c.number_called.ensures c.lead_to_mark-to.ensures in
    let there : is_done c.lead_on-on.result ≡ true = sym c.is_done.ensures ∙ c.if-not-is_done.false in
    let at_home : is_done c.lead_to_mark-to.result ≡ true = sym c.is_done-2.ensures ∙ c.if-not-is_done-2.false in
    let room : has_room me.stack ≡ true = sym c.has_room.ensures ∙ c.if-not-has_room.false in
    let frames : c.put_with_room.new.stack ≡ Call (Some c.place.result) None ∷ me.stack = c.put_with_room.ensures ∙ ap (λ (m : Private). Call (Some c.place.result) None ∷ m.stack) c.in-Ok.ensures.me in
    call_steers f me _ c.lead_on-on.result c.lead_to_mark-to.result (number_called t) (arguments (around_fast f me) (operands_of t)) c.in-Ok.args c.in-Ok.ensures.values c.lead_on-on.ensures there leads at_home room
    (ap (λ (m : Private). record m { stack = c.put_with_room.new.stack; args = Some c.in-Ok.args }) c.in-Ok.ensures.me
    ∙ ap (λ (s : List Frame). record me { stack = s; args = Some c.in-Ok.args }) (frames ∙ ap (λ (p : Place). Call (Some p) None ∷ me.stack) c.place.ensures))
