use Rattle.std.proofs.Common.{true, sym, ap, subst, ◌∙◌}
use Rattle.std.specs.Option.{option_copied_mut}
use Rattle.b2_access.specs.Homes.{IsWithin}
use Rattle.b2_access.specs.Leading.{is_present}
use Rattle.b2_access.specs.declared.private.Private.{Private}
use Rattle.b2_sched.specs.Presence.{IsSettled}
use Rattle.b2_sched.proofs.Present.{flagged, still_present}
use Rattle.b2_sched.proofs.Settled.{halt_settled}
use Rattle.b2_sched.proofs.world.World.halt.Goals as goal

pub invariant_of-self-2 : goal.invariant_of-self-2
invariant_of-self-2 g c =
    let s = g.S.Shared.store (g.S.Shared.meaning c.self.inside.stores) in
    let m = c.self.inside.seen in
    let p = c.args.p in
    let me = c.in-Some.me.now in
    let was = c.self.invariant p me (sym (ap option_copied_mut (sym c.in-Some.is) ∙ c.get_mut.ensures.there)) in
    let settled = subst (λ (you : Private). IsSettled p you) (sym c.flag_halt.ensures.halt) (halt_settled p me was.settled) in
    let same : IsWithin (is_present s) (record me { halt = true }) = record { part = was.homes.part; place = was.homes.place; kept = was.homes.kept; frames = was.homes.frames } in
    let homes = subst (λ (you : Private). IsWithin (is_present s) you) (sym c.flag_halt.ensures.halt) same in
    still_present p c.flag_halt.new.self c.self.inside.privates s s m m (flagged p me c.flag_halt.new.self s m settled homes was) (λ q you is. is) c.self.invariant
