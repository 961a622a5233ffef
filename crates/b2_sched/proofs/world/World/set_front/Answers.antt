use Rattle.std.proofs.Common.{sym, subst}
use Rattle.b2_access.specs.Store.{StoreState, content}
use Rattle.b2_access.specs.declared.objects.Object.TheVariants as object
use Rattle.b2_sched.specs.Presence.{ArePresent}
use Rattle.b2_sched.proofs.Present.{present_at}
use Rattle.b2_sched.proofs.world.World.set_front.Goals as goal

pub invariant_of-self : goal.invariant_of-self
invariant_of-self g c =
    let s = g.S.Shared.store (g.S.Shared.meaning c.self.inside.stores) in
    subst (λ (t : StoreState). ArePresent c.self.inside.privates t c.self.inside.seen) (sym c.set_front.ensures.front)
    (present_at c.self.inside.privates s c.self.inside.seen (content s (object.Terminal c.args.t)) c.args.t _ c.self.invariant)
