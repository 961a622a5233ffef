use Rattle.std.proofs.Common.{rules, refl, sym, ap, subst, ◌∙◌}
use Rattle.std.specs.Option.{option_copied_mut}
use Rattle.b2_access.specs.Homes.{IsWithin}
use Rattle.b2_access.specs.Leading.{NamesIn, is_present}
use Rattle.b2_access.specs.Store.{StoreState}
use Rattle.b2_audit.specs.Marks.{Marks}
use Rattle.b2_sched.specs.Presence.{ArePresent}
use Rattle.b2_sched.specs.World.{WorldState}
use Rattle.b2_sched.proofs.PlainTurns.{plain_end, turn_plainly}
use Rattle.b2_sched.proofs.Present.{there_present}
use Rattle.b2_sched.proofs.WatchedTurns.{turned_present, turned_world}
use Rattle.b2_sched.proofs.world.World.turn.Goals as goal

pub turn-requires : goal.turn-requires
turn-requires g c =
    let me = c.in-Some.me.now in
    let was = c.self.invariant c.args.part me (sym (ap option_copied_mut (sym c.in-Some.is) ∙ c.get_mut.ensures.there)) in
    let same = sym (ap (λ x. g.S.Shared.store (g.S.Shared.meaning x)) c.new-watched.ensures.inner) in
    let s = g.S.Shared.store (g.S.Shared.meaning c.self.inside.stores) in
    record {
      present = subst (λ (t : StoreState). IsWithin (is_present t) me) same was.homes;
      names = subst (λ (t : StoreState). NamesIn (is_present t) t) same (λ n p leads. there_present s p (was.names n p leads));
    }

pub invariant_of-self-in-Ok : goal.invariant_of-self-in-Ok
invariant_of-self-in-Ok g c =
    let me = c.in-Some.me.now in
    let rows = c.self.inside.privates in
    let watched = c.new-watched.result in
    let stores = subst (λ (s : StoreState). ArePresent rows s c.self.inside.seen) (sym (ap (λ x. g.S.Shared.store (g.S.Shared.meaning x)) c.new-watched.ensures.inner)) c.self.invariant in
    let present = subst (λ (m : Marks). ArePresent rows (g.S.Shared.store (g.S.Shared.meaning watched.inner.now)) m) (sym c.new-watched.ensures.seen) stores in
    let was = present c.args.part me (sym (ap option_copied_mut (sym c.in-Some.is) ∙ c.get_mut.ensures.there)) in
    let told = ap (plain_end g.S.Shared.store) c.in-Ok.ensures.turned
    ∙ turn_plainly c.self.inside.devices g.S.Shared.store g.S.Shared.serving g.S.Shared.lending g.met.S.Ends.serves_plainly g.met.S.Shared.lends_globals c.args.quota me (g.S.Shared.meaning watched.inner.now, watched.seen.now) in
    turned_present c.self.inside.devices c.args.part c.args.quota me c.turn.new.me (g.S.Shared.store (g.S.Shared.meaning watched.inner.now)) (g.S.Shared.store (g.S.Shared.meaning c.turn.new.s.inner.now)) watched.seen.now c.turn.new.s.seen.now c.in-Ok.turned told was rows c.in-Ok.ensures.kept.listed present

pub returns-in-Ok-clause-turned : goal.returns-in-Ok-clause-turned
returns-in-Ok-clause-turned g c =
    let me = c.in-Some.me.now in
    let inside = c.self.inside in
    let watched = c.new-watched.result in
    let w : WorldState = record { quotas = inside.quotas; devices = inside.devices; privates = inside.privates; store = g.S.Shared.store (g.S.Shared.meaning inside.stores); marks = inside.seen; turns = inside.turns; steps = inside.steps; dropped = inside.dropped } in
    let stores_are = ap (λ x. g.S.Shared.store (g.S.Shared.meaning x)) c.new-watched.ensures.inner in
    let stores = subst (λ (s : StoreState). ArePresent inside.privates s inside.seen) (sym stores_are) c.self.invariant in
    let present = subst (λ (m : Marks). ArePresent inside.privates (g.S.Shared.store (g.S.Shared.meaning watched.inner.now)) m) (sym c.new-watched.ensures.seen) stores in
    let there = sym (ap option_copied_mut (sym c.in-Some.is) ∙ c.get_mut.ensures.there) in
    let was = present c.args.part me there in
    let told = ap (plain_end g.S.Shared.store) c.in-Ok.ensures.turned
    ∙ turn_plainly c.self.inside.devices g.S.Shared.store g.S.Shared.serving g.S.Shared.lending g.met.S.Ends.serves_plainly g.met.S.Shared.lends_globals c.args.quota me (g.S.Shared.meaning watched.inner.now, watched.seen.now) in
    let world = turned_world inside.devices c.args.part c.args.quota me c.turn.new.me (g.S.Shared.store (g.S.Shared.meaning watched.inner.now)) (g.S.Shared.store (g.S.Shared.meaning c.turn.new.s.inner.now)) watched.seen.now c.turn.new.s.seen.now c.in-Ok.turned told was w refl (sym stores_are) (sym c.new-watched.ensures.seen) there in
    search (rules, world)
