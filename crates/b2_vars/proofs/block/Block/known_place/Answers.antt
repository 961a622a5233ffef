use Rattle.std.proofs.Common.{◌∙◌, sym, subst, ℕ, arith}
use Rattle.b2_vars.specs.Block.{StandsAt}
use Rattle.b2_vars.proofs.Steps.{place-is, found-at, found-legal, found-variable}
use Rattle.b2_vars.proofs.block.Block.known_place.Goals as goal

pub number_of-requires : goal.number_of-requires
number_of-requires c = found-legal c.self.inside.bytes.items c.self.inside.used c.self.inside.places.items c.self.invariant c.args.self.now c.self.view_is c.args.v c.requires

pub item_at-requires : goal.item_at-requires
item_at-requires c = omega (arith, c.number_of.ensures.below, c.self.invariant.named)

pub returns-clause-at : goal.returns-clause-at
returns-clause-at c =
    let is = c.item_at.ensures ∙ place-is c.self.inside.bytes.items c.self.inside.used c.self.inside.places.items c.self.invariant c.args.self.now c.self.view_is c.args.v c.number_of.result (found-legal c.self.inside.bytes.items c.self.inside.used c.self.inside.places.items c.self.invariant c.args.self.now c.self.view_is c.args.v c.requires) c.number_of.ensures.number in
    subst (λ (n : ℕ). StandsAt c.args.v n c.args.self.now.entries) (sym is) (found-at c.self.inside.bytes.items c.self.inside.used c.self.inside.places.items c.self.invariant c.args.self.now c.self.view_is c.args.v c.requires)

pub returns-clause-sound : goal.returns-clause-sound
returns-clause-sound c = found-variable c.self.inside.bytes.items c.self.inside.used c.self.inside.places.items c.self.invariant c.args.self.now c.self.view_is c.args.v c.requires
