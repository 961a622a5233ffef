use Rattle.std.proofs.Common.{◌∙◌, ap, nat_lt, arith}
use Rattle.b2_vars.proofs.Steps.{place-is, place-there, each-is, sound-is}
use Rattle.b2_vars.proofs.block.Block.place.Goals as goal

pub item_at-requires : goal.item_at-requires
item_at-requires c = omega (arith, c.number_of.ensures.below, c.self.invariant.named)

pub returns-clause-place : goal.returns-clause-place
returns-clause-place c = c.item_at.ensures ∙ place-is c.self.inside.bytes.items c.self.inside.used c.self.inside.places.items c.self.invariant c.args.self.now c.self.view_is c.args.v c.number_of.result c.requires c.number_of.ensures.number

pub returns-clause-there : goal.returns-clause-there
returns-clause-there c = ap (nat_lt 0) (returns-clause-place c) ∙ place-there c.self.inside.bytes.items c.self.inside.used c.self.inside.places.items c.self.invariant c.args.self.now c.self.view_is c.args.v

pub returns-clause-sound : goal.returns-clause-sound
returns-clause-sound c = each-is c.self.inside.bytes.items c.self.inside.used c.self.inside.places.items c.self.invariant c.args.self.now c.self.view_is c.args.v

pub returns-clause-whole : goal.returns-clause-whole
returns-clause-whole c = sound-is c.self.inside.bytes.items c.self.inside.used c.self.inside.places.items c.self.invariant c.args.self.now c.self.view_is
