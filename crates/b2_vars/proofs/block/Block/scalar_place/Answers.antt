use Rattle.std.proofs.Common.{◌∙◌, ap, nat_lt, arith}
use Rattle.b2_vars.specs.Names.{scalar_named}
use Rattle.b2_vars.proofs.NameNumbers.{scalar_legal}
use Rattle.b2_vars.proofs.Steps.{place-is, place-there, each-is, sound-is}
use Rattle.b2_vars.proofs.block.Block.scalar_place.Goals as goal

pub item_at-requires : goal.item_at-requires
item_at-requires c = omega (arith, c.number_of_scalar.ensures.below, c.self.invariant.named)

pub returns-clause-place : goal.returns-clause-place
returns-clause-place c =
    let legal = scalar_legal c.args.letter c.args.digit c.requires.letter c.requires.digit in
    c.item_at.ensures ∙ place-is c.self.inside.bytes.items c.self.inside.used c.self.inside.places.items c.self.invariant c.args.self.now c.self.view_is (scalar_named c.args.letter c.args.digit) c.number_of_scalar.result legal c.number_of_scalar.ensures.number

pub returns-clause-there : goal.returns-clause-there
returns-clause-there c = ap (nat_lt 0) (returns-clause-place c) ∙ place-there c.self.inside.bytes.items c.self.inside.used c.self.inside.places.items c.self.invariant c.args.self.now c.self.view_is (scalar_named c.args.letter c.args.digit)

pub returns-clause-sound : goal.returns-clause-sound
returns-clause-sound c = each-is c.self.inside.bytes.items c.self.inside.used c.self.inside.places.items c.self.invariant c.args.self.now c.self.view_is (scalar_named c.args.letter c.args.digit)

pub returns-clause-whole : goal.returns-clause-whole
returns-clause-whole c = sound-is c.self.inside.bytes.items c.self.inside.used c.self.inside.places.items c.self.invariant c.args.self.now c.self.view_is
