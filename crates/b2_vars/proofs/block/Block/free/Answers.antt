use Rattle.std.proofs.Common.{arith}
use Rattle.b2_vars.proofs.Steps.{count-is, same-area, sound-is}
use Rattle.b2_vars.proofs.block.Block.free.Goals as goal

pub returns-clause-free : goal.returns-clause-free
returns-clause-free c = omega (arith, c.len.ensures, count-is c.self.inside.bytes.items c.self.inside.used c.self.inside.places.items c.self.invariant c.args.self.now c.self.view_is, same-area c.self.inside.bytes.items c.self.inside.used c.self.inside.places.items c.self.invariant c.args.self.now c.self.view_is)

pub returns-clause-sound : goal.returns-clause-sound
returns-clause-sound c = sound-is c.self.inside.bytes.items c.self.inside.used c.self.inside.places.items c.self.invariant c.args.self.now c.self.view_is
