use Rattle.std.proofs.Common.{arith}
use Rattle.b2_vars.proofs.Steps.{count-is, used-room, same-area}
use Rattle.b2_vars.proofs.block.Block.count.Goals as goal

pub returns-clause-count : goal.returns-clause-count
returns-clause-count c = count-is c.self.inside.bytes.items c.self.inside.used c.self.inside.places.items c.self.invariant c.args.self.now c.self.view_is

pub returns-clause-fits : goal.returns-clause-fits
returns-clause-fits c = omega (arith, used-room c.self.inside.bytes.items c.self.inside.used c.self.inside.places.items c.self.invariant c.args.self.now c.self.view_is, same-area c.self.inside.bytes.items c.self.inside.used c.self.inside.places.items c.self.invariant c.args.self.now c.self.view_is)
