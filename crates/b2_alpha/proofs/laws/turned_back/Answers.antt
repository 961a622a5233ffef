use Rattle.std.proofs.Common.{arith}
use Rattle.b2_alpha.proofs.TurningBack.{rotated_back}
use Rattle.b2_alpha.proofs.laws.turned_back.Goals as goal

pub returns : goal.returns
returns c = rotated_back c.args.whole c.args.n c.args.bytes.now c.requires.low c.requires.high (λ k. let fits = c.type_inv.bytes k in omega arith)
