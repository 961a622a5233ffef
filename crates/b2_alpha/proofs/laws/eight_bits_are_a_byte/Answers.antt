use Rattle.std.proofs.Common.{arith}
use Rattle.b2_alpha.proofs.TurningBack.{rotated_byte}
use Rattle.b2_alpha.proofs.laws.eight_bits_are_a_byte.Goals as goal

pub returns : goal.returns
returns c = rotated_byte c.args.bytes.now c.requires (λ k. let fits = c.type_inv.bytes k in omega arith)
