use Rattle.std.proofs.Common.{arith}
use Rattle.b2_platter.proofs.Volumes.{volume_spelled}
use Rattle.b2_platter.proofs.platter.image_is_what_it_says.Goals as goal

pub returns : goal.returns
returns c = volume_spelled c.args.bytes.now c.requires (λ i. omega (arith, c.type_inv.bytes i))
