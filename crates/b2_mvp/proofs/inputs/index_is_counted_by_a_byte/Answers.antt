use Rattle.std.proofs.Common.{arith}
use Rattle.b2_mvp.proofs.SoundImages.{few_in_index}
use Rattle.b2_mvp.proofs.inputs.index_is_counted_by_a_byte.Goals as goal

pub returns : goal.returns
returns c = few_in_index c.args.image.now (λ i. omega (arith, c.type_inv.image i))
