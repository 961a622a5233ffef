use Rattle.std.proofs.Common.{ap, arith}
use Rattle.b2_vars.specs.Shapes.{cost}
use Rattle.b2_vars.proofs.Counts.{count-insert}
use Rattle.b2_vars.proofs.Soundness.{found-cost}
use Rattle.b2_vars.proofs.laws.values_take_nothing.Goals as goal

pub returns : goal.returns
returns c = λ t v x found shape. omega (arith, count-insert t v x, found-cost t v found, ap (cost v) shape)
