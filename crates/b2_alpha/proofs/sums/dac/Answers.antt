use Rattle.std.proofs.Common.{ap, ◌∙◌}
use Rattle.b2_alpha.specs.Sums.{decimal_value}
use Rattle.b2_alpha.proofs.DecimalSums.{decimal_value-sum}
use Rattle.b2_alpha.proofs.sums.dac.Goals as goal

pub returns-clause-modular : goal.returns-clause-modular
returns-clause-modular c = ap decimal_value c.sum_decimals.ensures ∙ decimal_value-sum c.args.to.now c.args.from.now
