use Rattle.std.proofs.Common.{ap, ◌∙◌, arith}
use Rattle.b2_alpha.specs.Places.{number_in_base}
use Rattle.b2_alpha.proofs.Modular.{number_in_base-sum_in}
use Rattle.b2_alpha.proofs.sums.addc.Goals as goal

pub returns-clause-modular : goal.returns-clause-modular
returns-clause-modular c = ap (number_in_base 256) c.sum_bytes.ensures ∙ number_in_base-sum_in 256 c.args.to.now c.args.from.now (omega arith)
