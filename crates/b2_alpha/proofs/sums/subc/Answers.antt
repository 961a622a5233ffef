use Rattle.std.proofs.Common.{◌+◌, ◌%◌, ◌^◌, length, ap, ◌∙◌, arith}
use Rattle.b2_alpha.specs.Places.{number_in_base}
use Rattle.b2_alpha.proofs.Modular.{number_in_base-difference_in}
use Rattle.b2_alpha.proofs.sums.subc.Goals as goal

pub returns-clause-modular : goal.returns-clause-modular
returns-clause-modular c =
    ap (λ l. (number_in_base 256 l + number_in_base 256 c.args.from.now) % 256 ^ length c.args.to.now) c.sum_bytes.ensures
    ∙ number_in_base-difference_in 256 c.args.to.now c.args.from.now (omega arith) (λ k. let fits = c.type_inv.from k in omega arith)
