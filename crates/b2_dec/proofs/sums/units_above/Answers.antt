use Rattle.std.proofs.Common.{div-le_self}
use Rattle.b2_dec.proofs.TenLemmas.{ten_pos}
use Rattle.b2_dec.proofs.Nearby.{units_above-is}
use Rattle.b2_dec.proofs.sums.units_above.Goals as goal

pub nonzero_div-result : goal.nonzero_div-result
nonzero_div-result c = rw c.ten_to.ensures (ten_pos _)

pub returns-clause-value : goal.returns-clause-value
returns-clause-value c = rw (c.ten_to.ensures, c.min.ensures) (units_above-is c.args.coef c.args.places c.requires)

pub returns-clause-bound : goal.returns-clause-bound
returns-clause-bound c = div-le_self c.args.coef c.ten_to.result
