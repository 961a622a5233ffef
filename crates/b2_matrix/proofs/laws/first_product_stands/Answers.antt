use Rattle.std.proofs.Common.{refl}
use Rattle.b2_dec.specs.Number.{zero_number}
use Rattle.b2_dec.proofs.Exact.{sum-zero_left}
use Rattle.b2_matrix.proofs.laws.first_product_stands.Goals as goal

pub returns : goal.returns
returns c = λ mode x is. sum-zero_left mode zero_number x refl is
