use Rattle.std.proofs.Common.{◌*◌, ◌^◌, ◌≤◌, refl, arith}
use Rattle.std.proofs.Math.Nat.{pow-le-pow_right}
use Rattle.b2_alpha.proofs.Turning.{bytes_of_bits, none_above}
use Rattle.b2_alpha.proofs.number.fits.Goals as goal

pub returns-in-1-to-7 : goal.returns-in-1-to-7
returns-in-1-to-7 c =
    rw (bytes_of_bits c.args.n) (none_above c.args.v (8 * c.args.n))

pub returns-in_default : goal.returns-in_default
returns-in_default c =
    let power : 256 ^ 8 ≤ 256 ^ c.args.n = pow-le-pow_right {n = 256} (omega arith) {i = 8} {j = c.args.n} (omega arith) in
    ((λ _. omega arith), (λ _. refl))
