use Rattle.std.proofs.Common.{◌≡◌, ◌==◌, true, false, eqb-true, eq-eqb}
use Rattle.b2_pack.proofs.DigitLemmas.{fits-zero, fits-some}
use Rattle.b2_pack.proofs.rows.row_fits.Goals as goal

pub returns-then-is_zero : goal.returns-then-is_zero
returns-then-is_zero c =
    let none : (c.args.x.coef == 0) ≡ true = cc in
    fits-zero c.args.x c.args.row.decimals c.args.row.digits (eqb-true c.args.x.coef 0 none)

pub returns : goal.returns
returns c =
    let some : (c.args.x.coef == 0) ≡ false = cc in
    rw c.place.ensures.value (fits-some c.args.x c.args.row.decimals c.args.row.digits c.is_zero.ensures.spelling (λ e. let zero_there : (c.args.x.coef == 0) ≡ true = eq-eqb c.args.x.coef 0 e in cc))
