use Rattle.std.proofs.Common.{◌≡◌, ◌==◌, true, false, sym, ◌∙◌, ap, eqb-true, not}
use Rattle.b2_print.proofs.DigitLemmas.{reaches-at, reaches-zero, least}
use Rattle.b2_print.proofs.filling.reaches.Goals as goal

pub returns-then-not-is_zero : goal.returns-then-not-is_zero
returns-then-not-is_zero c =
    let some : (c.args.x.coef == 0) ≡ false = cc in
    let many = least c.args.x c.is_zero.ensures.spelling some in
    rw c.place.ensures.value (reaches-at c.args.x c.args.k many c.is_zero.ensures.spelling.digits)

pub returns-else-not-is_zero : goal.returns-else-not-is_zero
returns-else-not-is_zero c =
    let none : (c.args.x.coef == 0) ≡ true = cc in
    ap not c.if-not-is_zero.false ∙ sym (reaches-zero c.args.x c.args.k (eqb-true c.args.x.coef 0 none))
